-- The first k of the output are the whole numbers of the first k heights, and what stands past them is as it was. Assumes nothing.
use Rattle.std.proofs.Common.{◌≡◌, ◌++◌, map, take, drop}
use Rattle.plate.specs.Datum.{height_of}
use Rattle.readback.proofs.write_heights.Given as goal

abbrev pub invariant-loop-k : goal.invariant-loop-k
invariant-loop-k l = l.out ≡ map height_of (take l.k l.heights) ++ drop l.k l.initial.out
