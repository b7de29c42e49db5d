-- The first cells are the numbers so far. Assumes nothing.
use Rattle.std.proofs.Common.{◌≡◌, take}
use Rattle.record.specs.Bytes.{quads}
use Rattle.receive.proofs.fill_row.Given as goal

abbrev pub invariant-loop-j : goal.invariant-loop-j
invariant-loop-j l = take l.j l.cells ≡ quads l.file l.at l.j
