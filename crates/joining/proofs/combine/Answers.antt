-- A turn makes one cell, of which nothing was made before.
use Rattle.std.proofs.Common.{◌≡◌, arith}
use Rattle.joining.proofs.Combined.{combined_none, combined_set}
use Rattle.joining.proofs.combine.Goals as goal

pub loop-i-init : goal.loop-i-init
loop-i-init g c = combined_none

pub f-requires : goal.f-requires
f-requires g c = rw (c.loop-i.invariant.above c.loop-i.i (omega arith)) (c.requires.by_index c.loop-i.i (omega arith))

pub loop-i-preserved : goal.loop-i-preserved
loop-i-preserved g c = combined_set c.loop-i.invariant _ (omega arith) c.f.ensures

pub returns : goal.returns
returns g c = let e : c.args.cells ≡ c.loop-i.i = omega arith in rw e c.loop-i.invariant
