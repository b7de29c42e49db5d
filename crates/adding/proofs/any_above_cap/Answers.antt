-- A turn finds nothing where its cell is not above its cap.
use Rattle.std.proofs.Common.{below_more}
use Rattle.lists.proofs.Checks.{or-false}
use Rattle.table.specs.Limits.{above}
use Rattle.adding.proofs.any_above_cap.Goals as goal

pub loop-j-preserved : goal.loop-j-preserved
unfolding above
loop-j-preserved c = λ z. let e = or-false _ _ z in below_more _ _ (c.loop-j.invariant e.0) (λ u. e.1)
