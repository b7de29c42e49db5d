-- A turn finds nothing where its difference is neither negative nor above its limit.
use Rattle.std.proofs.Common.{sym, ◌∙◌, below_more}
use Rattle.lists.proofs.Checks.{or-false}
use Rattle.joining.specs.Parts.{apart}
use Rattle.joining.proofs.any_apart.Goals as goal

pub loop-j-preserved : goal.loop-j-preserved
unfolding apart
loop-j-preserved c = λ z. let e = or-false _ _ z in below_more _ _ (c.loop-j.invariant e.0) (sym c.is_apart-found.ensures ∙ e.1)
