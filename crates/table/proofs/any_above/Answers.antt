-- A turn finds nothing where neither of its two cells is above the limit.
use Rattle.std.proofs.Common.{below_more}
use Rattle.lists.proofs.Checks.{or-false}
use Rattle.table.specs.Limits.{above}
use Rattle.table.proofs.any_above.Goals as goal

pub loop-j-preserved : goal.loop-j-preserved
unfolding above
loop-j-preserved c = λ z.
    let e = or-false _ _ z in
    let f = or-false _ _ e.1 in
    let w = c.loop-j.invariant e.0 in
    (below_more _ _ w.0 f.0, below_more _ _ w.1 f.1)
