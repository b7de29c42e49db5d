-- One cell more. Assumes nothing.
use Rattle.std.proofs.Common.{◌≡◌, suc, ◌+◌, get_or, ltb, refl, ap, ap₂, ◌∙◌, arith}
use mathlib.Core.Bool.{◌||◌}
use Rattle.lists.specs.Search.{some_below}
use Rattle.receive.specs.Rows.{over_at}
use Rattle.receive.proofs.any_over.Goals as goal

pub loop-j-init : goal.loop-j-init
unfolding some_below
loop-j-init c = refl

pub loop-j-preserved : goal.loop-j-preserved
unfolding some_below over_at
loop-j-preserved c =
    let l = c.loop-j in
    let a = c.args in
    let next : suc l.j ≡ l.j + 1 = omega arith in
    ap₂ ◌||◌ l.invariant (ap (ltb (get_or a.limits.now l.j 0)) c.cell_at.ensures) ∙ ap (some_below (over_at a.limits.now a.file.now a.at)) next
