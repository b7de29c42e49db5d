-- A turn puts the first of the numbers that are left, and at the end none is left. Assumes nothing.
use Rattle.std.proofs.Common.{◌+◌, drop, ap, ◌∙◌}
use Rattle.text.specs.Page.{lay}
use Rattle.cases.specs.Shown.{next_text, each_text, cells_text}
use Rattle.cases.proofs.Texts.{each-next, each-end}
use Rattle.cases.proofs.show.U32Shown.put.Goals as goal

pub loop-x-preserved : goal.loop-x-preserved
loop-x-preserved c =
    let l = c.loop-x in
    ap (lay (each_text next_text (drop (l.x-index + 1) c.args.items.now))) c.next.ensures
    ∙ each-next next_text _ l.x-index l.page c.loop-x-test.true
    ∙ l.invariant

pub returns : goal.returns
unfolding cells_text
returns c = each-end next_text _ c.loop-x.x-index _ c.loop-x-test.false ∙ c.loop-x.invariant
