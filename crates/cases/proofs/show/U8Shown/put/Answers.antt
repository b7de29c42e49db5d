-- A turn puts the first of the bytes that are left, and at the end none is left. Assumes nothing.
use Rattle.std.proofs.Common.{◌+◌, drop, ap, ◌∙◌}
use Rattle.text.specs.Page.{lay}
use Rattle.text.proofs.Pages.{laid-onto}
use Rattle.cases.specs.Shown.{space, byte_text, each_text, bytes_text}
use Rattle.cases.proofs.Texts.{each-next, each-end}
use Rattle.cases.proofs.show.U8Shown.put.Goals as goal

pub loop-x-preserved : goal.loop-x-preserved
loop-x-preserved c =
    let l = c.loop-x in
    ap (lay (each_text byte_text (drop (l.x-index + 1) c.args.items.now))) c.byte.ensures
    ∙ each-next byte_text _ l.x-index l.page c.loop-x-test.true
    ∙ l.invariant

pub returns : goal.returns
unfolding bytes_text space
returns c = laid-onto _ _ _ _ _ c.put_text.ensures (each-end byte_text _ c.loop-x.x-index _ c.loop-x-test.false ∙ c.loop-x.invariant)
