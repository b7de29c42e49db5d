-- `put_boundaries` meets its contract: a turn puts the first of the boundaries that are left, and at the end none is left. Assumes nothing.
use Rattle.std.proofs.Common.{◌+◌, take, drop, ap, ◌∙◌}
use Rattle.text.specs.Page.{lay}
use Rattle.report.specs.Lines.{boundaries_text}
use Rattle.report.proofs.Boundaries.{boundary-next, boundary_end}
use Rattle.report.proofs.put_boundaries.Goals as goal

pub loop-i-preserved : goal.loop-i-preserved
loop-i-preserved c =
    let l = c.loop-i in
    let a = c.args in
    ap (lay (boundaries_text (drop (l.i + 1) (take a.count a.sequence.now)))) c.put_boundary.ensures
    ∙ boundary-next a.sequence.now a.count l.i l.page c.requires c.loop-i-test.true
    ∙ l.invariant

pub returns : goal.returns
returns c = boundary_end _ _ c.loop-i.i _ c.loop-i-test.false ∙ c.loop-i.invariant
