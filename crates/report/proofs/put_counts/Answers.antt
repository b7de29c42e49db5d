-- `put_counts` meets its contract: a turn puts the first of the lines that are left, and at the end none is left. Assumes nothing.
use Rattle.std.proofs.Common.{◌+◌, ◌-◌, ap, ◌∙◌}
use Rattle.text.specs.Page.{lay}
use Rattle.report.specs.Lines.{count_lines}
use Rattle.report.specs.Work.{blank_sequence, sheet_line}
use Rattle.report.proofs.Counts.{count_next, count-end}
use Rattle.report.proofs.put_counts.Goals as goal

pub loop-n-preserved : goal.loop-n-preserved
loop-n-preserved c =
    let l = c.loop-n in
    let a = c.args in
    let line = sheet_line a.height a.members a.errors.now a.thicknesses.now blank_sequence in
    ap (lay (count_lines line (l.n + 1) (a.counts - (l.n + 1)))) c.put_count.ensures
    ∙ count_next line l.n a.counts l.page c.loop-n-test.true
    ∙ l.invariant

pub returns : goal.returns
returns c = count-end _ c.loop-n.n _ _ c.loop-n-test.false ∙ c.loop-n.invariant
