-- The lines that are left, put where the loop stands, are all of them put where it began. Assumes nothing.
use Rattle.std.proofs.Common.{◌≡◌, ◌-◌}
use Rattle.text.specs.Page.{lay}
use Rattle.report.specs.Lines.{count_lines}
use Rattle.report.specs.Work.{blank_sequence, sheet_line}
use Rattle.report.proofs.put_counts.Given as goal

abbrev pub invariant-loop-n : goal.invariant-loop-n
invariant-loop-n l =
    lay (count_lines (sheet_line l.height l.members l.errors l.thicknesses blank_sequence) l.n (l.counts - l.n)) l.page
    ≡ lay (count_lines (sheet_line l.height l.members l.errors l.thicknesses blank_sequence) 0 l.counts) l.initial.page
