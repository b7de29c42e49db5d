-- The first q rows are filled. Assumes nothing.
use Rattle.std.proofs.Common.{◌+◌}
use Rattle.lists.specs.Grid.{flat}
use Rattle.lists.specs.Rewrite.{Span}
use Rattle.paper.specs.Sheets.{row_start}
use Rattle.plan.specs.Rows.{least_at}
use Rattle.plan.specs.Working.{rules_of}
use Rattle.plan.proofs.Work.start_rows.Given as goal

abbrev pub invariant-loop-q : goal.invariant-loop-q
invariant-loop-q l =
    let s = l.self.settings in
    Span 0 0 (row_start s.counts l.q) (flat (s.counts + 1) (least_at s (rules_of l.self))) l.initial.errors l.errors
