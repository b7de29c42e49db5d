-- The first i entries of the list are the least errors of the counts 1 to i. Assumes nothing.
use Rattle.std.proofs.Common.{◌+◌}
use Rattle.lists.specs.Rewrite.{Span}
use Rattle.sequence.specs.Least.{least_of}
use Rattle.sequence.specs.Sheets.{mark}
use Rattle.plan.specs.Working.{rules_of}
use Rattle.plan.proofs.Work.fill_list.Given as goal

abbrev pub invariant-loop-i : goal.invariant-loop-i
invariant-loop-i l = Span 0 0 l.i (λ k x. mark (least_of (rules_of l.self) (k + 1))) l.initial.list l.list
