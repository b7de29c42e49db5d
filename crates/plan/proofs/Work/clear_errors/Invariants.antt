-- The first m entries of the row are cleared. Assumes nothing.
use Rattle.lists.specs.Rewrite.{Span}
use Rattle.paper.specs.Sheets.{row_start, missing}
use Rattle.plan.proofs.Work.clear_errors.Given as goal

abbrev pub invariant-loop-m : goal.invariant-loop-m
invariant-loop-m l = Span 0 (row_start l.self.settings.counts l.q) l.m (λ i x. missing) l.initial.errors l.errors
