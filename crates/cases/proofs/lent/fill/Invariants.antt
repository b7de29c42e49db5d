-- One mark after the other is laid. Assumes nothing.
use Rattle.lists.specs.Rewrite.{Span}
use Rattle.cases.proofs.lent.fill.Given as goal

abbrev pub invariant-loop-i : goal.invariant-loop-i
invariant-loop-i g l = Span g.T.Mark.none 0 l.i (λ k x. g.T.Mark.mark k) l.initial.output l.output
