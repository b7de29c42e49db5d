-- One mark after the other is laid, the first fifty and then those that come again. Assumes nothing.
use Rattle.std.proofs.Common.{min}
use Rattle.lists.specs.Rewrite.{Span}
use Rattle.cases.proofs.lent.fill_recurring.Given as goal

abbrev pub invariant-loop-i : goal.invariant-loop-i
invariant-loop-i g l = Span g.T.Mark.none 0 l.i (λ k x. g.T.Mark.mark k) l.initial.output l.output

abbrev pub invariant-loop-i-2 : goal.invariant-loop-i-2
invariant-loop-i-2 g l = Span g.T.Mark.none 0 (min l.i l.end) (λ k x. g.T.Mark.mark k) l.fn.output l.output
