-- Every mark that was passed is there. Assumes nothing.
use Rattle.std.proofs.Common.{◌≡◌, ℕ, ◌≤◌, ◌<◌, get_or}
use Rattle.cases.proofs.lent.end_of_marks.Given as goal

abbrev pub invariant-loop-i : goal.invariant-loop-i
invariant-loop-i g l = (k : ℕ) → k < l.i → l.from ≤ k → get_or l.output k g.T.Mark.none ≡ g.T.Mark.mark k
