-- What is laid so far is laid by the characters so far. Assumes nothing.
use Rattle.std.proofs.Common.{◌≡◌}
use Rattle.cases.specs.Cases.{laid, laid_by}
use Rattle.cases.proofs.line.lay.Given as goal

abbrev pub invariant-loop-character : goal.invariant-loop-character
invariant-loop-character l = laid l.given l.halves ≡ laid_by l.words l.character-index l.initial.given
