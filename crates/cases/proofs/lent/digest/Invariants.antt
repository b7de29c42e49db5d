-- The digest so far is a fold over the numbers so far. Assumes nothing.
use Rattle.std.proofs.Common.{◌≡◌, take, fold}
use Rattle.cases.specs.Cases.{digest_with}
use Rattle.cases.proofs.lent.digest.Given as goal

abbrev pub invariant-loop-x : goal.invariant-loop-x
invariant-loop-x g l = l.sum ≡ fold (λ d x. digest_with d (g.T.Number.value x)) 0 (take l.x-index l.lent)
