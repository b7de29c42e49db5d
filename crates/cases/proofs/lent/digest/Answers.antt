-- At the end the fold is over the whole front. Assumes nothing.
use Rattle.std.proofs.Common.{rules}
use Rattle.cases.proofs.Digests.{digest-whole}
use Rattle.cases.proofs.lent.digest.Goals as goal

pub returns : goal.returns
returns g c = digest-whole _ _ _ _ _ _ c.loop-x.invariant c.loop-x-test.false (search rules) (search rules)
