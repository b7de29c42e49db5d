-- Where nothing is apart there is no lowest; and what `find` passes is a difference that is negative or above its limit.
use Rattle.std.proofs.Common.{◌≡◌, true, false, rules}
use Rattle.std.proofs.lemmas.Iterator.{first_from_Range}
use Rattle.lists.proofs.Search.{lowest-none, lowest-found}
use Rattle.joining.specs.Parts.{apart}
use Rattle.joining.proofs.apart_row.Goals as goal

pub returns-then-not-any_apart : goal.returns-then-not-any_apart
returns-then-not-any_apart c = lowest-none _ _ (c.any_apart.ensures c.if-not-any_apart.true)

pub returns : goal.returns
unfolding apart
returns c =
    let a = c.args in
    lowest-found _ _ _
    (first_from_Range _ _ _ _ (λ x. apart a.limits.now a.table.now a.other.now a.base x ≡ true) (λ x. apart a.limits.now a.table.now a.other.now a.base x ≡ false) c.find.ensures.ran (λ x q k. search rules) (λ x q k. search rules))
