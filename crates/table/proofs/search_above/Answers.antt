-- What `find` passes is a cell above its limit.
use Rattle.std.proofs.Common.{◌≡◌, true, false, rules}
use Rattle.std.proofs.lemmas.Iterator.{first_from_Range}
use Rattle.table.specs.Limits.{above}
use Rattle.lists.proofs.Search.{lowest-found}
use Rattle.table.proofs.search_above.Goals as goal

pub returns : goal.returns
unfolding above
returns c =
    let a = c.args in
    lowest-found _ _ _
    (first_from_Range _ _ _ _ (λ x. above a.limits.now a.table.now a.base x ≡ true) (λ x. above a.limits.now a.table.now a.base x ≡ false) c.find.ensures.ran (λ x q k. search rules) (λ x q k. search rules))
