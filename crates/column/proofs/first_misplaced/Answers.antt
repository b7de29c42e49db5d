-- What `find` passes is a misplaced boundary. Assumes nothing.
use Rattle.std.proofs.Common.{◌≡◌, true, false, rules}
use Rattle.std.proofs.lemmas.Iterator.{first_from_Range}
use Rattle.lists.proofs.Search.{lowest-found}
use Rattle.column.specs.Order.{misplaced}
use Rattle.column.proofs.first_misplaced.Goals as goal

pub returns : goal.returns
returns c =
    let a = c.args in
    lowest-found _ _ _
    (first_from_Range _ _ _ _ (λ i. misplaced a.height a.column.now i ≡ true) (λ i. misplaced a.height a.column.now i ≡ false) c.find.ensures.ran (λ x q k. search rules) (λ x q k. search rules))
