-- What `find` passes is a layer whose cure time is 0. Assumes nothing.
use Rattle.std.proofs.Common.{◌≡◌, true, false, eqb, rules}
use Rattle.std.proofs.lemmas.Iterator.{first_from_Range}
use Rattle.lists.proofs.Search.{lowest-found}
use Rattle.paper.specs.Sequence.{thickness}
use Rattle.printed.specs.Possible.{cure_of}
use Rattle.orders.proofs.Sequences.{layers-are}
use Rattle.orders.proofs.Rising.first_uncured.Goals as goal

pub returns : goal.returns
returns c =
    let a = c.args in
    rw (layers-are a.self.now.boundaries.now a.self.now.climbs)
    (lowest-found _ _ _
    (first_from_Range _ _ _ _ (λ k. eqb (cure_of a.cure.now (thickness a.self.now.boundaries.now k)) 0 ≡ true) (λ k. eqb (cure_of a.cure.now (thickness a.self.now.boundaries.now k)) 0 ≡ false) c.find.ensures.ran
    (λ x q k. search rules) (λ x q k. search rules)))
