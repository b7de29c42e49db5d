-- What `find` passes is a thickness that a lift with these bits is by. Assumes nothing.
use Rattle.std.proofs.Common.{◌≡◌, ℕ, ◌+◌, refl, true, false, ◌&&◌, eqb, rules}
use Rattle.std.proofs.lemmas.Iterator.{first_from_Range}
use Rattle.printed.specs.Possible.{usable}
use Rattle.orders.specs.Layer.{height_bits}
use Rattle.orders.specs.File.{lifts_by}
use Rattle.orders.proofs.Lifts.{thickness-found}
use Rattle.orders.proofs.Setup.lift_by.Goals as goal

pub returns : goal.returns
unfolding lifts_by
returns c =
    let a = c.args in
    let by = λ (t : ℕ). usable a.self.now.settings.members a.self.now.cure.now t && eqb a.bits (height_bits a.self.now.step (a.rise + t)) in
    thickness-found _ by (λ i. refl) _ _
    (first_from_Range _ _ _ _ (λ t. by t ≡ true) (λ t. by t ≡ false) c.find.ensures.ran (λ x q k. search rules) (λ x q k. search rules))
