-- A call's answer by its checks: it goes on where the first of them pass, stops where they do not, is refused exactly when document 01
-- says so, and its numbers say which reason it was. Assumes nothing.
use mathlib.Core.Path.{◌≡◌, refl, sym, ap}
use mathlib.Core.Logic.{◌↔◌}
use mathlib.Core.List.{List, ◌++◌}
use mathlib.Core.Option.{Option, none, some}
use Prim.Native.Nat.{ℕ}
use native.Mathlib.Omega.{arith}
use Rattle.lists.specs.Checks.{Check, first, Given}
use Rattle.lists.proofs.Checks.{first-passed, first-stopped, first-exactly}
use Rattle.plate.specs.declared.refusal.Reason.{Reason}
use Rattle.plate.specs.Refusal.{number_of, Told, done, refused, Numbered, told_by, decided, after}

told-refused : {X : Type 0} (o : Option Numbered) (x : X) (number place : ℕ) → told_by o x ≡ refused number place
    → o ≡ some (record { number = number; place = place })
told-refused none x n p e = absurd (let z : ◌≡◌ {A = ℕ} 0 1 = cc in omega arith)
told-refused (some r) x n p e =
    let a : r.number ≡ n = cc in
    let b : r.place ≡ p = cc in
    λ i. some (record { number = a i; place = b i })

pub refused-first : {X : Type 0} (cs : List (Check Numbered)) (x : X) (number place : ℕ) → decided cs x ≡ refused number place
    → first cs ≡ some (record { number = number; place = place })
refused-first cs x n p e = told-refused (first cs) x n p e

module _ {X : Type 0} where
  pub decided-passed : (cs ds : List (Check Numbered)) (x : X) → first cs ≡ none → decided (cs ++ ds) x ≡ decided ds x
  decided-passed cs ds x e = ap (λ (o : Option Numbered). told_by o x) (first-passed cs ds e)

  pub decided-stopped : (cs ds : List (Check Numbered)) (x : X) (r : Numbered) → first cs ≡ some r
      → decided (cs ++ ds) x ≡ refused r.number r.place
  decided-stopped cs ds x r e = ap (λ (o : Option Numbered). told_by o x) (first-stopped cs ds r e)

  pub told-done : (o : Option Numbered) (x y : X) → told_by o x ≡ done y → (o ≡ none) × (x ≡ y)
  told-done none x y e = (refl, cc)
  told-done (some r) x y e = absurd (let z : ◌≡◌ {A = ℕ} 0 1 = cc in omega arith)

  -- a refusal is given exactly when its test holds and nothing earlier in the call's order does
  pub refused-exactly : (cs : List (Check Numbered)) (x : X) (number place : ℕ)
      → (decided cs x ≡ refused number place) ↔ Given cs (record { number = number; place = place })
  refused-exactly cs x n p = (
    λ e. (first-exactly cs _).0 (told-refused (first cs) x n p e),
    λ g. ap (λ (o : Option Numbered). told_by o x) ((first-exactly cs (record { number = n; place = p })).1 g),
  )

  -- the same where the first checks were asked by a function of their own, which said `said`
  pub decided-said : (cs ds : List (Check Numbered)) (x : X) (reason : Reason) (place : ℕ)
      → some (record { number = number_of reason; place = place }) ≡ first cs → refused (number_of reason) place ≡ decided (cs ++ ds) x
  decided-said cs ds x reason place e = sym (decided-stopped cs ds x (record { number = number_of reason; place = place }) (sym e))

  -- what a lent buffer holds after an answer that is known
  pub after-refused : {B : Type 0} (t : Told X) (number place : ℕ) (written held : B) → refused number place ≡ t → held ≡ after t written held
  after-refused t n p new old e = ap (λ (t : Told X). after t new old) e

  pub after-done : {B : Type 0} (t : Told X) (x : X) (written held : B) → done x ≡ t → written ≡ after t written held
  after-done t x new old e = ap (λ (t : Told X). after t new old) e
