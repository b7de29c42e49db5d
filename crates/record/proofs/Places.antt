-- Checks keep their numbers where they are placed at a record's first byte, and then every one of them has that place; where all of a list have
-- one place, the first that holds has it. By induction on the list: a check that does not hold is passed over. Assumes nothing.
use mathlib.Core.Path.{◌≡◌, refl, sym, ap, ◌∙◌}
use mathlib.Core.Bool.{Bool, true, false, cond}
use mathlib.Core.List.{List, [], ◌∷◌, ◌++◌}
use mathlib.Core.Option.{none, some}
use Prim.Native.Nat.{ℕ}
use native.Mathlib.Omega.{arith}
use Rattle.lists.specs.Checks.{Check, first}
use Rattle.plate.specs.Refusal.{Numbered}
use Rattle.record.specs.Places.{placed, At}

module _ (at : ℕ) where
  pub placed-none : (cs : List (Check Numbered)) → first cs ≡ none → first (placed at cs) ≡ none
  placed-none [] e = refl
  placed-none (c ∷ cs) e = go c.holds e (placed-none cs)
    where
      go : (b : Bool) → cond b (some c.says) (first cs) ≡ none → (first cs ≡ none → first (placed at cs) ≡ none)
          → cond b (some (record { number = c.says.number; place = at })) (first (placed at cs)) ≡ none
      go true q k = absurd (let z : ◌≡◌ {A = ℕ} 0 1 = cc in omega arith)
      go false q k = k q

  pub placed-some : (cs : List (Check Numbered)) (r : Numbered) → first cs ≡ some r → first (placed at cs) ≡ some (record { number = r.number; place = at })
  placed-some [] r e = absurd (let z : ◌≡◌ {A = ℕ} 0 1 = cc in omega arith)
  placed-some (c ∷ cs) r e = go c.holds e (placed-some cs r)
    where
      go : (b : Bool) → cond b (some c.says) (first cs) ≡ some r → (first cs ≡ some r → first (placed at cs) ≡ some (record { number = r.number; place = at }))
          → cond b (some (record { number = c.says.number; place = at })) (first (placed at cs)) ≡ some (record { number = r.number; place = at })
      go true q k = let n : c.says.number ≡ r.number = cc in λ i. some (record { number = n i; place = at })
      go false q k = k q

  -- checks that pass where they are placed pass
  pub placed-passed : (cs : List (Check Numbered)) → first (placed at cs) ≡ none → first cs ≡ none
  placed-passed [] e = refl
  placed-passed (c ∷ cs) e = go c.holds e (placed-passed cs)
    where
      go : (b : Bool) → cond b (some (record { number = c.says.number; place = at })) (first (placed at cs)) ≡ none → (first (placed at cs) ≡ none → first cs ≡ none)
          → cond b (some c.says) (first cs) ≡ none
      go true q k = absurd (let z : ◌≡◌ {A = ℕ} 0 1 = cc in omega arith)
      go false q k = k q

  pub placed_at : (cs : List (Check Numbered)) → At at (placed at cs)
  placed_at [] = tt
  placed_at (c ∷ cs) = (refl, placed_at cs)

  pub both_at : (cs ds : List (Check Numbered)) → At at cs → At at ds → At at (cs ++ ds)
  both_at [] ds a b = b
  both_at (c ∷ cs) ds a b = (a.0, both_at cs ds a.1 b)

  pub at_place : (cs : List (Check Numbered)) (r : Numbered) → At at cs → first cs ≡ some r → r.place ≡ at
  at_place [] r a e = absurd (let z : ◌≡◌ {A = ℕ} 0 1 = cc in omega arith)
  at_place (c ∷ cs) r a e = go c.holds e (at_place cs r a.1)
    where
      go : (b : Bool) → cond b (some c.says) (first cs) ≡ some r → (first cs ≡ some r → r.place ≡ at) → r.place ≡ at
      go true q k = let f : c.says ≡ r = cc in sym (ap (λ (x : Numbered). x.place) f) ∙ a.0
      go false q k = k q
