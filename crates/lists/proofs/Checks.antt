-- The one law on refusals: the first check that holds is the one that is answered, and it is answered exactly when it holds and
-- nothing earlier in the list does. By induction on the list: a check that does not hold is passed over. Assumes nothing.
use mathlib.Core.Path.{◌≡◌, refl, ap, ◌∙◌}
use mathlib.Core.Logic.{◌↔◌}
use mathlib.Core.Bool.{Bool, true, false, cond, ◌||◌}
use mathlib.Core.List.{List, [], ◌∷◌, ◌++◌}
use mathlib.Core.Option.{none, some}
use Prim.Native.Nat.{ℕ}
use native.Mathlib.Omega.{arith}
use Rattle.lists.specs.Checks.{Check, first, Quiet, Given}

-- a check that asks for one of two things does not hold: neither does
pub or-false : (a b : Bool) → a || b ≡ false → (a ≡ false) × (b ≡ false)
or-false true b e = absurd (let z : ◌≡◌ {A = ℕ} 0 1 = cc in omega arith)
or-false false b e = (refl, e)

module _ {R : Type 0} where
  -- none is said exactly where none holds
  first-silent : (cs : List (Check R)) → first cs ≡ none → Quiet cs
  first-silent [] e = tt
  first-silent (c ∷ cs) e = go c.holds refl e (first-silent cs)
    where
      go : (b : Bool) → c.holds ≡ b → cond b (some c.says) (first cs) ≡ none → (first cs ≡ none → Quiet cs) → (c.holds ≡ false) × Quiet cs
      go true h q r = absurd (let z : ◌≡◌ {A = ℕ} 0 1 = cc in omega arith)
      go false h q r = (h, r q)

  -- checks of which none holds are passed over
  pub first-quiet : (cs ds : List (Check R)) → Quiet cs → first (cs ++ ds) ≡ first ds
  first-quiet [] ds q = refl
  first-quiet (c ∷ cs) ds q = rw q.0 (first-quiet cs ds q.1)

  none-quiet : (cs : List (Check R)) → Quiet cs → first cs ≡ none
  none-quiet [] q = refl
  none-quiet (c ∷ cs) q = rw q.0 (none-quiet cs q.1)

  pub first-none : (cs : List (Check R)) → (first cs ≡ none) ↔ Quiet cs
  first-none cs = (first-silent cs, none-quiet cs)

  -- two lists asked one after the other: the first passes, or it stops
  pub first-passed : (cs ds : List (Check R)) → first cs ≡ none → first (cs ++ ds) ≡ first ds
  first-passed cs ds e = first-quiet cs ds (first-silent cs e)

  pub first-stopped : (cs ds : List (Check R)) (r : R) → first cs ≡ some r → first (cs ++ ds) ≡ some r
  first-stopped [] ds r e = absurd (let z : ◌≡◌ {A = ℕ} 0 1 = cc in omega arith)
  first-stopped (c ∷ cs) ds r e = go c.holds e (first-stopped cs ds r)
    where
      go : (b : Bool) → cond b (some c.says) (first cs) ≡ some r → (first cs ≡ some r → first (cs ++ ds) ≡ some r)
          → cond b (some c.says) (first (cs ++ ds)) ≡ some r
      go true q k = q
      go false q k = k q

  given-first : (cs : List (Check R)) (r : R) → Given cs r → first cs ≡ some r
  given-first cs r g =
      ap first g.order ∙ first-quiet g.earlier (g.it ∷ g.later) g.quiet ∙ rw g.holds (ap some g.says)

  given-later : (c : Check R) (cs : List (Check R)) (r : R) → c.holds ≡ false → Given cs r → Given (c ∷ cs) r
  given-later c cs r h g = record {
    earlier = c ∷ g.earlier;
    it = g.it;
    later = g.later;
    order = ap (λ (l : List (Check R)). c ∷ l) g.order;
    quiet = (h, g.quiet);
    holds = g.holds;
    says = g.says;
  }

  first-given : (cs : List (Check R)) (r : R) → first cs ≡ some r → Given cs r
  first-given [] r e = absurd (let z : ◌≡◌ {A = ℕ} 0 1 = cc in omega arith)
  first-given (c ∷ cs) r e = go c.holds refl e (first-given cs r)
    where
      go : (b : Bool) → c.holds ≡ b → cond b (some c.says) (first cs) ≡ some r → (first cs ≡ some r → Given cs r) → Given (c ∷ cs) r
      go true h q k = record { earlier = []; it = c; later = cs; order = refl; quiet = tt; holds = h; says = cc }
      go false h q k = given-later c cs r h (k q)

  -- THE LAW
  pub first-exactly : (cs : List (Check R)) (r : R) → (first cs ≡ some r) ↔ Given cs r
  first-exactly cs r = (first-given cs r, given-first cs r)

  -- where nothing is said of two lists, nothing is said of the second
  pub first-later : (cs ds : List (Check R)) → first (cs ++ ds) ≡ none → first ds ≡ none
  first-later [] ds e = e
  first-later (c ∷ cs) ds e = go c.holds e (first-later cs ds)
    where
      go : (b : Bool) → cond b (some c.says) (first (cs ++ ds)) ≡ none → (first (cs ++ ds) ≡ none → first ds ≡ none) → first ds ≡ none
      go true q k = absurd (let z : ◌≡◌ {A = ℕ} 0 1 = cc in omega arith)
      go false q k = k q

  -- nor of the first
  pub first-earlier : (cs ds : List (Check R)) → first (cs ++ ds) ≡ none → first cs ≡ none
  first-earlier [] ds e = refl
  first-earlier (c ∷ cs) ds e = go c.holds e (first-earlier cs ds)
    where
      go : (b : Bool) → cond b (some c.says) (first (cs ++ ds)) ≡ none → (first (cs ++ ds) ≡ none → first cs ≡ none) → cond b (some c.says) (first cs) ≡ none
      go true q k = absurd (let z : ◌≡◌ {A = ℕ} 0 1 = cc in omega arith)
      go false q k = k q
