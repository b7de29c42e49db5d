-- The tie order: it is reflexive, transitive, total, and two that precede one another are equal.
-- Assumes nothing.
use Prim.Native.Nat.{ℕ, ◌<◌}
use mathlib.Core.Path.{◌≡◌, refl, ap₂}
use mathlib.Core.Logic.{◌⊎◌, inl, inr}
use mathlib.Core.List.{List, [], ◌∷◌}
use native.Mathlib.Omega.{arith}
use native.Mathlib.Decide.{dec_lt}
use Rattle.sequence.specs.Sequence.{Sequence, First, Before}

pub first-refl : (us : List ℕ) → First us us
first-refl [] = tt
first-refl (u ∷ us) = inr (refl, first-refl us)

pub first-trans : (us vs ws : List ℕ) → First us vs → First vs ws → First us ws
first-trans [] vs ws p q = tt
first-trans (u ∷ us) [] ws p q = absurd p
first-trans (u ∷ us) (v ∷ vs) [] p q = absurd q
first-trans (u ∷ us) (v ∷ vs) (w ∷ ws) (inl p) (inl q) = inl (omega arith)
first-trans (u ∷ us) (v ∷ vs) (w ∷ ws) (inl p) (inr q) = inl (omega arith)
first-trans (u ∷ us) (v ∷ vs) (w ∷ ws) (inr p) (inl q) = inl (omega arith)
first-trans (u ∷ us) (v ∷ vs) (w ∷ ws) (inr p) (inr q) = inr (omega arith, first-trans us vs ws p.1 q.1)

pub first-antisym : (us vs : List ℕ) → First us vs → First vs us → us ≡ vs
first-antisym [] [] p q = refl
first-antisym [] (v ∷ vs) p q = absurd q
first-antisym (u ∷ us) [] p q = absurd p
first-antisym (u ∷ us) (v ∷ vs) (inl p) (inl q) = absurd (omega arith)
first-antisym (u ∷ us) (v ∷ vs) (inl p) (inr q) = absurd (omega arith)
first-antisym (u ∷ us) (v ∷ vs) (inr p) (inl q) = absurd (omega arith)
first-antisym (u ∷ us) (v ∷ vs) (inr p) (inr q) = ap₂ ◌∷◌ p.0 (first-antisym us vs p.1 q.1)

pub first-total : (us vs : List ℕ) → First us vs ⊎ First vs us
first-total [] vs = inl tt
first-total (u ∷ us) [] = inr tt
first-total (u ∷ us) (v ∷ vs) = go (dec_lt u v) (dec_lt v u) (first-total us vs)
  where
    go : Dec (u < v) → Dec (v < u) → First us vs ⊎ First vs us → First (u ∷ us) (v ∷ vs) ⊎ First (v ∷ vs) (u ∷ us)
    go (yes l) d ih = inl (inl l)
    go (no l) (yes g) ih = inr (inl g)
    go (no l) (no g) (inl p) = inl (inr (omega arith, p))
    go (no l) (no g) (inr p) = inr (inr (omega arith, p))

pub before-antisym : (s r : Sequence) → Before s r → Before r s → s ≡ r
before-antisym s r p q = go (first-antisym (s.top ∷ s.layers) (r.top ∷ r.layers) p q)
  where
    go : s.top ∷ s.layers ≡ r.top ∷ r.layers → s ≡ r
    go e =
        let t : s.top ≡ r.top = cc in
        let l : s.layers ≡ r.layers = cc in
        λ i. record { top = t i; layers = l i }
