-- The best so far, as last layers of one thickness more are allowed: by no layer it is a start or nothing, a layer that no sequence ends with
-- changes nothing, one that is less takes the place, and by all thicknesses it is the least error and the last thickness.
-- Assumes nothing.
use Prim.Native.Nat.{ℕ, zero, suc, ◌+◌, ◌-◌, ◌≤◌, ◌<◌}
use mathlib.Core.Path.{◌≡◌, refl, sym, ap, ◌∙◌}
use mathlib.Core.Bool.{Bool, true, false, cond}
use mathlib.Core.Option.{none}
use native.Mathlib.Omega.{arith}
use native.Mathlib.Numerals.{add-one}
use Rattle.lists.specs.Best.{nothing, found, value, place, better, best_of}
use Rattle.sequence.specs.Sequence.{Rules, starts}
use Rattle.sequence.specs.Least.{via, best_to, least, last}
use Rattle.sequence.specs.Sheets.{mark}
use Rattle.sequence.proofs.Marks.{Small, better-less, better-keep, best-small}

-- by no layer
module _ (p : Rules) (h : ℕ) where
  pub none-start : (k : ℕ) → starts p.tmax h ≡ true → best_to p 0 h k ≡ found 0 0
  unfolding best_to
  none-start k e = rw e

  pub none_apart : (k : ℕ) → starts p.tmax h ≡ false → best_to p 0 h k ≡ nothing
  unfolding best_to
  none_apart k e = rw e

  pub none_yet : (m : ℕ) → 1 ≤ m → best_to p m h 0 ≡ nothing
  unfolding best_to best_of
  none_yet zero l = absurd (omega arith)
  none_yet (suc m) l = refl

  pub none_last : (m : ℕ) → place (best_to p m h 0) ≡ 0
  unfolding best_to best_of
  none_last zero = go (starts p.tmax h)
    where
      go : (b : Bool) → place (cond b (found 0 0) nothing) ≡ 0
      go true = refl
      go false = refl
  none_last (suc m) = refl

-- one thickness more
step : (p : Rules) (m h t : ℕ) → 1 ≤ t → best_to p (m + 1) h t ≡ better (best_to p (m + 1) h (t - 1)) t (via p (λ g. least p m g) h t)
unfolding best_to least best_of
step p m h zero l = absurd (omega arith)
step p m h (suc k) l =
    let e : suc k - 1 ≡ k = omega arith in
    let i : 1 + k ≡ suc k = omega arith in
    rw (add-one m, e, i)

-- one that no sequence ends with changes nothing
pub kept : (p : Rules) (h t i : ℕ) → 1 ≤ t → ((m : ℕ) → i ≡ m + 1 → via p (λ g. least p m g) h t ≡ none) → best_to p i h t ≡ best_to p i h (t - 1)
unfolding best_to
kept p h t zero l e = refl
kept p h t (suc m) l e =
    let f : via p (λ g. least p m g) h t ≡ none = e m (omega arith) in
    sym (ap (λ (i : ℕ). best_to p i h t) (add-one m)) ∙ step p m h t l ∙ ap (better (best_to p (m + 1) h (t - 1)) t) f ∙ ap (λ (i : ℕ). best_to p i h (t - 1)) (add-one m)

-- whether it is better
module _ (p : Rules) (m h t c : ℕ) (l : 1 ≤ t) (is : c ≡ mark (via p (λ g. least p m g) h t)) (all_small : (u : ℕ) → Small (via p (λ g. least p m g) h u)) where
  best-is-small : (k : ℕ) → Small (value (best_to p (m + 1) h k))
  unfolding best_to least
  best-is-small k = rw add-one (best-small (λ u. via p (λ g. least p m g) h u) 1 k (λ u a b. all_small u))

  pub taken : c < mark (value (best_to p (m + 1) h (t - 1))) → (c ≡ mark (value (best_to p (m + 1) h t))) × (t ≡ place (best_to p (m + 1) h t))
  taken u =
      let b = better-less (best_to p (m + 1) h (t - 1)) t (via p (λ g. least p m g) h t) (best-is-small (t - 1)) (omega arith) in
      rw (step p m h t l) (is ∙ sym b.0, sym b.1)

  pub left : mark (value (best_to p (m + 1) h (t - 1))) ≤ c → best_to p (m + 1) h t ≡ best_to p (m + 1) h (t - 1)
  left u = step p m h t l ∙ better-keep (best_to p (m + 1) h (t - 1)) t (via p (λ g. least p m g) h t) (all_small t) (omega arith)

-- by all thicknesses
module _ (p : Rules) (m h k : ℕ) (e : k ≡ p.tmax) where
  pub whole-value : value (best_to p m h k) ≡ least p m h
  unfolding least
  whole-value = rw e

  pub whole-place : place (best_to p m h k) ≡ last p m h
  unfolding last
  whole-place = rw e
