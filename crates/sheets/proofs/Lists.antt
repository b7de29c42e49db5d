-- What is read of a list: within it the same, whatever is read past its end. And the best of some places, counted from 0 or from where they
-- stand: the same, with each place raised. Both by induction. Assumes nothing.
use Prim.Native.Nat.{ℕ, zero, suc, ◌+◌, ◌<◌}
use mathlib.Core.Path.{◌≡◌, refl, sym, ap, ◌∙◌}
use mathlib.Core.Bool.{Bool, true, false, cond}
use mathlib.Core.List.{List, [], ◌∷◌}
use mathlib.Core.Option.{Option, none, some}
use native.Mathlib.Nat.{not-suc-le-zero, le_of_suc-le-suc}
use native.Mathlib.Omega.{arith}
use lib.Dec.{ltb}
use lib.ListN.{length, get_or}
use Rattle.lists.specs.Best.{Best, nothing, found, value, better, best_of}

pub get_or-within : (l : List ℕ) (i c d : ℕ) → i < length l → get_or l i c ≡ get_or l i d
get_or-within [] i c d h = absurd (not-suc-le-zero h)
get_or-within (x ∷ l) zero c d h = refl
get_or-within (x ∷ l) (suc i) c d h = get_or-within l i c d (le_of_suc-le-suc h)

abbrev pub raised : ℕ → Best → Best
raised a nothing = nothing
raised a (found e t) = found e (a + t)

pub raised-value : (a : ℕ) (b : Best) → value (raised a b) ≡ value b
raised-value a nothing = refl
raised-value a (found e t) = refl

raised-better : (a : ℕ) (b : Best) (t : ℕ) (o : Option ℕ) → raised a (better b t o) ≡ better (raised a b) (a + t) o
raised-better a b t none = refl
raised-better a nothing t (some e) = refl
raised-better a (found e₀ t₀) t (some e) = go (ltb e e₀)
  where
    go : (c : Bool) → raised a (cond c (found e t) (found e₀ t₀)) ≡ cond c (found e (a + t)) (found e₀ (a + t₀))
    go true = refl
    go false = refl

pub best-raised : (f : ℕ → Option ℕ) (a k : ℕ) → best_of f a k ≡ raised a (best_of (λ i. f (a + i)) 0 k)
unfolding best_of
best-raised f a zero = refl
best-raised f a (suc k) =
    let e : 0 + k ≡ k = omega arith in
    ap (λ (b : Best). better b (a + k) (f (a + k))) (best-raised f a k)
    ∙ sym (ap (λ (i : ℕ). raised a (better (best_of (λ i. f (a + i)) 0 k) i (f (a + i)))) e ∙ raised-better a (best_of (λ i. f (a + i)) 0 k) k (f (a + k)))
