-- Rewriting the front of a buffer, for elements of any type: what the list then holds at each place, two rewritings one after
-- the other, and that a list which holds the right elements is the rewritten one. Assumes nothing.
use mathlib.Core.Path.{◌≡◌, refl, sym, ap, ◌∙◌}
use mathlib.Core.List.{List, [], ◌∷◌}
use Prim.Native.Nat.{ℕ, zero, suc, ◌≤◌, ◌<◌}
use native.Mathlib.Nat.{not-suc-le-zero, le_of_suc-le-suc}
use native.Mathlib.Omega.{arith}
use native.Mathlib.Decide.{dec_lt}
use lib.ListN.{length, get_or}
use lib.Seq.{ext_get_or}
use Rattle.lists.specs.Rewrite.{rewritten}

module _ {A : Type 0} where
  pub length-rewritten : (g : ℕ → A → A) (n : ℕ) (l : List A) → length (rewritten g n l) ≡ length l
  unfolding rewritten
  length-rewritten g zero l = refl
  length-rewritten g (suc n) [] = refl
  length-rewritten g (suc n) (x ∷ l) = ap suc (length-rewritten (λ i. g (suc i)) n l)

  -- a place below n, and one from n on
  pub rewritten-at : (g : ℕ → A → A) (n : ℕ) (l : List A) (i : ℕ) (d : A) → i < n → i < length l → get_or (rewritten g n l) i d ≡ g i (get_or l i d)
  unfolding rewritten
  rewritten-at g zero l i d h k = absurd (not-suc-le-zero h)
  rewritten-at g (suc n) [] i d h k = absurd (not-suc-le-zero k)
  rewritten-at g (suc n) (x ∷ l) zero d h k = refl
  rewritten-at g (suc n) (x ∷ l) (suc i) d h k = rewritten-at (λ j. g (suc j)) n l i d (le_of_suc-le-suc h) (le_of_suc-le-suc k)

  pub rewritten-past : (g : ℕ → A → A) (n : ℕ) (l : List A) (i : ℕ) (d : A) → n ≤ i → get_or (rewritten g n l) i d ≡ get_or l i d
  unfolding rewritten
  rewritten-past g zero l i d h = refl
  rewritten-past g (suc n) [] i d h = refl
  rewritten-past g (suc n) (x ∷ l) zero d h = absurd (not-suc-le-zero h)
  rewritten-past g (suc n) (x ∷ l) (suc i) d h = rewritten-past (λ j. g (suc j)) n l i d (le_of_suc-le-suc h)

  -- a list that holds these elements is the rewritten one
  pub rewritten-is : (d : A) (g : ℕ → A → A) (n : ℕ) (old new : List A) → length new ≡ length old
      → ((i : ℕ) → i < n → i < length old → get_or new i d ≡ g i (get_or old i d))
      → ((i : ℕ) → n ≤ i → get_or new i d ≡ get_or old i d)
      → new ≡ rewritten g n old
  rewritten-is d g n old new long done rest = ext_get_or d new (rewritten g n old) (long ∙ sym (length-rewritten g n old)) at
    where
      go : (i : ℕ) → i < length new → Dec (i < n) → get_or new i d ≡ get_or (rewritten g n old) i d
      go i l (yes u) = done i u (omega arith) ∙ sym (rewritten-at g n old i d u (omega arith))
      go i l (no u) = rest i (omega arith) ∙ sym (rewritten-past g n old i d (omega arith))

      at : (i : ℕ) → i < length new → get_or new i d ≡ get_or (rewritten g n old) i d
      at i l = go i l (dec_lt i n)

  pub rewritten-twice : (f g : ℕ → A → A) (n : ℕ) (l : List A) → rewritten g n (rewritten f n l) ≡ rewritten (λ i x. g i (f i x)) n l
  unfolding rewritten
  rewritten-twice f g zero l = refl
  rewritten-twice f g (suc n) [] = refl
  rewritten-twice f g (suc n) (x ∷ l) = ap (λ (r : List A). g 0 (f 0 x) ∷ r) (rewritten-twice (λ i. f (suc i)) (λ i. g (suc i)) n l)
