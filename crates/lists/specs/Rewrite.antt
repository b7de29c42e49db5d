-- A buffer of any element whose elements are rewritten, each by what it was and where it stood. Assumes nothing.
use Rattle.std.specs.Prelude.{◌≡◌, List, [], ◌∷◌, ℕ, zero, suc, ◌+◌, ◌≤◌, ◌<◌, length, get_or}

-- the list with each element x of index i < n replaced by g i x; what stands from n on, and the length, stay
unfoldable pub rewritten : {A : Type 0} → (ℕ → A → A) → ℕ → List A → List A
rewritten g zero l = l
rewritten g (suc n) [] = []
rewritten g (suc n) (x ∷ l) = g 0 x ∷ rewritten (λ i. g (suc i)) n l

-- the same said of a span, for a loop over part of a buffer: `new` is `old` with the n elements from a on rewritten, the m-th of
-- them by g m. d is what is read past the end
pub record Span {A : Type 0} (d : A) (a n : ℕ) (g : ℕ → A → A) (old new : List A) : Type 0 where
  pub long : length new ≡ length old
  pub inside : (m : ℕ) → m < n → get_or new (a + m) d ≡ g m (get_or old (a + m) d)
  pub below : (i : ℕ) → i < a → get_or new i d ≡ get_or old i d
  pub above : (i : ℕ) → a + n ≤ i → get_or new i d ≡ get_or old i d
