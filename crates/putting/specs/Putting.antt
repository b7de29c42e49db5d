-- A last layer put on the sequences of one row, count after count, in a part of each sheet. The thickness sheet's part has the entries of the
-- counts that it ends at. The error sheet's part begins with the entries that it starts from and ends with those that it ends at, which
-- lie `apart` after them; `cell` is its error and t its thickness. Assumes nothing.
use Rattle.std.specs.Prelude.{ℕ, ◌+◌, ◌-◌, ◌/◌, ◌≤◌, ◌<◌, ◌≡◌, cond, List, ltb, length, get_or}
use Rattle.lists.specs.Rewrite.{Span}
use Rattle.paper.specs.Sheets.{missing}

-- an entry with a layer's error more, and none where that leaves an entry, as it does where there is none
unfoldable pub sum_or_none : ℕ → ℕ → ℕ
sum_or_none e cell = cond (ltb (missing - cell) e) missing (e + cell)

-- the error of the sequence at the place i with the layer on it
abbrev pub sum_at : List ℕ → ℕ → ℕ → ℕ
sum_at errors cell i = sum_or_none (get_or errors i 0) cell

-- what the two sheets hold then, where they held `error` and `thickness`: of equal errors the one that was there stays
unfoldable pub better_error : ℕ → ℕ → ℕ
better_error sum error = cond (ltb sum error) sum error

unfoldable pub better_thickness : ℕ → ℕ → ℕ → ℕ → ℕ
better_thickness sum error t thickness = cond (ltb sum error) t thickness

-- the layer is put on the sequences of n counts from `first` on, and all else is as it was before
pub record PutOn (apart first cell t n : ℕ) (errors-before thicknesses-before errors thicknesses : List ℕ) : Type 0 where
  pub errors-are : Span 0 (apart + first) n (λ m x. better_error (sum_at errors-before cell (first + m)) x) errors-before errors
  pub thicknesses-are : Span 0 first n (λ m x. better_thickness (sum_at errors-before cell (first + m)) (get_or errors-before (apart + first + m) 0) t x) thicknesses-before thicknesses

-- the n counts from `first` on have entries in both parts, and what is read of all counts lies before what is written
pub record Placed (apart first n : ℕ) (errors thicknesses : List ℕ) : Type 0 where
  pub before : length thicknesses ≤ apart
  pub errors-long : apart + length thicknesses ≤ length errors
  pub inside : first + n ≤ length thicknesses

-- the layer is put on the sequences of all counts of the thickness sheet's part, and nothing is done where the error sheet's part has not twice
-- as many entries
pub record PutAll (cell t : ℕ) (errors-before thicknesses-before errors thicknesses : List ℕ) : Type 0 where
  pub put : length thicknesses-before ≤ length errors-before / 2
      → PutOn (length errors-before - length thicknesses-before) 0 cell t (length thicknesses-before) errors-before thicknesses-before errors thicknesses
  pub not-put : length errors-before / 2 < length thicknesses-before → (errors ≡ errors-before) × (thicknesses ≡ thicknesses-before)
