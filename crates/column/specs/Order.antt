-- The order of a column: refusals 4 and 5. Assumes nothing.
use Rattle.std.specs.Prelude.{ℕ, ◌-◌, ◌%◌, Bool, false, cond, ◌||◌, List, [], ◌∷◌, leb, ltb, eqb, length, get_or}
use Rattle.lists.specs.Checks.{Check}
use Rattle.lists.specs.Search.{lowest}
use Rattle.paper.specs.Limits.{most_boundaries}
use Rattle.plate.specs.Refusal.{Numbered, check}

-- boundary i is not above the one before, or above N
unfoldable pub misplaced : ℕ → List ℕ → ℕ → Bool
misplaced N bs i = ltb N (get_or bs i 0) || cond (eqb i 0) false (leb (get_or bs i 0) (get_or bs (i - 1) 0))

-- the first such index, and the length where there is none
unfoldable pub first_misplaced : ℕ → List ℕ → ℕ
first_misplaced N bs = lowest (misplaced N bs) (length bs)

-- 'boundary count odd or above 64'
abbrev pub wrong_count : ℕ → Bool
wrong_count n = eqb (n % 2) 1 || ltb most_boundaries n

-- 'boundary not above the one before, or above N'
abbrev pub disordered : ℕ → List ℕ → Bool
disordered N bs = ltb (first_misplaced N bs) (length bs)

-- 4 and 5 of a column
unfoldable pub column_checks : ℕ → List ℕ → List (Check Numbered)
column_checks N bs = check 4 (wrong_count (length bs)) (length bs) ∷ check 5 (disordered N bs) (first_misplaced N bs) ∷ []
