-- What the loops over the rows of a table share: the limits of the 32 thicknesses, filled once, and the test of a cell against them. A row's
-- cells are named by its first cell and their place in the row. Assumes nothing.
use Rattle.std.specs.Prelude.{ℕ, ◌+◌, ◌%◌, ◌≤◌, ◌<◌, ◌≡◌, Bool, false, List, ltb, get_or}
use Rattle.paper.specs.Limits.{most_thickness}
use Rattle.plate.specs.Head.{limit_of}
use Rattle.plate.specs.declared.head.Head.{Head}

-- the limits of a table's cells: that of thickness j + 1 at j
pub record Limits (head : Head) (limits : List ℕ) : Type 0 where
  pub are : (j : ℕ) → j < most_thickness → get_or limits j 0 ≡ limit_of head (j + 1)

-- the greatest limit that there is: half of the greatest thickness for each of the most columns
abbrev pub greatest_limit : ℕ
greatest_limit = 16_000_000

-- the first n cells, or limits, are no greater
pub record UnderGreatest (n : ℕ) (numbers : List ℕ) : Type 0 where
  pub are : (i : ℕ) → i < n → get_or numbers i 0 ≤ greatest_limit

-- a cell above its limit
unfoldable pub above : List ℕ → List ℕ → ℕ → ℕ → Bool
above limits table base j = ltb (get_or limits j 0) (get_or table (base + j) 0)

-- no cell of a row is above its limit
abbrev pub NoneAbove : List ℕ → List ℕ → ℕ → ℕ → Type 0
NoneAbove limits table base width = (j : ℕ) → j < width → above limits table base j ≡ false

-- the same of the cell of index i, in rows of this width
unfoldable pub above_at : List ℕ → List ℕ → ℕ → ℕ → Bool
above_at limits table width i = ltb (get_or limits (i % width) 0) (get_or table i 0)
