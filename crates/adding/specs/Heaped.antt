-- What the loops of adding a column ask of a cell: whether it is one to which the column adds and above its limit. A row's cells are named by
-- its first cell and their place in the row. Assumes nothing.
use Rattle.std.specs.Prelude.{◌≡◌, ℕ, ◌+◌, ◌*◌, ◌<◌, Bool, false, ◌&&◌, List, ltb}
use Rattle.paper.specs.Layer.{Column}
use Rattle.table.specs.Limits.{above, above_at}
use Rattle.adding.specs.Adding.{addend}

unfoldable pub heaped : ℕ → List ℕ → List ℕ → Column → ℕ → ℕ → Bool
heaped T limits table column base j = ltb 0 (addend T column (base + j)) && above limits table base j

-- the same of the cell of index i, in rows of this width
unfoldable pub heaped_at : ℕ → List ℕ → List ℕ → Column → ℕ → ℕ → Bool
heaped_at T limits table column width i = ltb 0 (addend T column i) && above_at limits table width i

-- none of the rows below this one has such a cell
abbrev pub NoneHeaped : ℕ → List ℕ → List ℕ → Column → ℕ → ℕ → Type 0
NoneHeaped T limits table column width row = (i : ℕ) → i < row * width → heaped_at T limits table column width i ≡ false
