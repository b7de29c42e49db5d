-- What a cell may hold for a column to be added to it: its limit where its thickness is allowed. Where it is not, nothing is added, and it may
-- hold whatever it does, up to the greatest number of 32 bits. Assumes nothing.
use Rattle.std.specs.Prelude.{ℕ, ◌+◌, ◌<◌, ◌≡◌, cond, List, ltb, get_or}
use Rattle.paper.specs.Layer.{allowed}
use Rattle.plate.specs.Head.{limit_of}
use Rattle.plate.specs.declared.head.Head.{Head}

abbrev pub greatest_cell : ℕ
greatest_cell = 4_294_967_295

unfoldable pub cap_of : Head → ℕ → ℕ
cap_of head t = cond (allowed head.members t) (limit_of head t) greatest_cell

-- the caps of a row of this width: that of thickness j + 1 at j
pub record Caps (head : Head) (width : ℕ) (caps : List ℕ) : Type 0 where
  pub are : (j : ℕ) → j < width → get_or caps j 0 ≡ cap_of head (j + 1)

-- they tell which thicknesses are allowed
pub record Allowing (T width : ℕ) (caps : List ℕ) : Type 0 where
  pub are : (j : ℕ) → j < width → ltb (get_or caps j 0) greatest_cell ≡ allowed T (j + 1)
