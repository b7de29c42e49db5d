-- Document 01, 'One plate in full': N = 4, T = {2, 3}, columns A = 1, 4 and B = 0, 3. The facts marked P1 to P13 as one list, over the
-- documents' own definitions, P4 to P6 with document 02 g)'s differences. Assumes nothing.
use Rattle.std.specs.Prelude.{ℕ, ◌<◌, ◌≡◌, Bool, false, List, [], ◌∷◌, ℤ, pos, neg_ℤ, Float}
use Rattle.paper.specs.Limits.{largest_bound}
use Rattle.paper.specs.Layer.{Plate, Column, column_of, of_columns, share, filled, difference, shares}
use Rattle.paper.specs.Table.{cells, start_at, thickness_at, cell_of}
use Rattle.paper.specs.Sequence.{error, M, Chosen, None}
use Rattle.paper.specs.Motor.{Times, MotorHeight}

abbrev pub A : List ℕ
A = 1 ∷ 4 ∷ []

abbrev pub B : List ℕ
B = 0 ∷ 3 ∷ []

abbrev pub both : List Column
both = column_of A ∷ column_of B ∷ []

abbrev pub plate : List Column → Plate
plate columns = of_columns 4 6 columns

-- no bound in effect
abbrev pub free : ℕ
free = largest_bound

abbrev pub minus : ℕ → ℤ
minus n = neg_ℤ (pos n)

pub data Fact : Type 0 where
  -- the index of a cell: its start, its thickness, and what it holds
  cell : ℕ → ℤ → ℕ → ℕ → Fact
  -- the picture of a column in a layer, its share and its difference
  picture : List ℕ → ℤ → ℕ → Bool → ℕ → ℤ → Fact
  -- a column of no boundaries
  empty : Fact
  -- columns, bound, count: the error and the boundaries of the chosen sequence; or none
  plan : List Column → ℕ → ℕ → ℕ → List ℤ → Fact
  none : List Column → ℕ → ℕ → Fact
  -- the greatest count
  counts : ℕ → Fact
  -- a step and a boundary: the motor height in thousandths
  motor : ℕ → ℤ → ℤ → Fact

abbrev pub Holds : Fact → Type 0
Holds (cell i z t e) = (i < cells 4 6) × (start_at 6 i ≡ z) × (thickness_at 6 i ≡ t) × (cell_of 6 (shares both) i ≡ e)
Holds (picture bs z t f s d) = (filled bs z t ≡ f) × (share bs z t ≡ s) × (difference bs z t ≡ d)
Holds empty = (z : ℤ) (t : ℕ) → (share [] z t ≡ 0) × (difference [] z t ≡ minus t)
Holds (plan columns bound n e zs) = Chosen (plate columns) bound n zs × (error (plate columns) zs ≡ e)
Holds (none columns bound n) = None (plate columns) bound n
Holds (counts m) = M 4 6 ≡ m
Holds (motor s z thousandths) = (x : Float) × MotorHeight s z x × Times 1000 x thousandths

abbrev pub All : List Fact → Type 0
All [] = Unit {0}
All (f ∷ fs) = Holds f × All fs

abbrev pub facts : List Fact
facts =
    -- P1 to P3
    cell 7 (pos 0) 2 1
    ∷ cell 5 (minus 1) 3 2
    ∷ cell 10 (pos 1) 2 0
    -- P4 to P6
    ∷ picture A (pos 0) 2 false 1 (pos 0)
    ∷ picture (1 ∷ 2 ∷ []) (pos 0) 3 false 1 (minus 1)
    ∷ empty
    -- P7 to P9
    ∷ plan both free 2 2 (pos 0 ∷ pos 2 ∷ pos 4 ∷ [])
    ∷ plan (column_of A ∷ []) free 2 0 (minus 1 ∷ pos 1 ∷ pos 4 ∷ [])
    ∷ plan (column_of B ∷ []) free 2 0 (pos 0 ∷ pos 3 ∷ pos 5 ∷ [])
    -- P10 to P12
    ∷ none both 0 2
    ∷ plan both 1 2 2 (pos 0 ∷ pos 2 ∷ pos 4 ∷ [])
    ∷ none both free 1
    -- P13
    ∷ motor 15 (minus 1) (minus 1875)
    -- the rest of what the plate prints by document 02 b): the greatest count, and the count 3
    ∷ counts 3
    ∷ plan both free 3 2 (minus 1 ∷ pos 1 ∷ pos 3 ∷ pos 5 ∷ [])
    ∷ []
