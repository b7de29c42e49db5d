-- Heights counted from the datum, 32 units under the plate, so that every height of a plan is a natural number. Assumes nothing.
use Rattle.std.specs.Prelude.{ℕ, ◌+◌, ◌-◌, ℤ, pos, negsuc}
use Rattle.std.proofs.Math.IntN.{sub_ℕ}

-- z + 32, and 0 for every z of -32 or less, which no plan has
abbrev pub datum : ℤ → ℕ
datum (pos n) = n + 32
datum (negsuc n) = 31 - n

-- h - 32
abbrev pub height_of : ℕ → ℤ
height_of h = sub_ℕ h 32

-- the row of a start or of a height in a table or a sheet whose lowest is -(tmax - 1): from the datum height to the row, and back
abbrev pub row_of : ℕ → ℕ → ℕ
row_of tmax h = h + tmax - 33

abbrev pub at_row : ℕ → ℕ → ℕ
at_row tmax row = row + 33 - tmax
