-- Document 01, 'Table': its cells, what they hold, and when a cell is in bounds. A table stands at the front of a buffer, which may
-- be longer. Assumes nothing.
use Rattle.std.specs.Prelude.{ℕ, ◌+◌, ◌-◌, ◌*◌, ◌/◌, ◌%◌, ◌≤◌, ◌<◌, ◌≡◌, cond, List, length, get_or, ℤ, pos, negsuc, ◌+ℤ◌, ◌-ℤ◌}
use Rattle.paper.specs.Limits.{most_columns}
use Rattle.paper.specs.Layer.{allowed, tmax, Plate}

-- a cell for each start from -(tmax - 1) to N + tmax - 2 and each thickness from 1 to tmax
unfoldable pub rows : ℕ → ℕ → ℕ
rows N T = N + 2 * tmax T - 2

unfoldable pub cells : ℕ → ℕ → ℕ
cells N T = rows N T * tmax T

-- thickness running fastest: the index of the cell of a row and a thickness t, where a row is tmax cells; and the start and the
-- thickness of the cell of index i
abbrev pub cell_index : ℕ → ℕ → ℕ → ℕ
cell_index tmax row t = row * tmax + (t - 1)

unfoldable pub start_at : ℕ → ℕ → ℤ
start_at T i = pos (i / tmax T) -ℤ pos (tmax T - 1)

unfoldable pub thickness_at : ℕ → ℕ → ℕ
thickness_at T i = i % tmax T + 1

-- a cell of an allowed thickness holds the layer's error; the others hold 0
unfoldable pub cell_of : ℕ → (ℤ → ℕ → ℕ) → ℕ → ℕ
cell_of T layer_error i = cond (allowed T (thickness_at T i)) (layer_error (start_at T i) (thickness_at T i)) 0

-- the buffer holds the plate's table
pub record Table (p : Plate) (buffer : List ℕ) : Type 0 where
  pub size : cells p.N p.T ≤ length buffer
  pub holds : (i : ℕ) → i < cells p.N p.T → get_or buffer i 0 ≡ cell_of p.T p.layer_error i

-- a cell is in bounds if it is at most c times half of t rounded down, and 0 where t isn't allowed
unfoldable pub limit : ℕ → ℕ → ℕ → ℕ
limit T c t = cond (allowed T t) (c * (t / 2)) 0

-- the buffer holds a table of c columns with every cell in bounds; with a table goes its column count c, at most 1,000,000
pub record InBounds (N T c : ℕ) (buffer : List ℕ) : Type 0 where
  pub size : cells N T ≤ length buffer
  pub columns : c ≤ most_columns
  pub bounded : (i : ℕ) → i < cells N T → get_or buffer i 0 ≤ limit T c (thickness_at T i)

-- a whole number, and 0 where it is below 0
abbrev pub natural : ℤ → ℕ
natural (pos n) = n
natural (negsuc n) = 0

-- the cell of the layer from z of thickness t: its row is how far z is above the table's first start
abbrev pub cell_at : ℕ → List ℕ → ℤ → ℕ → ℕ
cell_at T buffer z t = get_or buffer (cell_index (tmax T) (natural (z +ℤ pos (tmax T - 1))) t) 0

-- the plate of a table: there a layer's error is its cell
abbrev pub of_table : ℕ → ℕ → List ℕ → Plate
of_table N T buffer = record { N = N; T = T; layer_error = cell_at T buffer }
