-- The cells of a table one by one: the cell of a layer; and, named by their index as document 01's refusals name them, which
-- are out of bounds. Assumes nothing.
use Rattle.std.specs.Prelude.{ℕ, Bool, List, ltb, get_or}
use Rattle.lists.specs.Search.{lowest}
use Rattle.paper.specs.Layer.{tmax}
use Rattle.paper.specs.Table.{cell_index, thickness_at}
use Rattle.plate.specs.Datum.{row_of}
use Rattle.plate.specs.Head.{Held, cells_of, limit_of}
use Rattle.plate.specs.declared.head.Head.{Head}

-- the cell of the layer from the datum height h of thickness t
unfoldable pub cell_from : ℕ → List ℕ → ℕ → ℕ → ℕ
cell_from T table h t = get_or table (cell_index (tmax T) (row_of (tmax T) h) t) 0

-- cell i is out of bounds
unfoldable pub out_of_bounds : Head → List ℕ → ℕ → Bool
out_of_bounds head table i = ltb (limit_of head (thickness_at head.members i)) (get_or table i 0)

-- the lowest such cell, and the number of cells where there is none
unfoldable pub first_out : Held → ℕ
first_out held = lowest (out_of_bounds held.head held.buffer) (cells_of held.head)
