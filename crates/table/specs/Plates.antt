-- The table of a plate's columns, as it stands at the front of a lent buffer, and what goes with it. Assumes nothing.
use Rattle.std.specs.Prelude.{ℕ, List}
use Rattle.lists.specs.Rewrite.{rewritten}
use Rattle.paper.specs.Layer.{Column, shares}
use Rattle.paper.specs.Table.{cells, cell_of}
use Rattle.plate.specs.Head.{Held, held_in, head_of}

-- a buffer with the table of these columns written into it: what stands past the table stays
unfoldable pub table_of : ℕ → ℕ → List Column → List ℕ → List ℕ
table_of N T columns old = rewritten (λ i x. cell_of T (shares columns) i) (cells N T) old

abbrev pub plate_held : ℕ → ℕ → List Column → List ℕ → Held
plate_held N T columns old = held_in (head_of N T columns) (table_of N T columns old)
