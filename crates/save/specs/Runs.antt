-- Document 02 a): 'The lists come as one run of boundaries and one of counts per column'. Assumes nothing.
use Rattle.std.specs.Prelude.{ℕ, ◌+◌, ◌*◌, List, [], ◌∷◌, length, take, drop}
use Rattle.paper.specs.Layer.{Column, column_of}

-- the boundaries of all columns together
unfoldable pub total : List ℕ → ℕ
total [] = 0
total (count ∷ counts) = count + total counts

-- the columns of a run: the first takes as many boundaries as its count says, the next goes on behind it
unfoldable pub columns_in : List ℕ → List ℕ → List Column
columns_in [] run = []
columns_in (count ∷ counts) run = column_of (take count run) ∷ columns_in counts (drop count run)

-- 'Length = 22 + 4·k + 2·(sum of counts)'
unfoldable pub file_size : List ℕ → ℕ
file_size counts = 22 + 4 * length counts + 2 * total counts

-- the boundaries that columns have together
unfoldable pub boundary_count : List Column → ℕ
boundary_count [] = 0
boundary_count (column ∷ columns) = length column.boundaries + boundary_count columns
