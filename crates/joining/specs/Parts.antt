-- Refusal 9: whether a second table is a part of a first one, cell by cell. A row's cells are named by its first cell and their place in the
-- row. Assumes nothing.
use Rattle.std.specs.Prelude.{ℕ, ◌+◌, ◌-◌, ◌%◌, Bool, ◌||◌, List, nat_lt, slice_index}
use Rattle.lists.specs.Search.{lowest}
use Rattle.paper.specs.Table.{thickness_at}
use Rattle.plate.specs.Head.{Held, less, cells_of, limit_of}
use Rattle.plate.specs.declared.head.Head.{Head}

-- a cell less another one is negative or above a limit
abbrev pub is_apart : ℕ → ℕ → ℕ → Bool
is_apart limit cell other = nat_lt cell other || nat_lt limit (cell - other)

-- the lowest cell where the difference is negative or out of bounds for the difference of counts
unfoldable pub not_part : Head → List ℕ → List ℕ → ℕ → Bool
not_part rest table other i = is_apart (limit_of rest (thickness_at rest.members i)) (slice_index table i) (slice_index other i)

unfoldable pub first_not_part : Held → Held → ℕ
first_not_part held other = lowest (not_part (less held.head other.head) held.buffer other.buffer) (cells_of held.head)

-- a difference that is negative or above its limit, in a row
unfoldable pub apart : List ℕ → List ℕ → List ℕ → ℕ → ℕ → Bool
apart limits table other base j = is_apart (slice_index limits j) (slice_index table (base + j)) (slice_index other (base + j))

-- the same of the cells of index i, in rows of this width
unfoldable pub apart_at : List ℕ → List ℕ → List ℕ → ℕ → ℕ → Bool
apart_at limits table other width i = is_apart (slice_index limits (i % width)) (slice_index table i) (slice_index other i)
