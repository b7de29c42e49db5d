-- Document 01, 'Add a column': 1, 2, 3, 7 (c already 1,000,000 or more), 4, 5, 6. 'Only cells of an allowed thickness with a share above 0
-- are looked at for 6 (against c) and only they change. Returns c+1.' Assumes nothing.
use Rattle.std.specs.Prelude.{ℕ, ◌+◌, ◌≤◌, ◌<◌, ◌≡◌, Bool, false, ◌&&◌, List, [], ◌∷◌, ◌++◌, ltb, length, get_or}
use Rattle.lists.specs.Checks.{Check}
use Rattle.lists.specs.Search.{lowest}
use Rattle.lists.specs.Rewrite.{rewritten}
use Rattle.paper.specs.Layer.{Column, share}
use Rattle.paper.specs.Table.{cell_of}
use Rattle.plate.specs.Refusal.{Told, Numbered, check}
use Rattle.plate.specs.Call.{Call, answer_of, left_by}
use Rattle.plate.specs.Head.{Held, more, is_full, cells_of, head_checks}
use Rattle.plate.specs.declared.head.Head.{Head}
use Rattle.plate.specs.declared.settings.Settings.{Settings}
use Rattle.column.specs.Order.{column_checks}
use Rattle.table.specs.Cells.{out_of_bounds}
use Rattle.table.specs.Table.{short}

-- what a column adds to cell i: its share, where the thickness is allowed
unfoldable pub addend : ℕ → Column → ℕ → ℕ
addend T column i = cell_of T (share column.boundaries) i

-- the lowest cell out of bounds among those to which the column adds
unfoldable pub overfull : Head → List ℕ → Column → ℕ → Bool
overfull head table column i = ltb 0 (addend head.members column i) && out_of_bounds head table i

unfoldable pub first_overfull : Held → Column → ℕ
first_overfull held column = lowest (overfull held.head held.buffer column) (cells_of held.head)

unfoldable pub overfull_cell : Held → Column → Check Numbered
overfull_cell held column = check 6 (ltb (first_overfull held column) (cells_of held.head)) (first_overfull held column)

-- 3, 7, 4, 5, 6
unfoldable pub add_rest : Held → Column → List (Check Numbered)
add_rest held column =
    short held 1
    ∷ check 7 (is_full held.head) 0
    ∷ (column_checks held.head.height column.boundaries ++ (overfull_cell held column ∷ []))

unfoldable pub added : Held → Column → List ℕ
added held column = rewritten (λ i x. x + addend held.head.members column i) (cells_of held.head) held.buffer

unfoldable pub adding : Held → Column → Call Head (List ℕ)
adding held column = record {
  checks = head_checks held.head ++ add_rest held column;
  value = more held.head;
  writes = added held column;
  held = held.buffer;
}

abbrev pub add_answer : Held → Column → Told Head
add_answer held column = answer_of (adding held column)

abbrev pub add_table : Held → Column → List ℕ
add_table held column = left_by (adding held column)

-- what is known where none of the refusals is given: the table is whole, there is room for one more, and what is added fits the cells, which
-- are 32 bits wide
pub record Addable (held : Held) (column : Column) (s : Settings) : Type 0 where
  pub room : s.cells ≤ length held.buffer
  pub few : is_full held.head ≡ false
  pub fits : (i : ℕ) → i < s.cells → get_or held.buffer i 0 < 4294967296 → get_or held.buffer i 0 + addend held.head.members column i < 4294967296
