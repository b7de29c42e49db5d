-- A table that a call is handed, its refusals 1, 2, 3, 7, 6, and what is known of one that passed them; and document 01's 'Clear a table'.
-- Assumes nothing.
use Rattle.std.specs.Prelude.{ℕ, ◌≤◌, ◌<◌, ◌≡◌, false, List, [], ◌∷◌, ◌++◌, ltb, length, get_or}
use Rattle.lists.specs.Checks.{Check}
use Rattle.lists.specs.Rewrite.{rewritten}
use Rattle.paper.specs.Table.{cells, thickness_at, InBounds}
use Rattle.plate.specs.Refusal.{Told, Numbered, check}
use Rattle.plate.specs.Settings.{settings_checks}
use Rattle.plate.specs.Call.{Call, answer_of, left_by}
use Rattle.plate.specs.Head.{Held, held_in, cleared_head, is_over, cells_of, limit_of, head_checks, over_check}
use Rattle.plate.specs.declared.head.Head.{Head}
use Rattle.plate.specs.declared.settings.Settings.{Settings}
use Rattle.table.specs.Cells.{first_out}
use Rattle.table.specs.Limits.{UnderGreatest}

-- 3: lent buffer shorter than stated; tables are numbered from 1
unfoldable pub short : Held → ℕ → Check Numbered
short held number = check 3 (ltb (length held.buffer) (cells_of held.head)) number

-- 6: cell out of bounds, the lowest
unfoldable pub out_cell : Held → Check Numbered
out_cell held = check 6 (ltb (first_out held) (cells_of held.head)) (first_out held)

-- 7 and 6: a count beyond 1,000,000, or a cell that is not in bounds for it
unfoldable pub bound_checks : Held → List (Check Numbered)
bound_checks held = over_check held.head ∷ out_cell held ∷ []

-- a table that a call is handed: 1, 2, 3, 7, 6
unfoldable pub table_rest : Held → List (Check Numbered)
table_rest held = short held 1 ∷ bound_checks held

unfoldable pub table_checks : Held → List (Check Numbered)
table_checks held = head_checks held.head ++ table_rest held

-- the cells are in bounds for what goes with them
abbrev pub Bounded : Held → Type 0
Bounded held = InBounds held.head.height held.head.members held.head.columns held.buffer

-- what is known of a table that passed them
pub record InOrder (held : Held) (s : Settings) : Type 0 where
  pub room : s.cells ≤ length held.buffer
  pub few : is_over held.head ≡ false
  pub bounded : (i : ℕ) → i < s.cells → get_or held.buffer i 0 ≤ limit_of held.head (thickness_at held.head.members i)
  pub small : UnderGreatest s.cells held.buffer

-- ---- Clear a table: 1, 2, 3. All cells 0, count 0

unfoldable pub cleared : ℕ → ℕ → List ℕ → List ℕ
cleared N T table = rewritten (λ i x. 0) (cells N T) table

unfoldable pub clearing : ℕ → ℕ → List ℕ → Call Head (List ℕ)
clearing N T table = record {
  checks = settings_checks N T ++ (short (held_in (cleared_head N T) table) 1 ∷ []);
  value = cleared_head N T;
  writes = cleared N T table;
  held = table;
}

abbrev pub clear_answer : ℕ → ℕ → List ℕ → Told Head
clear_answer N T table = answer_of (clearing N T table)

abbrev pub clear_table : ℕ → ℕ → List ℕ → List ℕ
clear_table N T table = left_by (clearing N T table)
