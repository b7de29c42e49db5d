-- What goes with a table, document 01's 'With a table goes its column count c', together with the settings that it was made for: its
-- arithmetic and its limits, here and nowhere else. Assumes nothing.
use Rattle.std.specs.Prelude.{ℕ, ◌+◌, ◌-◌, min, ◌≡◌, Bool, ◌||◌, List, leb, ltb, length}
use Rattle.lists.specs.Checks.{Check}
use Rattle.paper.specs.Limits.{most_columns}
use Rattle.paper.specs.Layer.{Column}
use Rattle.paper.specs.Table.{cells, limit}
use Rattle.plate.specs.Refusal.{Numbered, check}
use Rattle.plate.specs.Settings.{settings_checks, settings_of, Sound}
use Rattle.plate.specs.declared.settings.Settings.{Settings}
use Rattle.plate.specs.declared.head.Head.{Head}

-- a table at the front of a buffer, and what goes with it
pub record Held : Type 0 where
  pub head : Head
  pub buffer : List ℕ

abbrev pub held_in : Head → List ℕ → Held
held_in head buffer = record { head = head; buffer = buffer }

-- ---- arithmetic

-- of a table that was cleared
abbrev pub cleared_head : ℕ → ℕ → Head
cleared_head N T = record { height = N; members = T; columns = 0 }

-- the same with so many columns
abbrev pub with_columns : Head → ℕ → Head
with_columns head columns = record { height = head.height; members = head.members; columns = columns }

-- the same columns under these settings
abbrev pub settled_head : ℕ → ℕ → Head → Head
settled_head N T head = record { height = N; members = T; columns = head.columns }

-- of the table of these columns: the one way to a head for whoever knows the columns
abbrev pub head_of : ℕ → ℕ → List Column → Head
head_of N T columns = with_columns (cleared_head N T) (length columns)

-- one column more
abbrev pub more : Head → Head
more head = with_columns head (head.columns + 1)

-- both tables' columns, and the difference
abbrev pub both : Head → Head → Head
both head other = with_columns head (head.columns + other.columns)

abbrev pub less : Head → Head → Head
less head other = with_columns head (head.columns - other.columns)

-- no more columns than a table can have
abbrev pub capped : Head → Head
capped head = with_columns head (min head.columns most_columns)

-- ---- limits

-- columns beyond the most that a table can have
unfoldable pub is_over : Head → Bool
is_over head = ltb most_columns head.columns

-- of two tables: either, or both together
abbrev pub either_over : Head → Head → Bool
either_over head other = is_over head || is_over other

abbrev pub any_over : Head → Head → Bool
any_over head other = either_over head other || is_over (both head other)

-- no room for one more
unfoldable pub is_full : Head → Bool
is_full head = leb most_columns head.columns

-- fewer than another's
unfoldable pub is_less : Head → Head → Bool
is_less head other = ltb head.columns other.columns

-- the number of cells, and the most that a cell of thickness t can hold
abbrev pub cells_of : Head → ℕ
cells_of head = cells head.height head.members

unfoldable pub limit_of : Head → ℕ → ℕ
limit_of head t = limit head.members head.columns t

-- the settings that the table was made for
pub record SettingsFor (head : Head) (s : Settings) : Type 0 where
  pub is : s ≡ settings_of head.height head.members
  pub sound : Sound s

-- ---- checks

-- 1 and 2
abbrev pub head_checks : Head → List (Check Numbered)
head_checks head = settings_checks head.height head.members

-- 7: columns beyond 1,000,000
abbrev pub over_check : Head → Check Numbered
over_check head = check 7 (is_over head) 0
