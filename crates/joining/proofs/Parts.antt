-- The tests of the loops that look for refusal 9, and what is known where it is not given. A cell's limit is the limit of its place in its
-- row, for the columns that are left. Assumes nothing.
use Rattle.std.proofs.Common.{◌≡◌, ℕ, ◌+◌, ◌-◌, ◌*◌, ◌<◌, ◌≤◌, ltb, List, get_or, ap, arith, ltb-false, le-ltb}
use lib.Arith.{digits_mod}
use Rattle.lists.proofs.Checks.{or-false}
use Rattle.lists.proofs.Search.{lowest-before, lowest-none}
use Rattle.paper.specs.Table.{thickness_at}
use Rattle.plate.specs.Head.{Held, less, cells_of, limit_of, SettingsFor}
use Rattle.plate.specs.declared.head.Head.{Head}
use Rattle.plate.specs.declared.settings.Settings.{Settings}
use Rattle.table.specs.Limits.{Limits}
use Rattle.table.proofs.Cells.{limit-at}
use Rattle.joining.specs.Parts.{is_apart, not_part, first_not_part, apart, apart_at}

module _ (limits table other : List ℕ) where
  -- the cell at a place of a row
  pub apart-row : (w r j : ℕ) → j < w → apart_at limits table other w (r * w + j) ≡ apart limits table other (r * w) j
  unfolding apart_at apart
  apart-row w r j l = ap (λ (x : ℕ). is_apart (get_or limits x 0) (get_or table (r * w + j) 0) (get_or other (r * w + j) 0)) (digits_mod r l)

-- the test against the limits of what is left is document 01's
pub part_at : {rest : Head} {s : Settings} → SettingsFor rest s → (limits table other : List ℕ) → Limits rest limits
    → (i : ℕ) → apart_at limits table other s.tmax i ≡ not_part rest table other i
unfolding apart_at not_part
part_at k limits table other are i = rw (limit-at k limits are i)

module _ (held other : Held) where
  -- 9 not given: every cell of the second is at most the first's
  pub part-le : cells_of held.head ≤ first_not_part held other → (i : ℕ) → i < cells_of held.head → get_or other.buffer i 0 ≤ get_or held.buffer i 0
  unfolding first_not_part not_part
  part-le h i l =
      ltb-false _ _
      (or-false (ltb (get_or held.buffer i 0) (get_or other.buffer i 0)) _ (lowest-before (not_part (less held.head other.head) held.buffer other.buffer) (cells_of held.head) i (omega arith))).0

  -- and the other way
  pub part-fine : ((i : ℕ) → i < cells_of held.head → get_or other.buffer i 0 ≤ get_or held.buffer i 0)
      → ((i : ℕ) → i < cells_of held.head
      → get_or held.buffer i 0 - get_or other.buffer i 0 ≤ limit_of (less held.head other.head) (thickness_at held.head.members i))
      → first_not_part held other ≡ cells_of held.head
  unfolding first_not_part not_part
  part-fine u w =
      lowest-none (not_part (less held.head other.head) held.buffer other.buffer) (cells_of held.head)
      (λ i l. simp (le-ltb (get_or held.buffer i 0) (get_or other.buffer i 0) (u i l), le-ltb (limit_of (less held.head other.head) (thickness_at held.head.members i)) (get_or held.buffer i 0 - get_or other.buffer i 0) (w i l)))
