-- What a plan fills over a table: the rules that the table's cells give, the two sheets, and the list. Assumes nothing.
use Rattle.std.specs.Prelude.{ℕ, ◌+◌, ◌*◌, ◌≤◌, List, length}
use Rattle.lists.specs.Rewrite.{rewritten}
use Rattle.paper.specs.Sequence.{M}
use Rattle.paper.specs.Sheets.{entries}
use Rattle.plate.specs.Settings.{Sound, most_counts}
use Rattle.plate.specs.declared.settings.Settings.{Settings}
use Rattle.sequence.specs.Sequence.{Rules}
use Rattle.sequence.specs.Least.{least_of}
use Rattle.sequence.specs.Rules.{rules}
use Rattle.sequence.specs.Sheets.{mark, error_entry, thickness_entry}
use Rattle.table.specs.Cells.{cell_from}
use Rattle.table.specs.Limits.{greatest_limit, UnderGreatest}

-- the rules that a table is planned by
unfoldable pub plan_rules : ℕ → ℕ → ℕ → List ℕ → Rules
plan_rules N T bound table = rules N T bound (cell_from T table)

-- the rules that a table is planned by, as the code has the settings
abbrev pub table_rules : Settings → ℕ → List ℕ → Rules
table_rules s bound table = plan_rules s.height s.members bound table

-- the sheets and the list that a plan leaves in buffers that held these numbers
unfoldable pub planned_errors : ℕ → ℕ → Rules → List ℕ → List ℕ
planned_errors N T p old = rewritten (λ i x. error_entry N T p i) (entries N T) old

unfoldable pub planned_thicknesses : ℕ → ℕ → Rules → List ℕ → List ℕ
planned_thicknesses N T p old = rewritten (λ i x. thickness_entry N T p i) (entries N T) old

unfoldable pub planned_list : ℕ → ℕ → Rules → List ℕ → List ℕ
planned_list N T p old = rewritten (λ i x. mark (least_of p (i + 1))) (M N T) old

-- what planning needs of a table: it is whole, and its cells are small enough that no sum leaves an entry
pub record Ready (s : Settings) (table : List ℕ) : Type 0 where
  pub sound : Sound s
  pub size : s.cells ≤ length table
  pub small : UnderGreatest s.cells table

-- the greatest error that a sequence can then have
abbrev pub greatest_error : ℕ
greatest_error = most_counts * greatest_limit
