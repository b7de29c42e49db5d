-- From a plate's columns to its counts: the ways in which the calls make the plate's table, and what is then planned and read back from it.
-- Assumes nothing.
use Rattle.std.specs.Prelude.{ℕ, ◌≤◌, ◌≡◌, length}
use mathlib.Core.List.{List, Perm}
use Rattle.paper.specs.Layer as paper
use Rattle.paper.specs.Layer.{Column, of_columns}
use Rattle.paper.specs.Limits.{most_columns, largest_bound}
use Rattle.paper.specs.Table.{cells}
use Rattle.plate.specs.Head.{Held}
use Rattle.plate.specs.Refusal.{Told, done}
use Rattle.plan.specs.Plan.{Sheets}
use Rattle.promises.specs.Plans.{Room, Plans}
use Rattle.promises.specs.Runs.{tabulate, Group, Joins, columns_of, join_all, LentEnough, Columns, Tabulated}

-- a plate within document 01's limits: its settings, each of its columns, and how many they are
pub record WithinLimits (N T : ℕ) (plate : List Column) : Type 0 where
  pub settings : paper.Settings N T
  pub columns : Columns N plate
  pub few : length plate ≤ most_columns

-- the plate's columns are added one by one to a table that was cleared, in any order; or they are dealt into groups, each column to one group,
-- and the groups are tabulated so and joined in an order and a bracketing. What is lent for a table has room for it
pub data Way (N T : ℕ) (plate : List Column) : Type 0 where
  added : (columns : List Column) (lent : List ℕ) → Perm columns plate → cells N T ≤ length lent → Way N T plate
  dealt : (groups : Joins Group) → Perm (columns_of groups) plate → LentEnough N T groups → Way N T plate

-- the run of those calls
abbrev pub run_of : (N T : ℕ) (plate : List Column) → Way N T plate → Told Held
run_of N T plate (added columns lent order room) = tabulate N T columns lent
run_of N T plate (dealt groups order room) = join_all N T groups

-- a table is planned and its counts are read back, under every bound of 32 bits and with any buffers that have room
abbrev pub PlansPlate : (N T : ℕ) → List Column → Held → Type 0
PlansPlate N T plate held = (bound : ℕ) → bound ≤ largest_bound → (lent : Sheets) → Room N T lent → Plans (of_columns N T plate) held bound lent

-- a run that is not refused: it holds the plate's table, of which the plate is planned
pub record PlannedFrom (N T : ℕ) (plate : List Column) (run : Told Held) : Type 0 where
  pub held : Held
  pub is : run ≡ done held
  pub right : Tabulated N T plate held
  pub plans : PlansPlate N T plate held
