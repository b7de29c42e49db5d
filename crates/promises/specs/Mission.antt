-- THE MISSION as one statement: a field for each of its sentences, which stand above them. Assumes nothing.
use Rattle.std.specs.Prelude.{ℕ, ◌≤◌, ◌<◌, List}
use Rattle.paper.specs.Layer as paper
use Rattle.paper.specs.Layer.{Column}
use Rattle.paper.specs.Limits.{most_columns, sets, largest_bound}
use Rattle.plate.specs.Head.{Held}
use Rattle.record.specs.Bytes.{Bytes}
use Rattle.plan.specs.Plan.{Sheets}
use Rattle.promises.specs.Errors.{ErrorCounts}
use Rattle.promises.specs.Groups.{GroupsJoin, TablesJoin}
use Rattle.promises.specs.Jobs.{JobDecided}
use Rattle.promises.specs.Orders.{Orders}
use Rattle.promises.specs.Plans.{PlansTable}
use Rattle.promises.specs.Refusals.{Refusals}
use Rattle.promises.specs.Runs.{Joins, Tabulated, count_of, TablesOf}
use Rattle.promises.specs.Told.{Only, Unwritten, Unmoved}
use Rattle.promises.specs.Ways.{WithinLimits, Way, run_of, PlansPlate, PlannedFrom}

pub record Mission : Type 0 where
  -- ---- DEMAND 1

  -- 'Every column, thickness set, table, sequence or file gets an answer.'
  pub answered : Orders
  pub decided : (most : ℕ) (s : List ℕ) → Bytes s → JobDecided most s
  -- what is told says which answer it was
  pub told-apart : Only
  -- 'Bad input is refused by the number and place that document 01 gives; each call checks for itself.'
  pub refused-exactly : Refusals
  -- 'A refused call has written nothing into memory lent to it.'
  pub unwritten : Unwritten
  pub unmoved : Unmoved
  -- ---- DEMAND 2

  -- 'A layer's error is the count of Alexa, Hildebrand and Lefebvre: voxels wrongly filled or left out under the best straight-walled picture.'
  pub errors : ErrorCounts
  -- 'For each layer count the sequence given is admissible, no admissible one of that count has less error, and among equals it is the one
  -- document 01 names. A count in range is refused exactly when no admissible sequence has it': from the columns to the sequence
  pub given : (N T : ℕ) (plate : List Column) → WithinLimits N T plate → (way : Way N T plate) → PlannedFrom N T plate (run_of N T plate way)
  -- the same of the plate's table however it came to be held, taken off another or read from a file
  pub given-held : (N T : ℕ) (plate : List Column) → WithinLimits N T plate → (held : Held) → Tabulated N T plate held → PlansPlate N T plate held
  -- and of every table, whoever filled it; a thickness set and a bound are 32 bits
  pub given-table : (held : Held) (bound : ℕ) (lent : Sheets) → held.head.members < sets → bound ≤ largest_bound → PlansTable held bound lent
  -- ---- DEMAND 3

  -- 'Deal the columns of a plate into one or more groups, each column to one group, the total within the limit, height and thicknesses the same
  -- throughout': the groups' tables joined, one of them taken off, and the groups' own least errors
  pub groups : (N T : ℕ) (plate : List Column) → WithinLimits N T plate → GroupsJoin N T plate
  -- and of tables in bounds, whoever filled them
  pub tables : (N T : ℕ) → paper.Settings N T → (tables : Joins Held) → TablesOf N T tables → count_of tables ≤ most_columns → TablesJoin N T tables
