-- 'The file is read record by record, and the first record at fault decides': the places that are reached, what stops there, and what a job
-- that is not refused holds. Assumes nothing.
use Rattle.std.specs.Prelude.{ℕ, ◌≤◌, ◌<◌, ◌≡◌, List, [], ◌∷◌, ◌++◌, length}
use Rattle.std.proofs.Math.Option.{none, some}
use Rattle.lists.specs.Checks.{first}
use Rattle.paper.specs.Limits.{most_columns, sets, largest_bound}
use Rattle.paper.specs.Layer.{Column}
use Rattle.plate.specs.Refusal.{Told, done, refused}
use Rattle.plate.specs.Settings.{settings_checks}
use Rattle.column.specs.Order.{column_checks}
use Rattle.job.specs.State.{start_state}
use Rattle.job.specs.Record.{What, settings, column, ended, remark, read_record}
use Rattle.job.specs.File.{Job, Asking, column_in}
use Rattle.job.specs.declared.State.{State}

-- what was read leaves the file to be read on: settings that are not refused, a column or a remark
abbrev pub Passes : Asking → ℕ → Told What → Type 0
Passes asking at (done (settings a)) = first (asking at a) ≡ none
Passes asking at (done (column start count)) = Unit {0}
Passes asking at (done (ended columns)) = ⊥
Passes asking at (done remark) = Unit {0}
Passes asking at (refused number place) = ⊥

-- what was read is at fault: itself, or its settings
abbrev pub Stops : Asking → ℕ → Told What → ℕ → ℕ → Type 0
Stops asking at (done (settings a)) number place = first (asking at a) ≡ some (record { number = number; place = place })
Stops asking at (done (column start count)) number place = ⊥
Stops asking at (done (ended columns)) number place = ⊥
Stops asking at (done remark) number place = ⊥
Stops asking at (refused n p) number place = (n ≡ number) × (p ≡ place)

-- what was read is the end
abbrev pub Ends : Told What → Type 0
Ends t = (columns : ℕ) × (t ≡ done (ended columns))

-- the file is read in this state to this place: no record before it was at fault, and none was the end
pub data Reached (asking : Asking) (s : List ℕ) : State → ℕ → Type 0 where
  start : Reached asking s start_state 0
  further : {st : State} {at : ℕ} → Reached asking s st at → Passes asking at (read_record s st at).told
      → Reached asking s (read_record s st at).state (read_record s st at).next

-- the columns on the way there
abbrev pub columns_to : {asking : Asking} {s : List ℕ} {st : State} {at : ℕ} → Reached asking s st at → List Column
columns_to start = []
columns_to {s = s} (further {st} {at} r p) = columns_to r ++ column_in s (read_record s st at).told

-- every one of the columns is in order
abbrev pub ColumnsInOrder : ℕ → List Column → Type 0
ColumnsInOrder N [] = Unit {0}
ColumnsInOrder N (one ∷ others) = (first (column_checks N one.boundaries) ≡ none) × ColumnsInOrder N others

-- a job whose settings and columns are in order, with no more columns than a table can have
pub record Ordered (asking : Asking) (job : Job) : Type 0 where
  pub fine : first (settings_checks job.asked.height job.asked.members) ≡ none
  pub place : ℕ
  pub unasked : first (asking place job.asked) ≡ none
  pub bits : job.asked.members < sets
  pub low-bound : job.asked.bound ≤ largest_bound
  pub order : ColumnsInOrder job.asked.height job.columns
  pub few : length job.columns ≤ most_columns
