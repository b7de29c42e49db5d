-- Document 01, 'Job file', as statements: 'the file is read record by record, and the first record at fault decides', and what reading a
-- whole file into a lent table leaves. Assumes nothing.
use Rattle.std.specs.Prelude.{ℕ, ◌≤◌, ◌≡◌, ◌⊎◌, List, [], ◌∷◌, length, get_or}
use Rattle.std.proofs.Math.Option.{some}
use Rattle.lists.specs.Checks.{first}
use Rattle.paper.specs.Layer as paper
use Rattle.paper.specs.Layer.{of_columns}
use Rattle.paper.specs.Limits.{most_columns}
use Rattle.paper.specs.Table.{cells, Table}
use Rattle.plate.specs.Refusal.{Told, done, refused}
use Rattle.record.specs.Faults.{tail}
use Rattle.job.specs.State.{asked_of}
use Rattle.job.specs.Record.{What, settings, column, ended, remark, Moved, read_record}
use Rattle.job.specs.File.{Job}
use Rattle.job.specs.Reached.{Stops, Ends}
use Rattle.job.specs.declared.State.{State}
use Rattle.load.specs.Load.{too_large, job_of, load_of, load_answer, load_table}
use Rattle.promises.specs.Runs.{Columns}

-- ---- the first record at fault decides, over the places that are reached (crate `job`, Reached)

-- the record there is at fault with this number and place: itself, or its settings are too large, or it is the end and bytes stand after it
abbrev pub StopsFile : ℕ → List ℕ → State → ℕ → ℕ → ℕ → Type 0
StopsFile most s st at number place =
    Stops (too_large most) at (read_record s st at).told number place
    ⊎ (Ends (read_record s st at).told × (first (tail s (read_record s st at).next ∷ []) ≡ some (record { number = number; place = place })))

-- the place of that fault: the record's first byte, and for bytes after the end the first of them
abbrev pub fault_place : ℕ → Moved → Told What → ℕ
fault_place at m (done (settings a)) = at
fault_place at m (done (column start count)) = at
fault_place at m (done (ended columns)) = m.next
fault_place at m (done remark) = at
fault_place at m (refused number place) = at

-- the record there is the end, with the number of the job's columns; nothing stands after it, and the job asks for what was read
pub record Closes (s : List ℕ) (st : State) (at : ℕ) (job : Job) : Type 0 where
  pub told : (read_record s st at).told ≡ done (ended (length job.columns))
  pub last : (read_record s st at).next ≡ length s
  pub asked : asked_of st ≡ job.asked

-- ---- a file read into a lent table

-- the file's settings and columns are document 01's, the answer is what goes with their table and the bound, and the lent buffer holds their
-- table, with what stood past the table as it was
pub record FileRead (most : ℕ) (s : List ℕ) (job : Job) (lent : List ℕ) : Type 0 where
  pub settings : paper.Settings job.asked.height job.asked.members
  pub columns : Columns job.asked.height job.columns
  pub few : length job.columns ≤ most_columns
  pub answer : load_answer lent (job_of most s) ≡ done (load_of job)
  pub table : Table (of_columns job.asked.height job.asked.members job.columns) (load_table lent (job_of most s))
  pub past : (i : ℕ) → cells job.asked.height job.asked.members ≤ i → get_or (load_table lent (job_of most s)) i 0 ≡ get_or lent i 0
  pub long : length (load_table lent (job_of most s)) ≡ length lent
