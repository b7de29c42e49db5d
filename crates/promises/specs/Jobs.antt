-- A job file gets an answer, as a statement: the first record at fault decides, or the end of the job. Assumes nothing.
use Rattle.std.specs.Prelude.{ℕ, ◌≤◌, ◌≡◌, ◌↔◌, List, length}
use Rattle.paper.specs.Table.{cells}
use Rattle.plate.specs.Refusal.{done, refused}
use Rattle.job.specs.File.{Job}
use Rattle.job.specs.Record.{read_record}
use Rattle.job.specs.Reached.{Reached, columns_to}
use Rattle.job.specs.declared.State.{State}
use Rattle.load.specs.Load.{too_large, job_of}
use Rattle.promises.specs.Files.{StopsFile, fault_place, Closes, FileRead}

-- a file of these bytes, for a program that takes tables and sheets of so many entries
pub record JobDecided (most : ℕ) (s : List ℕ) : Type 0 where
  -- 'The file is read record by record, and the first record at fault decides'
  pub fault : (number place : ℕ)
      → (job_of most s ≡ refused number place) ↔ ((st : State) × (at : ℕ) × Reached (too_large most) s st at × StopsFile most s st at number place)
  -- 'each place is the record's first byte; for bytes after the end record, the first of them'
  pub place : (st : State) (at number place : ℕ) → StopsFile most s st at number place → place ≡ fault_place at (read_record s st at) (read_record s st at).told
  -- where none is at fault it is a job: what was read on the way to its end
  pub end : (job : Job)
      → (job_of most s ≡ done job) ↔ ((st : State) × (at : ℕ) × (r : Reached (too_large most) s st at) × Closes s st at job × (job.columns ≡ columns_to r))
  -- and its table is left in a buffer that has room
  pub read : (job : Job) → job_of most s ≡ done job → (lent : List ℕ) → cells job.asked.height job.asked.members ≤ length lent → FileRead most s job lent
