-- Document 01, 'Job file': from its records a file is a job, which is what its settings ask for and its columns, and the place past its end
-- record; or the refusal of the first record at fault. That nothing stands past the end is a check of the whole file. Assumes nothing.
use Rattle.std.specs.Prelude.{ℕ, List, [], ◌∷◌, ◌++◌}
use Rattle.std.proofs.Math.Option.{Option, none, some}
use Rattle.lists.specs.Checks.{Check, first}
use Rattle.paper.specs.Layer.{Column, column_of}
use Rattle.plate.specs.Refusal.{Told, done, refused, Numbered, decided}
use Rattle.record.specs.Bytes.{words}
use Rattle.record.specs.Faults.{tail}
use Rattle.job.specs.State.{asked_of}
use Rattle.job.specs.Record.{What, settings, column, ended, remark}
use Rattle.job.specs.Fold.{Over, fold_of}
use Rattle.job.specs.declared.Asked.{Asked}

-- a job: what its settings ask for, and its columns in the file's order
pub record Job : Type 0 where
  pub asked : Asked
  pub columns : List Column

-- a job, and the place past its end record
pub record Finished : Type 0 where
  pub job : Job
  pub past : ℕ

-- what a reader asks of the settings at a place beside 1 and 2, straight after them
abbrev pub Asking : Type 0
Asking = ℕ → Asked → List (Check Numbered)

-- what is told where these checks were asked before
abbrev pub unless : {X : Type 0} → Option Numbered → Told X → Told X
unless none told = told
unless (some r) told = refused r.number r.place

-- a job with columns before its own
abbrev pub behind : List Column → Told Finished → Told Finished
behind columns (done f) = done (record { job = record { asked = f.job.asked; columns = columns ++ f.job.columns }; past = f.past })
behind columns (refused number place) = refused number place

-- the column that a record is, and none where it is none
abbrev pub column_in : List ℕ → Told What → List Column
column_in s (done (settings a)) = []
column_in s (done (column start count)) = column_of (words s start count) ∷ []
column_in s (done (ended columns)) = []
column_in s (done remark) = []
column_in s (refused number place) = []

-- what a record that was read makes of the rest
abbrev pub job_by : Asking → Told What → Over (Told Finished)
job_by asking (done (settings a)) s at m rest = unless (first (asking at a)) (rest m.state m.next)
job_by asking (done (column start count)) s at m rest = behind (column_of (words s start count) ∷ []) (rest m.state m.next)
job_by asking (done (ended columns)) s at m rest = done (record { job = record { asked = asked_of m.state; columns = [] }; past = m.next })
job_by asking (done remark) s at m rest = rest m.state m.next
job_by asking (refused number place) s at m rest = refused number place

abbrev pub job_over : Asking → Over (Told Finished)
job_over asking s at m rest = job_by asking m.told s at m rest

-- what would be told of a file whose records never end, by no number of document 01's: there is none
abbrev pub endless : Told Finished
endless = refused 0 0

-- A JOB from the front of these bytes, or a refusal
unfoldable pub job_from : Asking → List ℕ → Told Finished
job_from asking s = fold_of (job_over asking) endless s

-- A WHOLE FILE: a job, and nothing past its end record
abbrev pub whole_by : List ℕ → Told Finished → Told Job
whole_by s (done f) = decided (tail s f.past ∷ []) f.job
whole_by s (refused number place) = refused number place

unfoldable pub whole_file : Asking → List ℕ → Told Job
whole_file asking s = whole_by s (job_from asking s)
