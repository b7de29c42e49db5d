-- What the parts of reading a file into a table say to each other. Assumes nothing.
use Rattle.std.specs.Prelude.{ℕ, ◌≤◌, ◌≡◌, List, [], ◌∷◌, length, Result, Ok, Err}
use Rattle.std.proofs.Math.Option.{none}
use Rattle.lists.specs.Checks.{first}
use Rattle.paper.specs.Limits.{most_boundaries}
use Rattle.paper.specs.Layer.{Column, column_of}
use Rattle.paper.specs.Table.{cells}
use Rattle.plate.specs.Refusal.{Told, done, refused, refusal, number_of}
use Rattle.plate.specs.Settings.{settings_checks}
use Rattle.plate.specs.Head.{held_in}
use Rattle.plate.specs.declared.head.Head.{Head}
use Rattle.table.specs.Plates.{table_of}
use Rattle.adding.specs.Adding.{added, adding}
use Rattle.record.specs.Bytes.{words}
use Rattle.job.specs.Record.{What, settings, column, ended, remark}
use Rattle.job.specs.File.{Job, Finished}
use Rattle.job.specs.Reached.{Passes, Stops, Ends}
use Rattle.load.specs.Load.{too_large, load_of}
use Rattle.load.specs.declared.Load.{Load}
use Rattle.load.specs.declared.Heed.{Heed}
use Rattle.load.specs.declared.Heed.TheVariants as heed
use Rattle.load.specs.declared.Front.{Front}
use Rattle.plate.specs.declared.refusal.Refusal.{Refusal}

-- ---- one record

-- the settings of a settings record are in order, whatever else was read
abbrev pub Sane : Told What → Type 0
Sane (done (settings a)) = first (settings_checks a.height a.members) ≡ none
Sane (done (column start count)) = Unit {0}
Sane (done (ended columns)) = Unit {0}
Sane (done remark) = Unit {0}
Sane (refused number place) = Unit {0}

-- what a record means for the file that it stands in
abbrev pub Heeded : Result Heed Refusal → ℕ → ℕ → Told What → Type 0
Heeded (Ok heed.Onward) most at t = Passes (too_large most) at t
Heeded (Ok heed.Ended) most at t = Ends t
Heeded (Err r) most at t = Stops (too_large most) at t (number_of r.reason) r.place

-- what was read can be added to a table, where it is a column
abbrev pub CanAdd : List ℕ → Head → List ℕ → Told What → Type 0
CanAdd s head table (done (settings a)) = Unit {0}
CanAdd s head table (done (column start count)) = (count ≤ most_boundaries) × (first (adding (held_in head table) (column_of (words s start count))).checks ≡ none)
CanAdd s head table (done (ended columns)) = Unit {0}
CanAdd s head table (done remark) = Unit {0}
CanAdd s head table (refused number place) = Unit {0}

-- and what the table then holds
abbrev pub added_all : Head → List Column → List ℕ → List ℕ
added_all head [] table = table
added_all head (one ∷ others) table = added_all head others (added (held_in head table) one)

-- ---- the job at the front of the file

-- it was looked through, and answers this
pub record Seen (front : Told Finished) (load : Load) : Type 0 where
  pub found : Finished
  pub is : front ≡ done found
  pub asks : load_of found.job ≡ load

abbrev pub Surveyed : Result Front Refusal → Told Finished → Type 0
Surveyed (Ok survey) front = (seen : Seen front survey.load) × (seen.found.past ≡ survey.past)
Surveyed (Err r) front = front ≡ refusal r

-- the job, whatever stands past it
abbrev pub front_job : Told Finished → Told Job
front_job (done f) = done f.job
front_job (refused number place) = refused number place

-- a table that was cleared for it
abbrev pub Cleared : Told Finished → List ℕ → Type 0
Cleared (done f) table =
    (cells f.job.asked.height f.job.asked.members ≤ length table) × (table ≡ table_of f.job.asked.height f.job.asked.members [] table)
Cleared (refused number place) table = ⊥

-- and filled with its columns
abbrev pub filled_by : List ℕ → Told Finished → List ℕ
filled_by table (done f) = table_of f.job.asked.height f.job.asked.members f.job.columns table
filled_by table (refused number place) = table
