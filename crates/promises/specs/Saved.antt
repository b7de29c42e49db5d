-- Document 02 a), 'Saving a plate', as statements: 'What it writes, the reader reads back as the same settings and columns; a file without
-- remarks, read and written again, gives the same bytes'. Assumes nothing.
use Rattle.std.specs.Prelude.{ℕ, ◌+◌, ◌*◌, ◌≤◌, ◌<◌, ◌≡◌, ◌↔◌, List, [], ◌∷◌, ◌++◌, length, drop}
use Rattle.std.proofs.Math.Option.{none}
use Rattle.lists.specs.Checks.{first}
use Rattle.paper.specs.Layer as paper
use Rattle.paper.specs.Layer.{Column}
use Rattle.paper.specs.Limits.{most_columns, sets, largest_bound}
use Rattle.plate.specs.Call.{answer_of, left_by}
use Rattle.plate.specs.Refusal.{done}
use Rattle.record.specs.Bytes.{Bytes}
use Rattle.job.specs.File.{Job, Asking, whole_file}
use Rattle.job.specs.Remarks.{remarks_in}
use Rattle.job.specs.Written.{written}
use Rattle.save.specs.Runs.{boundary_count}
use Rattle.save.specs.Writing.{job_saved, writing, size_answer}
use Rattle.promises.specs.Runs.{Columns}

-- a job by document 01: its settings, its bound, and at most 1,000,000 columns
pub record Savable (job : Job) : Type 0 where
  pub settings : paper.Settings job.asked.height job.asked.members
  pub bound : job.asked.bound ≤ largest_bound
  pub columns : Columns job.asked.height job.columns
  pub few : length job.columns ≤ most_columns

-- a reader that asks nothing beside document 01's rules of a job file
abbrev pub nothing_more : Asking
nothing_more at a = []

-- the whole file is read as this job, and has no remark
pub record Plainly (asking : Asking) (s : List ℕ) (job : Job) : Type 0 where
  pub read : whole_file asking s ≡ done job
  pub unremarked : remarks_in s ≡ 0

-- how columns are handed to the writer: 'one run of boundaries and one of counts per column'
abbrev pub run_of : List Column → List ℕ
run_of [] = []
run_of (column ∷ columns) = column.boundaries ++ run_of columns

abbrev pub counts_of : List Column → List ℕ
counts_of [] = []
counts_of (column ∷ columns) = length column.boundaries ∷ counts_of columns

-- a job that was saved over what an output held: it is document 01's, and the output now holds its file, `size` bytes, and then what it held
pub record SavedOver (job : Job) (out : List ℕ) (size : ℕ) (now : List ℕ) : Type 0 where
  pub savable : Savable job
  pub long : size ≡ length (written job)
  pub holds : now ≡ written job ++ drop size out

pub record Saving : Type 0 where
  -- 'What it writes, the reader reads back as the same settings and columns'; so does a reader that asks more, where it takes these settings
  pub read-after-write : (asking : Asking) (job : Job) → Savable job → first (asking 0 job.asked) ≡ none → Plainly asking (written job) job
  -- 'a file without remarks, read and written again, gives the same bytes'
  pub write-after-read : (asking : Asking) (s : List ℕ) → Bytes s → (job : Job) → Plainly asking s job → written job ≡ s
  -- every file that is read can be saved, remarks or not
  pub savable : (asking : Asking) (s : List ℕ) → Bytes s → (job : Job) → whole_file asking s ≡ done job → Savable job
  -- two jobs never give the same file
  pub injective : (job other : Job) → Savable job → Savable other → written job ≡ written other → job ≡ other
  -- the files without remarks are exactly those that are written
  pub exactly : (s : List ℕ) → Bytes s → (job : Job) → Plainly nothing_more s job ↔ (Savable job × (s ≡ written job))
  -- what is written is bytes, and 'length = 22 + 4·k + 2·(sum of counts)' of them
  pub bytes : (job : Job) → Bytes (written job)
  pub size : (job : Job) → length (written job) ≡ 22 + 4 * length job.columns + 2 * boundary_count job.columns
  -- the writer: what it does not refuse is a job by document 01, and is saved; `job_size` tells the same length before
  pub saves : (N T bound : ℕ) → T < sets → bound ≤ largest_bound → (run counts out : List ℕ) (size : ℕ) → answer_of (writing N T bound run counts out) ≡ done size
      → SavedOver (job_saved N T bound run counts) out size (left_by (writing N T bound run counts out)) × (size_answer counts ≡ done size)
  -- and every job by document 01 can be saved where the output has room
  pub takes : (job : Job) → Savable job → (out : List ℕ) → length (written job) ≤ length out
      → answer_of (writing job.asked.height job.asked.members job.asked.bound (run_of job.columns) (counts_of job.columns) out) ≡ done (length (written job))
