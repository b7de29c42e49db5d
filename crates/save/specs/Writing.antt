-- Document 02 a), 'Saving a plate': 'Refusals: 1, 2, 7, 4, 3 for a run shorter than the counts say, 5, 3 for the output; 4 and 5 at the
-- column's number from 0', each judged over all columns before the next; and what is written. Assumes nothing.
use Rattle.std.specs.Prelude.{ℕ, List, [], ◌∷◌, ◌++◌, ltb, length, get_or, drop}
use Rattle.std.specs.Prelude.{cond, Option, Some, None}
use Rattle.lists.specs.Checks.{Check}
use Rattle.lists.specs.Search.{lowest}
use Rattle.paper.specs.Limits.{most_columns}
use Rattle.paper.specs.Layer.{Column, column_of}
use Rattle.plate.specs.Call.{Call}
use Rattle.plate.specs.Refusal.{Told, Numbered, check, decided}
use Rattle.plate.specs.Settings.{settings_checks}
use Rattle.column.specs.Order.{wrong_count, disordered}
use Rattle.job.specs.File.{Job}
use Rattle.job.specs.Written.{written}
use Rattle.save.specs.Runs.{total, columns_in, file_size}

-- the first column whose count is wrong, and their number where there is none
unfoldable pub first_wrong : List ℕ → ℕ
first_wrong counts = lowest (λ k. wrong_count (get_or counts k 0)) (length counts)

-- the first column whose boundaries are out of order, and their number where there is none; the boundaries before a column's own are not looked at
unfoldable pub first_disordered : ℕ → List Column → ℕ
first_disordered N columns = lowest (λ k. disordered N (get_or columns k (column_of [])).boundaries) (length columns)

-- a search over so many, as an option
abbrev pub found_below : ℕ → ℕ → Option ℕ
found_below k n = cond (ltb k n) (Some k) None

-- 7, 4
unfoldable pub count_checks : List ℕ → List (Check Numbered)
count_checks counts = check 7 (ltb most_columns (length counts)) 0 ∷ check 4 (ltb (first_wrong counts) (length counts)) (first_wrong counts) ∷ []

-- 3 at 1, the run; 5; 3 at 2, the output
unfoldable pub run_checks : ℕ → List ℕ → List ℕ → ℕ → List (Check Numbered)
run_checks N run counts room =
    check 3 (ltb (length run) (total counts)) 1
    ∷ check 5 (ltb (first_disordered N (columns_in counts run)) (length counts)) (first_disordered N (columns_in counts run))
    ∷ check 3 (ltb room (file_size counts)) 2
    ∷ []

-- the job that is saved
abbrev pub job_saved : ℕ → ℕ → ℕ → List ℕ → List ℕ → Job
job_saved N T bound run counts = record { asked = record { height = N; members = T; bound = bound }; columns = columns_in counts run }

-- THE CALL: where nothing is refused it answers the file's length, and writes the file over what the output held
unfoldable pub writing : ℕ → ℕ → ℕ → List ℕ → List ℕ → List ℕ → Call ℕ (List ℕ)
writing N T bound run counts out = record {
  checks = settings_checks N T ++ (count_checks counts ++ run_checks N run counts (length out));
  value = file_size counts;
  writes = written (job_saved N T bound run counts) ++ drop (file_size counts) out;
  held = out;
}

-- THE LENGTH TO LEND, by the counts alone
unfoldable pub size_answer : List ℕ → Told ℕ
size_answer counts = decided (count_checks counts) (file_size counts)
