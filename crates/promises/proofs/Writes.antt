-- The writer takes exactly document 01's jobs. Where none of its checks holds, each column of the run passed the reader's own checks, so that it
-- is a column by document 01; and of columns by document 01, laid into one run with a count for each, none is refused. Assumes nothing.
use mathlib.Core.Path.{◌≡◌, refl, sym, ap, ◌∙◌}
use mathlib.Core.Bool.{false}
use mathlib.Core.List.{List, [], ◌∷◌, ◌++◌}
use mathlib.Core.Option.{Option, none}
use Prim.Native.Nat.{ℕ, zero, suc, ◌+◌, ◌≤◌, ◌<◌}
use native.Mathlib.Nat.{le_of_suc-le-suc, not-suc-le-zero}
use native.Mathlib.Omega.{arith}
use borrow.Author.Tests.{le-ltb, ltb-false}
use lib.ListN.{length, get_or, drop, length-append}
use lib.Seq.{take-append_seam, drop-append_seam}
use Rattle.lists.specs.Checks.{first}
use Rattle.lists.proofs.Checks.{first-none, first-later, first-earlier}
use Rattle.lists.proofs.Search.{lowest-none, lowest-before}
use Rattle.paper.specs.Limits.{sets, largest_bound}
use Rattle.paper.specs.Layer.{Column, IsColumn, column_of}
use Rattle.plate.specs.Call.{answer_of, left_by}
use Rattle.plate.specs.Refusal.{done, Numbered, told_by}
use Rattle.plate.specs.Settings.{settings_checks}
use Rattle.plate.proofs.Calls.{finished, passes}
use Rattle.column.specs.Order.{wrong_count, disordered, column_checks}
use Rattle.column.proofs.Fine.{settings-fine, column-fine, settings-passed, column-passed}
use Rattle.job.specs.File.{Job}
use Rattle.job.specs.Written.{written}
use Rattle.save.specs.Runs.{total, columns_in, file_size}
use Rattle.save.specs.Writing.{first_disordered, count_checks, run_checks, job_saved, writing, size_answer}
use Rattle.save.proofs.Runs.{length-columns_in, column-here}
use Rattle.save.proofs.Counts.{none-wrong, counts-right}
use Rattle.save.proofs.Answers.{run-passed, run-decides, size_is}
use Rattle.promises.specs.Runs.{Columns}
use Rattle.promises.specs.Saved.{Savable, run_of, counts_of, SavedOver}

-- ---- what is not refused

all-columns : (N : ℕ) (columns : List Column) → ((k : ℕ) → k < length columns → IsColumn N (get_or columns k (column_of []))) → Columns N columns
all-columns N [] each = tt
all-columns N (column ∷ columns) each = (each 0 (omega arith), all-columns N columns (λ k l. each (suc k) (omega arith)))

module _ (N T bound : ℕ) (run counts out : List ℕ) where
  -- no check holds, asked in three parts
  pub record Passed : Type 0 where
    pub settled : first (settings_checks N T) ≡ none
    pub counted : first (count_checks counts) ≡ none
    pub ran : first (run_checks N run counts (length out)) ≡ none

  in_parts : first (writing N T bound run counts out).checks ≡ none → Passed
  unfolding writing
  in_parts e =
      let rest = first-later (settings_checks N T) (count_checks counts ++ run_checks N run counts (length out)) e in
      record {
        settled = first-earlier (settings_checks N T) (count_checks counts ++ run_checks N run counts (length out)) e;
        counted = first-earlier (count_checks counts) (run_checks N run counts (length out)) rest;
        ran = first-later (count_checks counts) (run_checks N run counts (length out)) rest;
      }

  module _ (p : Passed) where
    enough : total counts ≤ length run
    enough = (run-passed N run counts (length out) (sym p.ran)).0

    column-is : (k : ℕ) → k < length (columns_in counts run) → IsColumn N (get_or (columns_in counts run) k (column_of []))
    unfolding run_checks first_disordered column_checks
    column-is k l =
        let few = length-columns_in counts run in
        let here = column-here counts run k _ _ (omega arith) refl enough refl in
        let right = ap wrong_count (ap (λ (c : Column). length c.boundaries) here.is ∙ here.long) ∙ (counts-right counts (sym p.counted)).right k (omega arith) in
        let q = (first-none (run_checks N run counts (length out))).0 p.ran in
        let ordered = lowest-before (λ j. disordered N (get_or (columns_in counts run) j (column_of [])).boundaries) (length (columns_in counts run)) k
        (let h = ltb-false (first_disordered N (columns_in counts run)) (length counts) q.1.0 in omega arith) in
        column-passed N (get_or (columns_in counts run) k (column_of [])).boundaries ((first-none (column_checks N (get_or (columns_in counts run) k (column_of [])).boundaries)).1 (right, (ordered, tt)))

    pub savable : T < sets → bound ≤ largest_bound → Savable (job_saved N T bound run counts)
    savable bits low = record {
      settings = settings-passed N T bits p.settled;
      bound = low;
      columns = all-columns N (columns_in counts run) column-is;
      few = let right = counts-right counts (sym p.counted) in omega (arith, right.few, length-columns_in counts run);
    }

  pub saves : T < sets → bound ≤ largest_bound → (size : ℕ) → answer_of (writing N T bound run counts out) ≡ done size
      → SavedOver (job_saved N T bound run counts) out size (left_by (writing N T bound run counts out)) × (size_answer counts ≡ done size)
  unfolding writing size_answer
  saves bits low size e =
      let f = finished (writing N T bound run counts out) size e in
      let p = in_parts f.0 in
      let file = written (job_saved N T bound run counts) in (
        record {
          savable = savable p bits low;
          long = sym f.1 ∙ sym (size_is N T bound run counts out (enough p));
          holds = f.2 ∙ ap (λ (n : ℕ). file ++ drop n out) f.1;
        },
        ap (λ (o : Option Numbered). told_by o (file_size counts)) p.counted ∙ ap done f.1,
      )

-- ---- what can be saved is not refused

-- columns laid into one run are the columns of that run
laid-columns : (columns : List Column) → columns_in (counts_of columns) (run_of columns) ≡ columns
unfolding columns_in
laid-columns [] = refl
laid-columns (column ∷ columns) =
    let bs = column.boundaries in
    (λ i. column_of (take-append_seam bs (run_of columns) i) ∷ columns_in (counts_of columns) (drop-append_seam bs (run_of columns) i))
    ∙ ap (λ (l : List Column). column ∷ l) (laid-columns columns)

laid-count : (columns : List Column) → length (counts_of columns) ≡ length columns
laid-count [] = refl
laid-count (column ∷ columns) = ap suc (laid-count columns)

laid-total : (columns : List Column) → total (counts_of columns) ≡ length (run_of columns)
unfolding total
laid-total [] = refl
laid-total (column ∷ columns) = ap (λ (n : ℕ). length column.boundaries + n) (laid-total columns) ∙ sym (length-append column.boundaries (run_of columns))

module _ (N : ℕ) where
  -- each passes the reader's checks
  column-passes : (columns : List Column) → Columns N columns → (k : ℕ) → k < length columns → first (column_checks N (get_or columns k (column_of [])).boundaries) ≡ none
  column-passes [] c k l = absurd (not-suc-le-zero l)
  column-passes (column ∷ columns) c zero l = column-fine N column c.0
  column-passes (column ∷ columns) c (suc k) l = column-passes columns c.1 k (le_of_suc-le-suc l)

  -- so its count is right
  laid-right : (columns : List Column) → Columns N columns → (k : ℕ) → k < length (counts_of columns) → wrong_count (get_or (counts_of columns) k 0) ≡ false
  unfolding column_checks
  laid-right [] c k l = absurd (not-suc-le-zero l)
  laid-right (column ∷ columns) c zero l = ((first-none (column_checks N column.boundaries)).0 (column-fine N column c.0)).0
  laid-right (column ∷ columns) c (suc k) l = laid-right columns c.1 k (le_of_suc-le-suc l)

  -- and its boundaries are in order
  none-disordered : (columns : List Column) → Columns N columns → first_disordered N columns ≡ length columns
  unfolding first_disordered column_checks
  none-disordered columns c =
      lowest-none (λ k. disordered N (get_or columns k (column_of [])).boundaries) (length columns)
      (λ k l. ((first-none (column_checks N (get_or columns k (column_of [])).boundaries)).0 (column-passes columns c k l)).1.0)

module _ (job : Job) (s : Savable job) (out : List ℕ) (room : length (written job) ≤ length out) where
  abbrev N : ℕ
  N = job.asked.height

  abbrev T : ℕ
  T = job.asked.members

  abbrev bound : ℕ
  bound = job.asked.bound

  abbrev run : List ℕ
  run = run_of job.columns

  abbrev counts : List ℕ
  counts = counts_of job.columns

  same-job : job_saved N T bound run counts ≡ job
  same-job i = record { asked = job.asked; columns = laid-columns job.columns i }

  run-enough : total counts ≤ length run
  run-enough = omega (arith, laid-total job.columns)

  size : file_size counts ≡ length (written job)
  size = sym (size_is N T bound run counts out run-enough) ∙ ap (λ (j : Job). length (written j)) same-job

  counts-pass : none ≡ first (count_checks counts)
  counts-pass = none-wrong counts (omega (arith, laid-count job.columns, s.few)) (laid-right N job.columns s.columns)

  run-passes : none ≡ first (run_checks N run counts (length out))
  unfolding run_checks
  run-passes =
      let ordered : first_disordered N (columns_in counts run) ≡ length counts =
      ap (first_disordered N) (laid-columns job.columns) ∙ none-disordered N job.columns s.columns ∙ sym (laid-count job.columns) in
      simp (le-ltb (length run) (total counts) run-enough, ordered, le-ltb (length counts) (length counts) (omega arith), le-ltb (length out) (file_size counts) (omega (arith, size)))

  pub takes : answer_of (writing N T bound run counts out) ≡ done (length (written job))
  unfolding writing
  takes =
      let decides = run-decides N T bound run counts out (sym (settings-fine N T s.settings)) counts-pass in
      (passes (writing N T bound run counts out) (sym (run-passes ∙ decides))).0 ∙ ap done size
