-- What is answered and left. The checks of the call are asked in three parts, each of which goes on where the one before it passed; and where all
-- pass, the file is as long as the counts say, so that it is laid over the beginning of the output. Assumes nothing.
use mathlib.Core.Path.{◌≡◌, sym, ap, ◌∙◌}
use mathlib.Core.List.{List, ◌++◌}
use mathlib.Core.Option.{none, some}
use Prim.Native.Nat.{ℕ, ◌+◌, ◌≤◌}
use native.Mathlib.Omega.{arith}
use borrow.Author.Tests.{ltb-false}
use lib.Dec.{ltb}
use lib.ListN.{length, drop}
use lib.Seq.{sets, sets-eq}
use Rattle.lists.specs.Checks.{Check, first}
use Rattle.lists.proofs.Checks.{first-none, first-passed, first-stopped, or-false}
use Rattle.paper.specs.Limits.{least_height, greatest_height}
use Rattle.plate.specs.Refusal.{done, refusal, Numbered, numbered, decided}
use Rattle.plate.specs.Settings.{settings_checks}
use Rattle.plate.specs.declared.refusal.Refusal.{Refusal}
use Rattle.plate.proofs.Decided.{refused-first, told-done}
use Rattle.job.specs.Written.{written}
use Rattle.save.specs.Runs.{total, file_size}
use Rattle.save.specs.Writing.{count_checks, run_checks, job_saved, writing}
use Rattle.save.proofs.Laid.{length-written}
use Rattle.save.proofs.Runs.{length-columns_in, boundaries-are}

-- ---- what a function that asked some checks told

module _ {X : Type 0} (checks : List (Check Numbered)) (x : X) where
  pub told-refusal : (r : Refusal) → refusal r ≡ decided checks x → some (numbered r) ≡ first checks
  told-refusal r e = sym (refused-first checks x _ _ (sym e))

  pub told-value : (y : X) → done y ≡ decided checks x → (none ≡ first checks) × (y ≡ x)
  told-value y e = let t = told-done (first checks) x y (sym e) in (sym t.0, sym t.1)

-- ---- what is known where none holds

pub settings-low : (N T : ℕ) → none ≡ first (settings_checks N T) → N ≤ greatest_height
unfolding settings_checks
settings-low N T e =
    let q = (first-none (settings_checks N T)).0 (sym e) in
    ltb-false greatest_height N (or-false (ltb N least_height) (ltb greatest_height N) q.0).1

pub run-passed : (N : ℕ) (run counts : List ℕ) (room : ℕ) → none ≡ first (run_checks N run counts room) → (total counts ≤ length run) × (file_size counts ≤ room)
unfolding run_checks
run-passed N run counts room e =
    let q = (first-none (run_checks N run counts room)).0 (sym e) in
    (ltb-false (length run) (total counts) q.0, ltb-false room (file_size counts) q.1.1.0)

-- ---- the call

module _ (N T bound : ℕ) (run counts out : List ℕ) where
  pub settings-stop : (r : Numbered) → some r ≡ first (settings_checks N T) → some r ≡ first (writing N T bound run counts out).checks
  unfolding writing
  settings-stop r e = sym (first-stopped (settings_checks N T) (count_checks counts ++ run_checks N run counts (length out)) r (sym e))

  module _ (settled : none ≡ first (settings_checks N T)) where
    pub counts-stop : (r : Numbered) → some r ≡ first (count_checks counts) → some r ≡ first (writing N T bound run counts out).checks
    unfolding writing
    counts-stop r e =
        sym (first-passed (settings_checks N T) (count_checks counts ++ run_checks N run counts (length out)) (sym settled)
        ∙ first-stopped (count_checks counts) (run_checks N run counts (length out)) r (sym e))

    pub run-decides : none ≡ first (count_checks counts) → first (run_checks N run counts (length out)) ≡ first (writing N T bound run counts out).checks
    unfolding writing
    run-decides e =
        sym (first-passed (settings_checks N T) (count_checks counts ++ run_checks N run counts (length out)) (sym settled)
        ∙ first-passed (count_checks counts) (run_checks N run counts (length out)) (sym e))

  -- ---- what is written

  module _ (enough : total counts ≤ length run) where
    pub size_is : length (written (job_saved N T bound run counts)) ≡ file_size counts
    unfolding file_size
    size_is = omega (arith, length-written (job_saved N T bound run counts), length-columns_in counts run, boundaries-are counts run enough)

    pub file-left : file_size counts ≤ length out → sets out 0 (written (job_saved N T bound run counts)) ≡ (writing N T bound run counts out).writes
    unfolding writing
    file-left room =
        let file = written (job_saved N T bound run counts) in
        let size : 0 + length file ≡ file_size counts = omega (arith, size_is) in
        sets-eq file out 0 (omega arith) ∙ ap (λ (n : ℕ). file ++ drop n out) size
