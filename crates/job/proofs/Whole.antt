-- A whole file is the job at its front, where nothing stands past it, whatever its reader asks; so of bytes it is a job in order, as its front is.
-- Assumes nothing.
use mathlib.Core.Path.{◌≡◌, refl, ap, subst}
use mathlib.Core.List.{List, [], ◌∷◌}
use mathlib.Core.Option.{none}
use Prim.Native.Nat.{ℕ}
use native.Mathlib.Omega.{arith}
use Rattle.lists.specs.Checks.{first}
use Rattle.plate.specs.Refusal.{Told, done, refused}
use Rattle.plate.proofs.Decided.{told-done}
use Rattle.record.specs.Bytes.{Bytes}
use Rattle.record.specs.Faults.{tail}
use Rattle.job.specs.File.{Job, Finished, Asking, job_from, whole_by, whole_file}
use Rattle.job.specs.Reached.{Ordered}
use Rattle.job.proofs.Ordering.{ordered}

module _ (asking : Asking) (s : List ℕ) where
  -- a whole file by what stands at its front
  pub whole_by_lem : (front : Told Finished) → job_from asking s ≡ front → whole_file asking s ≡ whole_by s front
  unfolding whole_file
  whole_by_lem front e = ap (whole_by s) e

  -- a job is that of its front
  pub record Front (job : Job) : Type 0 where
    pub found : Finished
    pub is : job_from asking s ≡ done found
    pub job_is : found.job ≡ job
    pub nothing-past : first (tail s found.past ∷ []) ≡ none

  pub front_of_lem : (job : Job) → whole_file asking s ≡ done job → Front job
  unfolding whole_file
  front_of_lem job = go (job_from asking s) refl
    where
      go : (front : Told Finished) → job_from asking s ≡ front → whole_by s front ≡ done job → Front job
      go (refused n p) f e = absurd (let z : ◌≡◌ {A = ℕ} 0 1 = cc in omega arith)
      go (done j) f e = let d = told-done (first (tail s j.past ∷ [])) j.job job e in record { found = j; is = f; job_is = d.1; nothing-past = d.0 }

  -- of bytes: it is in order
  pub whole-ordered : Bytes s → (job : Job) → whole_file asking s ≡ done job → Ordered asking job
  whole-ordered byte job e = let f = front_of_lem job e in subst (Ordered asking) f.job_is (ordered asking s byte f.found f.is)
