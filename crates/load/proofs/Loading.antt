-- A job that was looked through, and the table that it is read into: clearing the table is refused exactly where it is too short, and then
-- nothing was written; otherwise what the table held does not matter to what is written into it. And a whole file is the job at its front,
-- where nothing stands past it. Assumes nothing.
use mathlib.Core.Path.{◌≡◌, refl, sym, ap, subst, ◌∙◌}
use mathlib.Core.List.{List, [], ◌∷◌}
use mathlib.Core.Option.{Option, none, some}
use Prim.Native.Nat.{ℕ}
use native.Mathlib.Omega.{arith}
use borrow.Author.Tests.{ltb-false}
use lib.ListN.{length}
use Rattle.lists.specs.Checks.{first}
use Rattle.lists.proofs.Checks.{first-none, first-passed}
use Rattle.paper.specs.Table.{cells}
use Rattle.plate.specs.Refusal.{Told, done, refusal, Numbered, numbered, number_of, told_by}
use Rattle.plate.specs.Settings.{settings_checks}
use Rattle.plate.specs.Call.{Call, Does}
use Rattle.plate.specs.Head.{held_in, cleared_head}
use Rattle.plate.specs.declared.head.Head.{Head}
use Rattle.plate.specs.declared.refusal.Refusal.{Refusal}
use Rattle.plate.proofs.Decided.{refused-first}
use Rattle.plate.proofs.Calls.{refuses, works, unwritten, finished}
use Rattle.table.specs.Table.{short, clearing}
use Rattle.table.specs.Plates.{table_of}
use Rattle.table.proofs.Plates.{cleared-is, length-table, table-again}
use Rattle.record.specs.Bytes.{Bytes}
use Rattle.record.specs.Faults.{tail}
use Rattle.job.specs.File.{Job, Finished, whole_by, whole_file}
use Rattle.job.proofs.Ordering.{ordered}
use Rattle.load.specs.Load.{too_large, front_of, job_of, loading_job, loading_by, loading}
use Rattle.load.specs.Heeding.{Seen, front_job, Cleared, filled_by}
use Rattle.load.specs.declared.Load.{Load}

-- ---- the job at the front, read into a table

module _ (most : ℕ) (s : List ℕ) (byte : Bytes s) (load : Load) (w : Seen (front_of most s) load) (table : List ℕ) where
  abbrev job : Job
  job = w.found.job

  abbrev N : ℕ
  N = job.asked.height

  abbrev T : ℕ
  T = job.asked.members

  abbrev call : Call Load (List ℕ)
  call = loading_job table job

  call-is : call ≡ loading table (front_job (front_of most s))
  unfolding loading
  call-is = ap (λ (t : Told Finished). loading_by table (front_job t)) (sym w.is)

  fine : first (settings_checks N T) ≡ none
  fine = (ordered (too_large most) s byte w.found w.is).fine

  -- clearing asks 3 alone, as the call does
  asks-same : first (clearing N T table).checks ≡ first call.checks
  unfolding clearing
  asks-same = first-passed (settings_checks N T) (short (held_in (cleared_head N T) table) 1 ∷ []) fine

  module _ (answer : Told Head) (new : List ℕ) (d : Does (clearing load.head.height load.head.members table) answer new) where
    -- the table was cleared for the job's settings
    clears : Does (clearing N T table) answer new
    clears = subst (λ (l : Load). Does (clearing l.head.height l.head.members table) answer new) (sym w.asks) d

    -- it is too short
    pub too_short : (r : Refusal) → answer ≡ refusal r → Does (loading table (front_job (front_of most s))) (refusal r) new
    unfolding clearing
    too_short r e =
        let t = sym clears.tells ∙ e in
        let f = refused-first (clearing N T table).checks (cleared_head N T) (number_of r.reason) r.place t in
        let kept : new ≡ table = clears.leaves ∙ unwritten (clearing N T table) (number_of r.reason) r.place t in
        subst (λ (c : Call Load (List ℕ)). Does c (refusal r) new) call-is
        (subst (λ (x : List ℕ). Does call (refusal r) x) (sym kept) (refuses call r (sym f ∙ asks-same)))

    -- it was cleared
    module _ (head : Head) (e : answer ≡ done head) where
      new_is : new ≡ table_of N T [] table
      unfolding clearing
      new_is = clears.leaves ∙ (finished (clearing N T table) head (sym clears.tells ∙ e)).2 ∙ cleared-is N T table

      passed : first call.checks ≡ none
      passed = sym asks-same ∙ (finished (clearing N T table) head (sym clears.tells ∙ e)).0

      pub ready : Cleared (front_of most s) new
      unfolding short
      ready =
          let l = ltb-false (length table) (cells N T) ((first-none call.checks).0 passed).0 in
          let k = ap (λ (x : List ℕ). length x) new_is ∙ length-table N T [] table in
          subst (λ (t : Told Finished). Cleared t new) (sym w.is) (omega arith, new_is ∙ sym (table-again N T [] [] table) ∙ ap (table_of N T []) (sym new_is))

      pub loaded : (last : List ℕ) → last ≡ filled_by new (front_of most s) → Does (loading table (front_job (front_of most s))) (done load) last
      loaded last f =
          let g = f ∙ ap (filled_by new) w.is ∙ ap (table_of N T job.columns) new_is ∙ table-again N T job.columns [] table in
          subst (λ (c : Call Load (List ℕ)). Does c (done load) last) call-is (works call load last (sym passed) (sym w.asks) g)

-- ---- the whole file

module _ (most : ℕ) (s table : List ℕ) where
  -- a file that is refused is not read, and nothing was written
  file-refused : (r : Refusal) → job_of most s ≡ refusal r → Does (loading table (job_of most s)) (refusal r) table
  unfolding loading
  file-refused r e = subst (λ (t : Told Job). Does (loading_by table t) (refusal r) table) (sym e) (refuses (loading_by table (refusal r)) r refl)

  -- at its front
  pub front-refused : (r : Refusal) → front_of most s ≡ refusal r → Does (loading table (job_of most s)) (refusal r) table
  unfolding whole_file
  front-refused r e = file-refused r (ap (whole_by s) e)

  module _ (load : Load) (w : Seen (front_of most s) load) (past : ℕ) (ends : w.found.past ≡ past) where
    -- past it
    pub tail-refused : (r : Refusal) → some (numbered r) ≡ first (tail s past ∷ []) → Does (loading table (job_of most s)) (refusal r) table
    unfolding whole_file
    tail-refused r e =
        file-refused r
        (ap (whole_by s) w.is
        ∙ ap (λ (n : ℕ). told_by (first (tail s n ∷ [])) w.found.job) ends
        ∙ ap (λ (o : Option Numbered). told_by o w.found.job) (sym e))

    -- nowhere
    pub whole_is : none ≡ first (tail s past ∷ []) → front_job (front_of most s) ≡ job_of most s
    unfolding whole_file
    whole_is e =
        ap front_job w.is
        ∙ ap (λ (o : Option Numbered). told_by o w.found.job) e
        ∙ ap (λ (n : ℕ). told_by (first (tail s n ∷ [])) w.found.job) (sym ends)
        ∙ ap (whole_by s) (sym w.is)
