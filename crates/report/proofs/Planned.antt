-- The text of a job by what the calls told and left: reading the file into a table, and planning it. Assumes nothing.
use mathlib.Core.Path.{◌≡◌, sym, ap, ap₂, ◌∙◌}
use mathlib.Core.List.{List}
use Prim.Native.Nat.{ℕ, ◌≤◌}
use native.Mathlib.Omega.{arith}
use lib.ListN.{length}
use Rattle.plate.specs.Refusal.{Told, told, number_of}
use Rattle.plate.specs.Call.{Does}
use Rattle.plate.specs.Head.{held_in}
use Rattle.plate.specs.declared.refusal.Refusal.{Refusal}
use Rattle.plate.proofs.Calls.{finished}
use Rattle.job.specs.File.{Job}
use Rattle.load.specs.Load.{loading}
use Rattle.load.specs.declared.Load.{Load}
use Rattle.plan.specs.Plan.{Sheets, planning}
use Rattle.plan.proofs.Passed.{list-room}
use Rattle.report.specs.Lines.{refused_line}
use Rattle.report.specs.Work.{blank_sheets, sheets_text, planned_by, planned_text, loaded_by, file_text}
use Rattle.std.specs.Prelude.{Result, Ok, Err}

module _ (l : Load) (table : List ℕ) (lent left : Sheets) (r : Result ℕ Refusal) (d : Does (planning (held_in l.head table) l.bound lent) (told r) left) where
  by_answer : (x : Result ℕ Refusal) → r ≡ x → planned_by l.head (told x) left ≡ planned_text l table lent
  unfolding planned_text
  by_answer x e = ap₂ (planned_by l.head) (ap told (sym e) ∙ d.tells) d.leaves

  pub plan-refused : (refusal : Refusal) → r ≡ Err refusal → refused_line (number_of refusal.reason) refusal.place ≡ planned_text l table lent
  plan-refused refusal e = by_answer (Err refusal) e

  module _ (counts : ℕ) (e : r ≡ Ok counts) where
    pub plan-done : sheets_text l.head counts left.errors left.thicknesses ≡ planned_text l table lent
    plan-done = by_answer (Ok counts) e

    -- the list has room for every count
    pub counted : counts ≤ length lent.leasts
    unfolding planning
    counted =
        let f = finished (planning (held_in l.head table) l.bound lent) counts (sym d.tells ∙ ap told e) in
        omega (arith, f.1, list-room (held_in l.head table) (length lent.errors) (length lent.thicknesses) (length lent.leasts) f.0)

module _ (file : Told Job) (lent table : List ℕ) (r : Result Load Refusal) (d : Does (loading lent file) (told r) table) where
  by-load : (x : Result Load Refusal) → r ≡ x → loaded_by (told x) table ≡ file_text file lent
  unfolding file_text
  by-load x e = ap₂ loaded_by (ap told (sym e) ∙ d.tells) d.leaves

  pub load-refused : (refusal : Refusal) → r ≡ Err refusal → refused_line (number_of refusal.reason) refusal.place ≡ file_text file lent
  load-refused refusal e = by-load (Err refusal) e

  pub load-done : (l : Load) → r ≡ Ok l → planned_text l table blank_sheets ≡ file_text file lent
  load-done l e = by-load (Ok l) e
