-- The line of a count, by what reading it back told and left. Assumes nothing.
use mathlib.Core.Path.{◌≡◌, sym, ap, ap₂, ◌∙◌}
use mathlib.Core.List.{List}
use Prim.Native.Nat.{ℕ, ◌+◌}
use lib.IntN.{ℤ}
use lib.ListN.{take}
use Rattle.plate.specs.Refusal.{told}
use Rattle.plate.specs.declared.refusal.Refusal.{Refusal}
use Rattle.plate.specs.Call.{Does}
use Rattle.readback.specs.Reading.{reading}
use Rattle.report.specs.Lines.{none_line, sequence_line}
use Rattle.report.specs.Work.{read_line, sheet_line}
use Rattle.std.specs.Prelude.{Result, Ok, Err}

module _ (N T : ℕ) (errors thicknesses : List ℕ) (n : ℕ) (old new : List ℤ) (r : Result ℕ Refusal) (d : Does (reading N T errors thicknesses n old) (told r) new) where
  by_answer : (x : Result ℕ Refusal) → r ≡ x → read_line n (told x) new ≡ sheet_line N T errors thicknesses old n
  unfolding sheet_line
  by_answer x e = ap₂ (read_line n) (ap told (sym e) ∙ d.tells) d.leaves

  pub read_done : (e : ℕ) → r ≡ Ok e → sequence_line n e (take (n + 1) new) ≡ sheet_line N T errors thicknesses old n
  read_done e f = by_answer (Ok e) f

  pub read_none : (refusal : Refusal) → r ≡ Err refusal → none_line n ≡ sheet_line N T errors thicknesses old n
  read_none refusal f = by_answer (Err refusal) f
