-- `picture` meets its contract: refusals 1 and 2 of the settings, and then those of `picture_of`. Assumes nothing.
use Rattle.std.proofs.Common.{refl, ◌≡◌, ℕ, ◌++◌, List, ℤ, ap, ◌∙◌}
use mathlib.Core.Option.{Option}
use mir.Syntax.{w32}
use mir.ValLaws.{to_z-of_z}
use Rattle.plate.specs.Refusal.{told, Numbered, told_by, decided}
use Rattle.plate.specs.Settings.{settings_checks, Judges}
use Rattle.plate.specs.declared.refusal.Refusal.{Refusal}
use Rattle.plate.specs.declared.settings.Settings.{Settings}
use Rattle.plate.proofs.Calls.{handed-decided, passed}
use Rattle.column.specs.Order.{column_checks}
use Rattle.column.specs.Picture.{layer_checks, judgement, picture_checks, picture_answer}
use Rattle.column.specs.declared.Judged.{Judged}
use Rattle.column.proofs.picture.Goals as goal
use Rattle.std.specs.Prelude.{Result, Ok, Err, IsErrAnd}

module _ (N T : ℕ) (bs : List ℕ) (z : ℤ) (t : ℕ) where
  handed : (result : Result Judged Refusal) (r : Refusal) → IsErrAnd result (λ e. e ≡ r) → Judges (Err r) (settings_checks N T) N T → told result ≡ picture_answer N T bs z t
  unfolding picture_answer picture_checks
  handed result r h j = handed-decided result r h (settings_checks N T) (column_checks N bs ++ layer_checks N T z t) (judgement bs z t) j.says

  good : {s : Settings} → Judges (Ok s) (settings_checks N T) N T
      → decided (column_checks s.height bs ++ layer_checks s.height s.members z t) (judgement bs z t) ≡ picture_answer N T bs z t
  unfolding picture_answer picture_checks
  good {s} j =
      ap (λ (s : Settings). decided (column_checks s.height bs ++ layer_checks s.height s.members z t) (judgement bs z t)) (j.good s refl).0
      ∙ ap (λ (o : Option Numbered). told_by o (judgement bs z t)) (passed j (column_checks N bs ++ layer_checks N T z t) s refl)

pub returns-in_err-s : goal.returns-in_err-s
returns-in_err-s c = handed _ _ _ _ _ _ _ c.from_residual.ensures.1 c.in_err-s.ensures

pub picture_of-requires : goal.picture_of-requires
picture_of-requires c = (c.in_ok-s.ensures.good _ refl).1

pub returns : goal.returns
returns c =
    let a = c.args in
    c.picture_of.ensures
    ∙ good _ _ _ _ _ c.in_ok-s.ensures
    ∙ ap (λ (z : ℤ). picture_answer a.height a.members a.column.now z a.thickness) (to_z-of_z w32 a.start c.ranges.start)
