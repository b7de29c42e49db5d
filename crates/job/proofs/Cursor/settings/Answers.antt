-- 1 and 2 are those of `Settings::new`, at the record's first byte. Assumes nothing.
use Rattle.std.proofs.Common.{◌≡◌, ℕ, sym, ◌∙◌}
use mathlib.Core.Option.{Option}
use Rattle.lists.specs.Checks.{first}
use Rattle.plate.specs.Refusal.{Numbered}
use Rattle.plate.specs.Settings.{settings_checks}
use Rattle.job.specs.declared.Kind.TheVariants as kind
use Rattle.job.proofs.Reading.{handed, body_refused, body-passed}
use Rattle.job.proofs.Bodies.{settings-refused, settings-passed}
use Rattle.job.proofs.Cursor.settings.Goals as goal

-- what was said of the numbers that were read
said : (o : Option Numbered) (N T N' T' : ℕ) → o ≡ first (settings_checks N T) → N ≡ N' → T ≡ T' → first (settings_checks N' T') ≡ o
said o N T N' T' e n t = rw (← n, ← t) (sym e)

pub returns-in_err-new : goal.returns-in_err-new
returns-in_err-new c =
    handed _ _ _ _ c.from_residual.ensures.1
    ∙ body_refused _ _ _ kind.Settings _
    (settings-refused _ _ _ _ (said _ _ _ _ _ c.in_err-new.ensures.says (c.from-height.ensures ∙ c.word.ensures) c.quad-members.ensures))

pub returns : goal.returns
returns c =
    let w = c.from-height.ensures ∙ c.word.ensures in
    let q = c.quad-members.ensures in
    c.passed.ensures
    ∙ rw (c.begin.ensures, w, q, c.quad-bound.ensures)
    (body-passed _ _ _ kind.Settings (settings-passed _ _ _ (said _ _ _ _ _ c.in_ok-new.ensures.says w q)))
