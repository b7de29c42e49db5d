-- A size of settings that were made is that of the settings of N and T, and no check holds. Assumes nothing.
use Rattle.std.proofs.Common.{◌≡◌, ℕ, ap, refl, ◌∙◌}
use mathlib.Core.Option.{Option}
use Rattle.plate.specs.Refusal.{done, Numbered, told_by, decided}
use Rattle.plate.specs.Settings.{settings_checks, settings_of, Judges}
use Rattle.plate.specs.declared.settings.Settings.{Settings}
use Rattle.std.specs.Prelude.{Ok}

pub sized : (N T : ℕ) (size : Settings → ℕ) (s : Settings) → Judges (Ok s) (settings_checks N T) N T
    → done (size s) ≡ decided (settings_checks N T) (size (settings_of N T))
sized N T size s j = ap (λ (x : Settings). done (size x)) (j.good s refl).0 ∙ ap (λ (o : Option Numbered). told_by o (size (settings_of N T))) j.says
