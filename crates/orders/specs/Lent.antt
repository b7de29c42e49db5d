-- Document 02 e), what both calls are handed beside a sequence or a file: 'Refusals: 1, 2, 14, 3 for the list'. Assumes nothing.
use Rattle.std.specs.Prelude.{ℕ, List, [], ◌∷◌, ◌++◌, ltb, length}
use Rattle.lists.specs.Checks.{Check}
use Rattle.paper.specs.Layer.{tmax}
use Rattle.plate.specs.Refusal.{Numbered, check}
use Rattle.plate.specs.Settings.{settings_checks}
use Rattle.motor.specs.Height.{step_check}

unfoldable pub lent_checks : ℕ → ℕ → ℕ → List ℕ → List (Check Numbered)
lent_checks N T step cures = settings_checks N T ++ (step_check step ∷ check 3 (ltb (length cures) (tmax T)) 1 ∷ [])
