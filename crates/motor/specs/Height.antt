-- What `motor_height` answers: refusals 14 and 15, in document 01's own order of whole numbers, or the f32 nearest to z·s / 8.
-- Assumes nothing.
use Rattle.std.specs.Prelude.{ℕ, ◌||◌, List, [], ◌∷◌, ℤ, pos, negsuc, ◌*ℤ◌, Float, Result, Ok, Err}
use Rattle.std.specs.Int.Signed.{lt_z}
use Rattle.lists.specs.Checks.{Check}
use Rattle.paper.specs.Motor.{MotorHeight}
use Rattle.plate.specs.Refusal.{Told, Numbered, check, decided}
use Rattle.plate.specs.Settings.{outside}
use Rattle.motor.specs.Exact.{over}
use Rattle.plate.specs.declared.refusal.Refusal.{Refusal}

-- 14: step outside 1 to 8,192
abbrev pub step_check : ℕ → Check Numbered
step_check s = check 14 (outside 1 8192 s) 0

-- 15: boundary outside -31 to 543
abbrev pub height_checks : ℕ → ℤ → List (Check Numbered)
height_checks s z = step_check s ∷ check 15 (lt_z z (negsuc 30) || lt_z (pos 543) z) 0 ∷ []

abbrev pub height_answer : ℕ → ℤ → Told Float
height_answer s z = decided (height_checks s z) (over (z *ℤ pos s) 8)

-- what `motor_height` tells its caller beside its answer: a height is exact
abbrev pub Lifts : Result Float Refusal → ℕ → ℤ → Type 0
Lifts (Ok x) s z = MotorHeight s z x
Lifts (Err r) s z = Unit {0}
