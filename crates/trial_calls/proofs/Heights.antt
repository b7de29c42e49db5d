-- A motor height is no NaN. Assumes nothing.
use mathlib.Core.Bool.{not}
use Prim.Native.Nat.{ℕ}
use lib.Dec.{T}
use lib.IntN.{ℤ}
use lib.Ieee.{Float, nan, inf, fin, is_nan}
use Rattle.paper.specs.Motor.{MotorHeight}

pub no_nan : (x : Float) (s : ℕ) (z : ℤ) → MotorHeight s z x → T (not (is_nan x))
unfolding is_nan
no_nan nan s z h = absurd h.eightfold
no_nan (inf t) s z h = absurd h.eightfold
no_nan (fin t m e) s z h = tt
