-- Document 01, 'Motor heights'. Assumes nothing.
use Rattle.std.specs.Prelude.{ℕ, Bool, true, false, T, ℤ, pos, negsuc, nat_abs, ◌*ℤ◌, Float}
use Rattle.std.specs.Float.{binary32}
use Rattle.std.specs.Float.Ieee.{fits}
use Rattle.std.specs.Float.Ieee.Exact.{HasValue}

-- whether z is below 0
abbrev pub negative : ℤ → Bool
negative (pos n) = false
negative (negsuc n) = true

-- x is finite, c times x is exactly the whole number z, and x has z's sign, so that for 0 it is the positive zero
abbrev pub Times : ℕ → Float → ℤ → Type 0
Times c x z = HasValue x (negative z) (nat_abs z) c

-- the height of a boundary z for the step s: the f32 whose eightfold is exactly z·s, with positive zero for 0
pub record MotorHeight (s : ℕ) (z : ℤ) (x : Float) : Type 0 where
  pub single : T (fits binary32 x)
  pub eightfold : Times 8 x (z *ℤ pos s)
