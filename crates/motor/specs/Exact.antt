-- The f32 nearest to a quotient of whole numbers. Assumes nothing.
use Rattle.std.specs.Prelude.{ℕ, ℤ, nat_abs, Float}
use Rattle.std.specs.Float.{binary32}
use Rattle.std.specs.Float.Ieee.{round}
use Rattle.paper.specs.Motor.{negative}

-- the f32 nearest to z / c, with z's sign
abbrev pub over : ℤ → ℕ → Float
over z c = round binary32 (negative z) (nat_abs z) c
