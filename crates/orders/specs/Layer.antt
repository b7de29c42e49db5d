-- Document 02 e), 'A layer as printed is its upper height above the first boundary, its thickness and its cure time, all f32: micrometres by
-- document 01's exact rule, and seconds, exact too, from a lent list of 16-bit 64ths'. Assumes nothing.
use Rattle.std.specs.Prelude.{ℕ, ◌*◌, pos, Float, T}
use Rattle.std.specs.Float.{binary32}
use Rattle.std.specs.Float.Ieee.{to_bits, fits}
use Rattle.paper.specs.Motor.{Times, MotorHeight}
use Rattle.motor.specs.Exact.{over}
use Rattle.orders.specs.declared.Printed.{Printed}

-- a distance in units, for a step in eighths of a micrometre
unfoldable pub micrometres : ℕ → ℕ → Float
micrometres step units = over (pos (units * step)) 8

-- a cure time in 64ths of a second
unfoldable pub seconds : ℕ → Float
seconds cure = over (pos cure) 64

-- THE LAYER AS PRINTED, by the rise to its upper height, its thickness, the step and its entry in the cure list
abbrev pub printed_layer : ℕ → ℕ → ℕ → ℕ → Printed
printed_layer rise thickness step cure =
    record { height = micrometres step rise; thickness = micrometres step thickness; cure = seconds cure }

-- a cure time as a float: the f32 whose 64fold is exactly the entry
pub record CureTime (cure : ℕ) (x : Float) : Type 0 where
  pub single : T (fits binary32 x)
  pub sixtyfourfold : Times 64 x (pos cure)

-- each of the three is exact
pub record Exactly (layer : Printed) (rise thickness step cure : ℕ) : Type 0 where
  pub to-height : MotorHeight step (pos rise) layer.height
  pub as-thick : MotorHeight step (pos thickness) layer.thickness
  pub for-time : CureTime cure layer.cure

-- ---- the floats' bits

unfoldable pub height_bits : ℕ → ℕ → ℕ
height_bits step units = to_bits binary32 (micrometres step units)

unfoldable pub cure_bits : ℕ → ℕ
cure_bits cure = to_bits binary32 (seconds cure)
