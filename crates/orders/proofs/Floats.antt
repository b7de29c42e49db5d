-- A layer as printed is exact. No product of a distance and a step is above 2 ^ 23, and no entry of a cure list above 2 ^ 16, so that the law of
-- crate `motor` on a whole number divided by a power of two gives both, at 8 and at 64. So none of the three is a NaN, and all have bits.
-- Assumes nothing.
use mathlib.Core.Path.{◌≡◌, refl, ap, ◌∙◌}
use mathlib.Core.Bool.{Bool, false, not}
use Prim.Native.Nat.{ℕ, ◌*◌, ◌^◌, ◌≤◌, ◌<◌}
use native.Mathlib.Nat.{mul-le-mul}
use native.Mathlib.Omega.{arith}
use lib.Dec.{T, lit≤}
use lib.IntN.{pos}
use lib.Ieee.{Float, nan, inf, fin, binary32, div, of_int, of_bits, is_nan}
use lib.Ieee.Exact.{HasValue}
use lib.Ieee.Fits.{round-fits}
use Rattle.paper.specs.Motor.{MotorHeight}
use Rattle.motor.proofs.Exact.{quotient, over-exact}
use Rattle.orders.specs.Layer.{micrometres, seconds, printed_layer, CureTime, Exactly}

-- a float that has a value is no NaN
pub no_nan : (x : Float) (s : Bool) (n c : ℕ) → HasValue x s n c → T (not (is_nan x))
unfolding is_nan
no_nan nan s n c h = absurd h
no_nan (inf t) s n c h = tt
no_nan (fin t m e) s n c h = tt

-- the divisors, by their bits
eight : of_bits binary32 0x4100_0000 ≡ fin false 1 (pos 3)
unfolding of_bits
eight = refl

sixty-four : of_bits binary32 0x4280_0000 ≡ fin false 1 (pos 6)
unfolding of_bits
sixty-four = refl

-- ---- heights

pub product_small : (units step : ℕ) → units < 1024 → step ≤ 8192 → units * step < 2 ^ 24
product_small units step u s = let few : units ≤ 1023 = omega arith in omega (arith, mul-le-mul few s)

module _ (units step : ℕ) (small : units * step < 2 ^ 24) where
  -- what the cast and the division give
  pub micrometres-are : div binary32 (of_int binary32 (pos (units * step))) (of_bits binary32 0x4100_0000) ≡ micrometres step units
  unfolding micrometres
  micrometres-are = ap (div binary32 (of_int binary32 (pos (units * step)))) eight ∙ quotient (pos (units * step)) small 3

  pub micrometres-exact : MotorHeight step (pos units) (micrometres step units)
  unfolding micrometres
  micrometres-exact = record { single = round-fits binary32 false (units * step) 8; eightfold = over-exact (pos (units * step)) small 3 (lit≤ tt) }

-- ---- cure times

module _ (cure : ℕ) (small : cure < 65_536) where
  pub seconds-are : div binary32 (of_int binary32 (pos cure)) (of_bits binary32 0x4280_0000) ≡ seconds cure
  unfolding seconds
  seconds-are = ap (div binary32 (of_int binary32 (pos cure))) sixty-four ∙ quotient (pos cure) (omega arith) 6

  pub seconds-exact : CureTime cure (seconds cure)
  unfolding seconds
  seconds-exact = record { single = round-fits binary32 false cure 64; sixtyfourfold = over-exact (pos cure) (omega arith) 6 (lit≤ tt) }

-- ---- the layer

pub layer-exact : (rise thickness step cure : ℕ) → rise < 1024 → thickness < 1024 → step ≤ 8192 → cure < 65_536
    → Exactly (printed_layer rise thickness step cure) rise thickness step cure
layer-exact rise thickness step cure r t s c = record {
  to-height = micrometres-exact rise step (product_small rise step r s);
  as-thick = micrometres-exact thickness step (product_small thickness step t s);
  for-time = seconds-exact cure c;
}
