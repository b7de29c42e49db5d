-- The floats of an order list. No layers are higher together than 574 units, so that each float is exact (`orders/Floats`), and by the motor's law the
-- only such f32. So heights of one float are the same height, as
-- the step is at least 1; and a float is known by its bits, which are a number of four bytes. Assumes nothing.
use mathlib.Core.Path.{◌≡◌, sym, ap, subst, ◌∙◌}
use mathlib.Core.Bool.{Bool, false}
use mathlib.Core.List.{List}
use Prim.Native.Nat.{ℕ, ◌+◌, ◌-◌, ◌*◌, ◌^◌, ◌≤◌, ◌<◌}
use native.Mathlib.Nat.{eq_of_mul-eq-mul_right}
use native.Mathlib.Omega.{arith}
use lib.Dec.{lit<}
use lib.IntN.{pos}
use lib.Ieee.{Float, nan, inf, fin, binary32, down, of_bits}
use lib.Ieee.Bits.{of_bits-to_bits, to_bits-lt}
use lib.Ieee.Exact.{HasValue}
use lib.Ieee.Fits.{round-fits, down_pos}
use Rattle.paper.specs.Layer.{tmax}
use Rattle.paper.specs.Motor.{MotorHeight}
use Rattle.paper.proofs.Thicknesses.{tmax-le}
use Rattle.motor.proofs.Exact.{value-only}
use Rattle.orders.specs.Layer.{micrometres, seconds, CureTime, height_bits, cure_bits}
use Rattle.orders.proofs.Floats.{product_small, micrometres-exact, seconds-exact}
use Rattle.promises.specs.Printing.{Lent, FloatsExactly}

height-only : (units step : ℕ) → units * step < 2 ^ 24 → (x : Float) → MotorHeight step (pos units) x → x ≡ micrometres step units
height-only units step small x h =
    let k = micrometres-exact units step small in
    value-only binary32 x (micrometres step units) false (units * step) 8 (lit< tt) h.single k.single h.eightfold k.eightfold

time-only : (cure : ℕ) → cure < 65_536 → (x : Float) → CureTime cure x → x ≡ seconds cure
time-only cure small x h =
    let k = seconds-exact cure small in
    value-only binary32 x (seconds cure) false cure 64 (lit< tt) h.single k.single h.sixtyfourfold k.sixtyfourfold

-- a float has one value
one_value : (x : Float) (s : Bool) (a b c : ℕ) → HasValue x s a c → HasValue x s b c → a ≡ b
one_value nan s a b c h k = absurd h
one_value (inf t) s a b c h k = absurd h
one_value (fin t m e) s a b c h k = eq_of_mul-eq-mul_right (down e) (down_pos e) a b (sym h.1 ∙ k.1)

-- the bits of a float fill four bytes at most
pub height-bits-small : (step units : ℕ) → height_bits step units < 4_294_967_296
unfolding height_bits micrometres
height-bits-small step units = to_bits-lt binary32 (micrometres step units) (round-fits binary32 false (units * step) 8)

pub cure-bits-small : (cure : ℕ) → cure_bits cure < 4_294_967_296
unfolding cure_bits seconds
cure-bits-small cure = to_bits-lt binary32 (seconds cure) (round-fits binary32 false cure 64)

module _ {N T step : ℕ} {cures : List ℕ} (l : Lent N T step cures) where
  abbrev most : ℕ
  most = N + 2 * tmax T - 2

  small : (units : ℕ) → units ≤ most → units * step < 2 ^ 24
  small units u =
      let n = l.settings.greatest-height in
      product_small units step (omega (arith, tmax-le T)) l.step-to

  pub floats-exactly : FloatsExactly N T step
  floats-exactly = record {
    height = λ units u. micrometres-exact units step (small units u);
    height-only = λ units u. height-only units step (small units u);
    time = seconds-exact;
    time-only = time-only;
  }

  -- heights of the same bits are the same
  pub heights-same : (x y : ℕ) → x ≤ most → y ≤ most → height_bits step x ≡ height_bits step y → x ≡ y
  unfolding height_bits
  heights-same x y u v e =
      let a = micrometres-exact x step (small x u) in
      let b = micrometres-exact y step (small y v) in
      let f : micrometres step x ≡ micrometres step y =
      sym (of_bits-to_bits binary32 (micrometres step x) a.single) ∙ ap (of_bits binary32) e ∙ of_bits-to_bits binary32 (micrometres step y) b.single in
      eq_of_mul-eq-mul_right step l.step_from x y
      (one_value (micrometres step y) false (x * step) (y * step) 8 (subst (λ (z : Float). HasValue z false (x * step) 8) f a.eightfold) b.eightfold)
