-- `motor_height` meets its contract. Past the checks the product is small, so that it fits an i32, and the cast and the division by 8 give its eighth.
-- Assumes nothing.
use Rattle.std.proofs.Common.{◌≡◌, refl, sym, subst, ap, ◌∙◌, [], ◌∷◌, ℕ, ◌<◌, ◌≤◌, false, ℤ, pos, negsuc, nat_abs, ◌*ℤ◌, ◌≤ℤ◌, to_z, of_z, w32, arith}
use Rattle.std.proofs.lemmas.Int.{ints}
use Prim.Native.Nat.{◌^◌}
use mathlib.Core.Option.{none}
use mir.Val.{SFits}
use mir.ValLaws.{to_z-of_z, to_z_pos}
use lib.Dec.{T}
use lib.Signed.{lt_z}
use lib.Ieee.{Float, fin, binary32, div, of_int, in_float, of_bits}
use Rattle.lists.specs.Checks.{first}
use Rattle.paper.specs.Motor.{MotorHeight}
use Rattle.plate.specs.Refusal.{done}
use Rattle.motor.specs.Height.{step_check, height_answer}
use Rattle.motor.proofs.Exact.{castable, quotient}
use Rattle.motor.proofs.Heights.{step_in, product_small, height-is, height-exact}
use Rattle.motor.proofs.motor_height.Goals as goal

-- the divisor 8.0, by its bits
eight : of_bits binary32 0x4100_0000 ≡ fin false 1 (pos 3)
unfolding of_bits
eight = refl

fits-small : (x : ℤ) → nat_abs x < 2 ^ 24 → SFits w32 x
fits-small (pos n) h = record { sfits = omega arith }
fits-small (negsuc n) h = record { sfits = omega arith }

-- past the checks
module _ (s : ℕ) (z : ℤ) (fits : SFits w32 z) (passes : none ≡ first (step_check s ∷ [])) (from : negsuc 30 ≤ℤ z) (to : z ≤ℤ pos 543) where
  step-fine : (1 ≤ s) × (s ≤ 8192)
  step-fine = step_in s passes

  low : lt_z z (negsuc 30) ≡ false
  low = grind (arith, ints)

  high : lt_z (pos 543) z ≡ false
  high = grind (arith, ints)

  small : nat_abs (z *ℤ pos s) < 2 ^ 24
  small = product_small s z step-fine.0 step-fine.1 low high

  -- what the machine multiplies, and reads back from its bits
  abbrev computed : ℤ
  computed = to_z w32 (of_z w32 (to_z w32 (of_z w32 z) *ℤ to_z w32 s))

  computed-is : computed ≡ z *ℤ pos s
  computed-is =
      ap (λ (x : ℤ). to_z w32 (of_z w32 (x *ℤ to_z w32 s))) (to_z-of_z w32 z fits)
      ∙ ap (λ (x : ℤ). to_z w32 (of_z w32 (z *ℤ x))) (to_z_pos w32 s (omega (arith, step-fine.1)))
      ∙ to_z-of_z w32 (z *ℤ pos s) (fits-small (z *ℤ pos s) small)

  cast : T (in_float binary32 computed)
  cast = subst (λ (x : ℤ). T (in_float binary32 x)) (sym computed-is) (castable (z *ℤ pos s) small)

  answer : done (div binary32 (of_int binary32 computed) (of_bits binary32 0x4100_0000)) ≡ height_answer s z
  answer =
      ap (λ (x : ℤ). done (div binary32 (of_int binary32 x) (of_bits binary32 0x4100_0000))) computed-is
      ∙ ap (λ (x : Float). done (div binary32 (of_int binary32 (z *ℤ pos s)) x)) eight
      ∙ ap done (quotient (z *ℤ pos s) small 3)
      ∙ sym (height-is s z step-fine.0 step-fine.1 low high)

  -- and it is exact
  told-exact : (done (div binary32 (of_int binary32 computed) (of_bits binary32 0x4100_0000)) ≡ height_answer s z)
      × MotorHeight s z (div binary32 (of_int binary32 computed) (of_bits binary32 0x4100_0000))
  told-exact = (answer, height-exact s z _ (sym answer))

pub int_to_float-result : goal.int_to_float-result
int_to_float-result c = cast _ c.args.z c.ranges.z c.in_ok-check_step.ensures (grind (arith, ints)) (grind (arith, ints))

pub returns : goal.returns
returns c = told-exact _ c.args.z c.ranges.z c.in_ok-check_step.ensures (grind (arith, ints)) (grind (arith, ints))
