-- Motor heights over whole numbers. In range the product z·s is below 2 ^ 24, so that the f32 nearest to its eighth is its eighth, by the
-- law of `Exact` at 2 ^ 3: document 01's height, and the only one. What a call tells says what it returned. Assumes nothing.
use mathlib.Core.Path.{◌≡◌, refl, sym, ap, ◌∙◌, subst}
use mathlib.Core.Bool.{true, false}
use mathlib.Core.List.{[], ◌∷◌}
use mathlib.Core.Option.{none}
use Prim.Native.Nat.{ℕ, zero, suc, ◌*◌, ◌^◌, ◌≤◌, ◌<◌}
use native.Mathlib.Nat.{mul-le-mul}
use native.Mathlib.Omega.{arith}
use borrow.Author.Tests.{ltb-false, le-ltb}
use lib.Dec.{ltb, lit<, lit≤}
use lib.IntN.{ℤ, pos, negsuc, neg_ℤ, nat_abs, ◌*ℤ◌, zero-*ℤ}
use lib.Signed.{lt_z}
use lib.Ieee.{Float, fin, binary32, round, fits}
use lib.Ieee.Fits.{round-fits}
use Rattle.lists.specs.Checks.{first}
use Rattle.lists.proofs.Checks.{first-none, or-false}
use Rattle.paper.specs.Motor.{negative, Times, MotorHeight}
use Rattle.plate.specs.Refusal.{done, told}
use Rattle.plate.specs.declared.refusal.Refusal.{Refusal}
use Rattle.plate.proofs.Decided.{told-done}
use Rattle.plate.proofs.Numbers.{number-only}
use Rattle.motor.specs.Exact.{over}
use Rattle.motor.specs.Height.{step_check, height_checks, height_answer}
use Rattle.motor.proofs.Exact.{over-exact, value-only}
use Rattle.std.specs.Prelude.{Result, Ok, Err}

-- ---- the product
size-of-negated : (n : ℕ) → nat_abs (neg_ℤ (pos n)) ≡ n
size-of-negated zero = refl
size-of-negated (suc n) = refl

size-of-product : (z : ℤ) (s : ℕ) → nat_abs (z *ℤ pos s) ≡ nat_abs z * s
size-of-product (pos n) s = refl
size-of-product (negsuc n) s = size-of-negated (suc n * s)

size-in-range : (z : ℤ) → lt_z z (negsuc 30) ≡ false → lt_z (pos 543) z ≡ false → nat_abs z ≤ 543
size-in-range (pos n) low high = ltb-false 543 n high
size-in-range (negsuc n) low high = omega (arith, ltb-false 30 n low)

-- ---- a step that passes
pub step_in : (s : ℕ) → none ≡ first (step_check s ∷ []) → (1 ≤ s) × (s ≤ 8192)
step_in s e =
    let q = or-false (ltb s 1) (ltb 8192 s) ((first-none (step_check s ∷ [])).0 (sym e)).0 in
    (ltb-false s 1 q.0, ltb-false 8192 s q.1)

-- ---- in range the product is small, and a height is answered
module _ (s : ℕ) (z : ℤ) (some : 1 ≤ s) (few : s ≤ 8192) (low : lt_z z (negsuc 30) ≡ false) (high : lt_z (pos 543) z ≡ false) where
  pub product_small : nat_abs (z *ℤ pos s) < 2 ^ 24
  product_small = omega (arith, size-of-product z s, mul-le-mul (size-in-range z low high) few)

  pub height-is : height_answer s z ≡ done (over (z *ℤ pos s) 8)
  height-is = simp (le-ltb s 1 some, le-ltb 8192 s few, low, high)

  pub height-given : (x : Float) × (height_answer s z ≡ done x)
  height-given = (over (z *ℤ pos s) 8, height-is)

-- ---- and only there
answered : (s : ℕ) (z : ℤ) (x : Float) → height_answer s z ≡ done x → (nat_abs (z *ℤ pos s) < 2 ^ 24) × (over (z *ℤ pos s) 8 ≡ x)
answered s z x e =
    let t = told-done (first (height_checks s z)) (over (z *ℤ pos s) 8) x e in
    let quiet = (first-none (height_checks s z)).0 t.0 in
    let step = step_in s (sym ((first-none (step_check s ∷ [])).1 (quiet.0, tt))) in
    let boundary = or-false (lt_z z (negsuc 30)) (lt_z (pos 543) z) quiet.1.0 in
    (product_small s z step.0 step.1 boundary.0 boundary.1, t.1)

-- ---- an answered height is document 01's
pub height-exact : (s : ℕ) (z : ℤ) (x : Float) → height_answer s z ≡ done x → MotorHeight s z x
height-exact s z x e =
    let a = answered s z x e in
    subst (MotorHeight s z) a.1 (record {
      single = round-fits binary32 (negative (z *ℤ pos s)) (nat_abs (z *ℤ pos s)) 8;
      eightfold = over-exact (z *ℤ pos s) a.0 3 (lit≤ tt);
    })

-- no other f32 is
pub height-only : (s : ℕ) (z : ℤ) (x y : Float) → height_answer s z ≡ done y → MotorHeight s z x → x ≡ y
height-only s z x y e h =
    let k = height-exact s z y e in
    value-only binary32 x y (negative (z *ℤ pos s)) (nat_abs (z *ℤ pos s)) 8 (lit< tt)
    h.single k.single h.eightfold k.eightfold

-- at the boundary 0 it is the positive zero
pub height-zero : (s : ℕ) → 1 ≤ s → s ≤ 8192 → height_answer s (pos 0) ≡ done (fin false 0 (pos 0))
unfolding round
height-zero s low few =
    height-is s (pos 0) low few refl refl ∙ ap (λ (product : ℤ). done (over product 8)) (zero-*ℤ (pos s))

-- P13: s = 15, z = -1: -1.875, the f32 whose thousandfold is -1875
pub p13 : (x : Float) × MotorHeight 15 (negsuc 0) x × Times 1000 x (negsuc 1874)
unfolding fits
p13 = (fin true 15 (negsuc 2), record { single = tt; eightfold = (refl, refl) }, (refl, refl))
