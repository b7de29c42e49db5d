-- A whole number cast to a float and divided by a power of two is the quotient, exactly, as long as the number has no more digits than
-- the format keeps: the cast and the division each round a fraction that the format has. And the quotient's value and sign say which
-- float it is: two floats of one value and sign have the same bits. For either format, every power of two in reach and both signs.
-- Assumes nothing.
use mathlib.Core.Path.{◌≡◌, refl, sym, ap, ◌∙◌}
use mathlib.Core.Bool.{Bool, true, false, cond}
use Prim.Native.Nat.{ℕ, suc, ◌+◌, ◌-◌, ◌*◌, ◌/◌, ◌^◌, ◌≤◌, ◌<◌}
use native.Mathlib.Nat.{le_of_lt, lt_of_lt_of_le, one-mul, mul_assoc, mul_right_comm, mul-pos, zero-lt-suc, eq_of_mul-eq-mul_right}
use native.Mathlib.Omega.{arith}
use lib.IntN.{ℤ, pos, negsuc, nat_abs}
use lib.Dec.{T, le→leb}
use lib.Pow.{pow-add, pow_pos, pow_mono, shl_lt}
use lib.Ieee.{Float, nan, inf, fin, Format, binary32, prec, emax, low, unlike, up, down, size, round, div, of_int, in_float, fits, of_bits, to_bits, hid, top}
use lib.Ieee.Fits.{down_pos, reach}
use lib.Ieee.Digits.{back}
use lib.Ieee.Exact.{HasValue, round_exact}
use lib.Ieee.Scale.{round_same}
use lib.Ieee.Nearest.{div_same}
use lib.Ieee.Back.{round_whole}
use lib.Ieee.Bits.{of_bits-to_bits}
use Rattle.paper.specs.Motor.{negative, Times}
use Rattle.motor.specs.Exact.{over}

-- ---- the quotient by 2 ^ k
like-positive : (s : Bool) → unlike s false ≡ s
like-positive true = refl
like-positive false = refl

same-fraction : (m d n p : ℕ) → m * 1 ≡ n * d → m * 1 * p ≡ n * (1 * p * d)
same-fraction m d n p h =
    ap (λ (x : ℕ). x * p) h ∙ mul_right_comm n d p ∙ mul_assoc n p d ∙ ap (λ (x : ℕ). n * (x * d)) (sym (one-mul p))

-- a float that is n with the sign s, divided by 2 ^ k, is n / 2 ^ k rounded once
divided : (f : Format) (x : Float) (s : Bool) (n k : ℕ) → HasValue x s n 1 → div f x (fin false 1 (pos k)) ≡ round f s n (2 ^ k)
unfolding div
divided f nan s n k h = absurd h
divided f (inf t) s n k h = absurd h
divided f (fin t m e) s n k h =
    ap (λ (b : Bool). round f b (m * up e * 1) (1 * 2 ^ k * down e)) (like-positive t ∙ h.0)
    ∙ round_same f s (m * up e * 1) (1 * 2 ^ k * down e) n (2 ^ k)
    (mul-pos (mul-pos (zero-lt-suc 0) (pow_pos k)) (down_pos e)) (pow_pos k)
    (same-fraction (m * up e) (down e) n (2 ^ k) h.1)

-- the cast of a whole number
whole : (f : Format) (z : ℤ) → nat_abs z ≤ 2 ^ prec f → HasValue (of_int f z) (negative z) (nat_abs z) 1
unfolding of_int
whole f (pos n) h = round_whole f false n h
whole f (negsuc n) h = round_whole f true (suc n) h

-- ---- nothing is rounded
room : (p l e k : ℕ) → p ≤ e → p + (l - k) ≤ l + e
room p l e k h = omega arith

exact : (f : Format) (s : Bool) (n k : ℕ) → n < 2 ^ prec f → k ≤ low f → HasValue (round f s n (2 ^ k)) s n (2 ^ k)
exact f s n k small h =
    round_exact f s n (2 ^ k) n (low f - k) (pow_pos k) small
    (lt_of_lt_of_le (shl_lt (prec f) (low f - k) small) (pow_mono (room (prec f) (low f) (suc (emax f)) k (reach f))))
    (ap (λ (x : ℕ). n * x) (ap (λ (x : ℕ). 2 ^ x) (sym (back (low f) k h)) ∙ pow-add 2 (low f - k) k)
    ∙ sym (mul_assoc n (2 ^ (low f - k)) (2 ^ k)))

-- ---- THE LAW, at the f32, for a whole number of at most 24 binary digits

-- the cast is defined
pub castable : (z : ℤ) → nat_abs z < 2 ^ 24 → T (in_float binary32 z)
unfolding in_float
castable (pos n) small = le→leb n (2 ^ 24) (le_of_lt small)
castable (negsuc n) small = le→leb (suc n) (2 ^ 24) (le_of_lt small)

module _ (z : ℤ) (small : nat_abs z < 2 ^ 24) where
  -- what the cast and the division give
  pub quotient : (k : ℕ) → div binary32 (of_int binary32 z) (fin false 1 (pos k)) ≡ over z (2 ^ k)
  quotient k = divided binary32 (of_int binary32 z) (negative z) (nat_abs z) k (whole binary32 z (le_of_lt small))

  -- and that this is exact, for every power of two that the f32 reaches
  pub over-exact : (k : ℕ) → k ≤ 149 → Times (2 ^ k) (over z (2 ^ k)) z
  over-exact k h = exact binary32 (negative z) (nat_abs z) k small h

-- ---- only one float has a value and a sign
cross : (x y d e a c : ℕ) → 0 < c → x * c ≡ a * d → y * c ≡ a * e → x * e ≡ y * d
cross x y d e a c p h k =
    eq_of_mul-eq-mul_right c p (x * e) (y * d)
    (mul_right_comm x e c ∙ ap (λ (t : ℕ). t * e) h ∙ mul_right_comm a d e
    ∙ ap (λ (t : ℕ). t * d) (sym k) ∙ mul_right_comm y c d)

-- the bits, by the sign and the size in units of the format's smallest value
abbrev bits : Format → Bool → ℕ → ℕ
bits f s n = cond s (top f) 0 + (size n - prec f) * hid f + n / 2 ^ (size n - prec f)

same_bits : (f : Format) (x y : Float) (s : Bool) (a c : ℕ) → 0 < c → HasValue x s a c → HasValue y s a c → to_bits f x ≡ to_bits f y
unfolding to_bits
same_bits f nan y s a c p h k = absurd h
same_bits f (inf t) y s a c p h k = absurd h
same_bits f (fin t m e) nan s a c p h k = absurd k
same_bits f (fin t m e) (inf u) s a c p h k = absurd k
same_bits f (fin t m e) (fin u n g) s a c p h k =
    let l = 2 ^ low f in
    let q : m * up e * l / down e ≡ n * up g * l / down g =
    div_same (m * up e * l) (down e) (n * up g * l) (down g) (down_pos e) (down_pos g)
    (mul_right_comm (m * up e) l (down g)
    ∙ ap (λ (x : ℕ). x * l) (cross (m * up e) (n * up g) (down e) (down g) a c p h.1 k.1)
    ∙ mul_right_comm (n * up g) (down e) l) in
    ap (λ (b : Bool). bits f b (m * up e * l / down e)) (h.0 ∙ sym k.0) ∙ ap (bits f u) q

pub value-only : (f : Format) (x y : Float) (s : Bool) (a c : ℕ) → 0 < c → T (fits f x) → T (fits f y)
    → HasValue x s a c → HasValue y s a c → x ≡ y
value-only f x y s a c p fx fy h k = sym (of_bits-to_bits f x fx) ∙ ap (of_bits f) (same_bits f x y s a c p h k) ∙ of_bits-to_bits f y fy
