-- A number's digits as `io::decimal` gives them, the fewest that hold it, are its digits as they are spelled here. By induction on their
-- number: a number below ten has one, and any other has those of its tenth and one more. Assumes nothing.
use mathlib.Core.Path.{◌≡◌, refl, ap, ap₂, ◌∙◌}
use mathlib.Core.Bool.{Bool, true, false, cond}
use mathlib.Core.List.{List, [], ◌∷◌, ◌++◌}
use Prim.Native.Nat.{ℕ, zero, suc, ◌+◌, ◌-◌, ◌/◌, ◌%◌, ◌^◌, ◌≤◌, ◌<◌}
use native.Mathlib.Nat.{pow-suc, one-le-pow, pow-le-pow_right}
use native.Mathlib.Omega.{arith}
use borrow.Author.Tests.{lt-ltb, ltb-true, ltb-false}
use lib.Dec.{ltb}
use Rattle.io.specs.Digits.{last_digits, hex_digit_ascii, IsDigitCount}
use Rattle.text.specs.Numbers.{spelled, decimal}

glyph-is : (d : ℕ) → d < 10 → hex_digit_ascii d ≡ 48 + d
glyph-is d l = simp (lt-ltb d 10 l)

spelled_is : (k f n : ℕ) → k ≤ f → IsDigitCount 10 1 n k → last_digits 10 k n ≡ spelled f n
unfolding spelled
spelled_is zero f n l w = absurd (omega (arith, w.0))
spelled_is (suc k) zero n l w = absurd (omega arith)
spelled_is (suc zero) (suc f) n l w =
    let a : n < 10 = (let e = pow-suc 10 0 in omega (arith, w.1)) in
    let r : n % 10 ≡ n = omega arith in
    simp (lt-ltb n 10 a) (ap (λ (d : ℕ). d ∷ []) (glyph-is (n % 10) (omega arith) ∙ ap (λ (d : ℕ). 48 + d) r))
spelled_is (suc (suc k)) (suc f) n l w = go (ltb n 10) refl (λ v. spelled_is (suc k) f (n / 10) (omega arith) v)
  where
    p : 10 ^ suc k ≤ n
    p = let o : suc (suc k) - 1 ≡ suc k = omega arith in rw o at (w.2 (omega arith))

    go : (b : Bool) → ltb n 10 ≡ b → (IsDigitCount 10 1 (n / 10) (suc k) → last_digits 10 (suc k) (n / 10) ≡ spelled f (n / 10))
        → last_digits 10 (suc k) (n / 10) ++ (hex_digit_ascii (n % 10) ∷ []) ≡ cond b ((48 + n) ∷ []) (spelled f (n / 10) ++ ((48 + n % 10) ∷ []))
    go true e tenth = absurd (let q = pow-suc 10 k in let r = one-le-pow k 10 (omega arith) in omega (arith, ltb-true n 10 e, p))
    go false e tenth =
        ap₂ (λ (xs : List ℕ) (d : ℕ). xs ++ (d ∷ []))
        (tenth (omega arith, (let q = pow-suc 10 (suc k) in omega (arith, w.1)), λ m. (let q = pow-suc 10 k in let o : suc k - 1 ≡ k = omega arith in rw o (omega (arith, p)))))
        (glyph-is (n % 10) (omega arith))

-- a number of 64 bits has at most 20 digits
few-digits : (k n : ℕ) → n < 2 ^ 64 → IsDigitCount 10 1 n k → k ≤ 20
few-digits k n l w = go (ltb 20 k) refl
  where
    go : (b : Bool) → ltb 20 k ≡ b → k ≤ 20
    go false e = ltb-false 20 k e
    go true e =
        let m = ltb-true 20 k e in
        let p = w.2 (omega arith) in
        let q = pow-le-pow_right {n = 10} (omega arith) {i = 20} {j = k - 1} (omega arith) in
        absurd (omega (arith, p, q))

pub decimal-is : (k n : ℕ) → n < 2 ^ 64 → IsDigitCount 10 1 n k → last_digits 10 k n ≡ decimal n
unfolding decimal
decimal-is k n l w = spelled_is k 20 n (few-digits k n l w) w
