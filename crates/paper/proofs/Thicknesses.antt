-- A thickness set: its members are 1 to 32, tmin and tmax are its least and greatest, and of 32 bits only 0 has none.
-- The searches for tmin and tmax are followed step by step (`-hit`, `-miss`), which is also how the loops that find them go.
-- Assumes nothing.
use mathlib.Core.Path.{◌≡◌, refl, sym, ap, ◌∙◌}
use mathlib.Core.Bool.{Bool, true, false, cond, ◌&&◌}
use mathlib.Core.Logic.{◌↔◌}
use Prim.Native.Nat.{ℕ, zero, suc, ◌+◌, ◌-◌, ◌*◌, ◌/◌, ◌%◌, ◌^◌, ◌≤◌, ◌<◌}
use native.Mathlib.Nat.{div-one, mul-one, div-eq_of_lt, div-div-eq-div-mul, pow-suc, zero-mul, mul_assoc, mul_comm}
use native.Mathlib.Numerals.{sub-one}
use native.Mathlib.Omega.{arith}
use native.Mathlib.Decide.{ℕ_discrete}
use borrow.Author.Tests.{le-leb, lt-leb, leb-true, eqb-false}
use lib.Dec.{leb, eqb}
use Rattle.paper.specs.Layer.{allowed, least_above, tmin, greatest_to, tmax}

pub and-true : (a b : Bool) → a && b ≡ true → (a ≡ true) × (b ≡ true)
and-true true true p = (refl, refl)
and-true true false p = (refl, p)
and-true false b p = (p, cc)

clash : {b : Bool} → b ≡ true → b ≡ false → ⊥
clash p q = let z : ◌≡◌ {A = ℕ} 0 1 = cc in omega arith

-- ---- members

pub allowed-from : (T t : ℕ) → allowed T t ≡ true → 1 ≤ t
unfolding allowed
allowed-from T t e = leb-true 1 t (and-true (leb 1 t) (leb t 32 && eqb (T / 2 ^ (t - 1) % 2) 1) e).0

pub allowed-to : (T t : ℕ) → allowed T t ≡ true → t ≤ 32
unfolding allowed
allowed-to T t e =
    leb-true t 32
    (and-true (leb t 32) (eqb (T / 2 ^ (t - 1) % 2) 1) (and-true (leb 1 t) (leb t 32 && eqb (T / 2 ^ (t - 1) % 2) 1) e).1).0

-- the three ways out of a test
pub allowed-under : (T t : ℕ) → t < 1 → allowed T t ≡ false
unfolding allowed
allowed-under T t h = simp (lt-leb 1 t h)

pub allowed-bit : (T t : ℕ) → 1 ≤ t → t ≤ 32 → allowed T t ≡ eqb (T / 2 ^ (t - 1) % 2) 1
unfolding allowed
allowed-bit T t h k = simp (le-leb 1 t h, le-leb t 32 k)

-- ---- the greatest

pub greatest-step : (T k : ℕ) → 0 < k → greatest_to T k ≡ cond (allowed T k) k (greatest_to T (k - 1))
unfolding greatest_to
greatest-step T zero p = absurd (omega arith)
greatest-step T (suc k) p = rw sub-one

pub greatest-hit : (T k : ℕ) → 0 < k → allowed T k ≡ true → greatest_to T k ≡ k
greatest-hit T k p e = greatest-step T k p ∙ rw e

pub greatest-miss : (T k : ℕ) → 0 < k → allowed T k ≡ false → greatest_to T k ≡ greatest_to T (k - 1)
greatest-miss T k p e = greatest-step T k p ∙ rw e

pub greatest-le : (T k : ℕ) → greatest_to T k ≤ k
unfolding greatest_to
greatest-le T zero = omega arith
greatest-le T (suc k) = go (allowed T (suc k)) (greatest-le T k)
  where
    go : (b : Bool) → greatest_to T k ≤ k → cond b (suc k) (greatest_to T k) ≤ suc k
    go true ih = omega arith
    go false ih = omega arith

greatest-above : (T t k : ℕ) → t ≤ k → allowed T t ≡ true → t ≤ greatest_to T k
unfolding greatest_to
greatest-above T t zero l q = l
greatest-above T t (suc k) l q = go (allowed T (suc k)) refl (ℕ_discrete t (suc k)) (λ m. greatest-above T t k m q)
  where
    go : (b : Bool) → allowed T (suc k) ≡ b → Dec (t ≡ suc k) → (t ≤ k → t ≤ greatest_to T k) → t ≤ cond b (suc k) (greatest_to T k)
    go true e d ih = l
    go false e (yes s) ih = absurd (clash (ap (allowed T) (sym s) ∙ q) e)
    go false e (no s) ih = ih (omega arith)

greatest-member : (T k : ℕ) → 1 ≤ greatest_to T k → allowed T (greatest_to T k) ≡ true
unfolding greatest_to
greatest-member T zero h = absurd (omega arith)
greatest-member T (suc k) h = go (allowed T (suc k)) refl (greatest-member T k) h
  where
    go : (b : Bool) → allowed T (suc k) ≡ b → (1 ≤ greatest_to T k → allowed T (greatest_to T k) ≡ true)
        → 1 ≤ cond b (suc k) (greatest_to T k) → allowed T (cond b (suc k) (greatest_to T k)) ≡ true
    go true e ih h = e
    go false e ih h = ih h

pub tmax-le : (T : ℕ) → tmax T ≤ 32
unfolding tmax
tmax-le T = greatest-le T 32

pub tmax-member : (T : ℕ) → 1 ≤ tmax T → allowed T (tmax T) ≡ true
unfolding tmax
tmax-member T h = greatest-member T 32 h

pub allowed-tmax : (T t : ℕ) → allowed T t ≡ true → t ≤ tmax T
unfolding tmax
allowed-tmax T t q = greatest-above T t 32 (allowed-to T t q) q

-- ---- the least

pub least-hit : (T k n : ℕ) → 0 < n → allowed T (k + 1) ≡ true → least_above T k n ≡ k + 1
unfolding least_above
least-hit T k zero p e = absurd (omega arith)
least-hit T k (suc n) p e = let s : k + 1 ≡ suc k = omega arith in let a : allowed T (suc k) ≡ true = rw s at e in rw a (sym s)

pub least-miss : (T k n : ℕ) → 0 < n → allowed T (k + 1) ≡ false → least_above T k n ≡ least_above T (k + 1) (n - 1)
unfolding least_above
least-miss T k zero p e = absurd (omega arith)
least-miss T k (suc n) p e = let s : k + 1 ≡ suc k = omega arith in let a : allowed T (suc k) ≡ false = rw s at e in rw (a, sub-one, s)

least-from : (T k n t : ℕ) → allowed T t ≡ true → k < t → t ≤ k + n → (k < least_above T k n) × (least_above T k n ≤ t)
unfolding least_above
least-from T k zero t a l u = absurd (omega arith)
least-from T k (suc n) t a l u =
    go (allowed T (suc k)) refl (ℕ_discrete t (suc k)) (λ d. least-from T (suc k) n t a (omega arith) (omega arith))
  where
    go : (b : Bool) → allowed T (suc k) ≡ b → Dec (t ≡ suc k) → ((t ≡ suc k → ⊥) → (suc k < least_above T (suc k) n) × (least_above T (suc k) n ≤ t))
        → (k < cond b (suc k) (least_above T (suc k) n)) × (cond b (suc k) (least_above T (suc k) n) ≤ t)
    go true e d ih = (omega arith, omega arith)
    go false e (yes d) ih = absurd (clash (ap (allowed T) (sym d) ∙ a) e)
    go false e (no d) ih = let i = ih d in (omega (arith, i.0), i.1)

pub tmin-least : (T t : ℕ) → allowed T t ≡ true → (1 ≤ tmin T) × (tmin T ≤ t)
unfolding tmin
tmin-least T t a = let f = allowed-from T t a in let g = allowed-to T t a in least-from T 0 32 t a (omega arith) (omega arith)

least-member : (T k n : ℕ) → 1 ≤ least_above T k n → allowed T (least_above T k n) ≡ true
unfolding least_above
least-member T k zero h = absurd (omega arith)
least-member T k (suc n) h = go (allowed T (suc k)) refl (least-member T (suc k) n) h
  where
    go : (b : Bool) → allowed T (suc k) ≡ b → (1 ≤ least_above T (suc k) n → allowed T (least_above T (suc k) n) ≡ true)
        → 1 ≤ cond b (suc k) (least_above T (suc k) n) → allowed T (cond b (suc k) (least_above T (suc k) n)) ≡ true
    go true e ih h = e
    go false e ih h = ih h

pub tmin-member : (T : ℕ) → 1 ≤ tmax T → allowed T (tmin T) ≡ true
unfolding tmin
tmin-member T h = least-member T 0 32 (tmin-least T (tmax T) (tmax-member T h)).0

-- ---- the empty set

-- a number none of whose k lowest bits is set is a multiple of 2 ^ k
multiple : (T k : ℕ) → ((j : ℕ) → j < k → T / 2 ^ j % 2 ≡ 0) → T ≡ T / 2 ^ k * 2 ^ k
multiple T zero b = sym (ap (λ (x : ℕ). x * 1) (div-one T) ∙ mul-one T)
multiple T (suc k) b =
    let q : T / 2 ^ k ≡ T / 2 ^ k / 2 * 2 = omega (arith, b k (omega arith)) in
    let e : T / 2 ^ suc k ≡ T / 2 ^ k / 2 = ap (λ (x : ℕ). T / x) (pow-suc 2 k) ∙ sym (div-div-eq-div-mul T (2 ^ k) 2) in
    multiple T k (λ j h. b j (omega arith))
    ∙ ap (λ (x : ℕ). x * 2 ^ k) q
    ∙ mul_assoc (T / 2 ^ k / 2) 2 (2 ^ k)
    ∙ ap (λ (x : ℕ). T / 2 ^ k / 2 * x) (mul_comm 2 (2 ^ k) ∙ sym (pow-suc 2 k))
    ∙ ap (λ (x : ℕ). x * 2 ^ suc k) (sym e)

not-member : (T t : ℕ) → tmax T < t → allowed T t ≡ false
not-member T t h = go (allowed T t) refl
  where
    go : (b : Bool) → allowed T t ≡ b → allowed T t ≡ false
    go true e = absurd (let u = allowed-tmax T t e in omega arith)
    go false e = e

empty-zero : (T : ℕ) → T < 2 ^ 32 → tmax T ≡ 0 → T ≡ 0
empty-zero T h e = multiple T 32 bits ∙ ap (λ (x : ℕ). x * 2 ^ 32) (div-eq_of_lt h) ∙ zero-mul (2 ^ 32)
  where
    bits : (j : ℕ) → j < 32 → T / 2 ^ j % 2 ≡ 0
    bits j l =
        let s : suc j - 1 ≡ j = omega arith in
        let n : (T / 2 ^ (suc j - 1) % 2 ≡ 1) → ⊥ =
        eqb-false _ _ (sym (allowed-bit T (suc j) (omega arith) (omega arith)) ∙ not-member T (suc j) (omega arith)) in
        let n' : (T / 2 ^ j % 2 ≡ 1) → ⊥ = rw s at n in
        omega arith

zero-empty : tmax 0 ≡ 0
unfolding tmax greatest_to allowed
zero-empty = refl

-- T empty is T = 0
pub empty-is-zero : (T : ℕ) → T < 2 ^ 32 → (tmax T ≡ 0) ↔ (T ≡ 0)
empty-is-zero T h = (empty-zero T h, λ e. ap tmax e ∙ zero-empty)
