-- The greatest count M, by what is used of it: it is at most the height and a table's starts, so it is small, and at most what it was before
-- document 02 b); it is not less than a number of layers whose inner boundaries, from 1 to N - 1, are tmin apart, nor than one of layers of
-- tmax that reach a last layer's start. Who plans, reads back or lends a sheet knows M by these laws alone, and not by its formula. A quotient is
-- at most its dividend, and at least what times the divisor is at most the dividend. Assumes nothing.
use Prim.Native.Nat.{ℕ, ◌+◌, ◌-◌, ◌*◌, ◌/◌, ◌≤◌}
use mathlib.Core.Path.{◌≡◌, ap}
use native.Mathlib.Decide.{dec_le, ℕ_discrete}
use native.Mathlib.Nat.{add-mul, div-le_self, div-mul-le_self, le-div_iff_mul-le, mul-le-mul_left}
use native.Mathlib.Omega.{arith}
use borrow.Author.Tests.{eq-eqb, ne_eqb}
use Rattle.paper.specs.Limits.{least_height, greatest_height}
use Rattle.paper.specs.Layer.{tmin, tmax}
use Rattle.paper.specs.Table.{rows}
use Rattle.paper.specs.Sequence.{M}
use Rattle.paper.proofs.Thicknesses.{tmax-member, tmin-least}

-- the two cases of the formula
pub counts-one : (N T : ℕ) → N ≡ 1 → M N T ≡ 1
unfolding M
counts-one N T e = simp (eq-eqb N 1 e)

pub counts-more : (N T : ℕ) → (N ≡ 1 → ⊥) → M N T ≡ (N - 2) / tmin T + 2
unfolding M
counts-more N T n = simp (ne_eqb N 1 n)

pub counts-few : (N T : ℕ) → N ≤ greatest_height → M N T ≤ 512
counts-few N T l = go (ℕ_discrete N 1)
  where
    go : Dec (N ≡ 1) → M N T ≤ 512
    go (yes e) = omega (arith, counts-one N T e)
    go (no n) = omega (arith, counts-more N T n, div-le_self (N - 2) (tmin T))

-- layers of at least tmin: the n - 1 inner boundaries lie from 1 to N - 1
pub counts-most : (N T n : ℕ) → 1 ≤ tmin T → (2 ≤ n → (n - 2) * tmin T + 2 ≤ N) → n ≤ M N T
counts-most N T n l u = go (dec_le 2 n) (ℕ_discrete N 1)
  where
    go : Dec (2 ≤ n) → Dec (N ≡ 1) → n ≤ M N T
    go (no few) (yes e) = omega (arith, counts-one N T e)
    go (no few) (no m) = omega (arith, counts-more N T m)
    go (yes many) (yes e) = absurd (omega (arith, u many))
    go (yes many) (no m) =
        let d : n - 2 ≤ (N - 2) / tmin T = (le-div_iff_mul-le {k = tmin T} l).1 (omega (arith, u many)) in
        omega (arith, counts-more N T m)

-- one layer is a count
pub counts_some : (N T : ℕ) → 1 ≤ tmin T → 1 ≤ M N T
counts_some N T l = counts-most N T 1 l (λ m. absurd (omega arith))

module _ (N T : ℕ) (low : least_height ≤ N) (some : 1 ≤ tmax T) where
  abbrev thin : (1 ≤ tmin T) × (tmin T ≤ tmax T)
  thin = tmin-least T (tmax T) (tmax-member T some)

  pub counts-rows : M N T ≤ rows N T
  unfolding rows
  counts-rows = go (ℕ_discrete N 1)
    where
      go : Dec (N ≡ 1) → M N T ≤ N + 2 * tmax T - 2
      go (yes e) = omega (arith, counts-one N T e)
      go (no m) = omega (arith, counts-more N T m, div-le_self (N - 2) (tmin T))

  -- layers of tmax from the lowest start to that of a last layer of tmax
  pub counts-reach : (n : ℕ) → n * tmax T ≤ N + tmax T - 2 → n ≤ M N T
  counts-reach n l =
      counts-most N T n thin.0
      (λ m. let e : n ≡ n - 2 + 2 = omega arith in let d : n * tmax T ≡ (n - 2 + 2) * tmax T = ap (λ (k : ℕ). k * tmax T) e in
      omega (arith, add-mul (n - 2) 2 (tmax T), mul-le-mul_left (n - 2) thin.1, l))

  -- M is no greater than document 01's, (N + 2·tmax - 2)/tmin rounded down
  pub counts-before : M N T ≤ (N + 2 * tmax T - 2) / tmin T
  counts-before = (le-div_iff_mul-le {k = tmin T} thin.0).1 (go (ℕ_discrete N 1))
    where
      go : Dec (N ≡ 1) → M N T * tmin T ≤ N + 2 * tmax T - 2
      go (yes e) = rw (counts-one N T e) (omega (arith, thin.1))
      go (no m) = rw (counts-more N T m) (omega (arith, thin.1, add-mul ((N - 2) / tmin T) 2 (tmin T), div-mul-le_self (N - 2) (tmin T)))
