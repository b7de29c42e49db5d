-- Layers over one another, as the documents have them and over heights counted from the datum: put together from these, and taken apart into them.
-- Boundaries rise, so each lies over the datum, and the rules on z1 and on the last boundary but one are rules on every layer; so each layer is one
-- that a sequence can have, and it is permitted. Assumes nothing.
use Prim.Native.Nat.{ℕ, zero, suc, ◌+◌, ◌-◌, ◌≤◌, ◌<◌}
use mathlib.Core.Path.{◌≡◌, sym, ap, ap₂, ◌∙◌, subst}
use mathlib.Core.Bool.{true}
use mathlib.Core.List.{List}
use native.Mathlib.Omega.{arith}
use lib.IntN.{ℤ, pos, nat_abs, ◌+ℤ◌, ◌-ℤ◌}
use lib.Signed.{◌<ℤ◌}
use Rattle.paper.specs.Layer.{Plate, tmax}
use Rattle.paper.specs.Sequence.{◌!◌, thickness, IsLayer, Stack}
use Rattle.paper.specs.Groups.{Usable}
use Rattle.paper.proofs.Stacks.{something-on-each}
use Rattle.plate.specs.Datum.{datum, height_of}
use Rattle.plate.proofs.Datum.{height-datum, datum-above, lt-down, sum-height, difference-height}
use Rattle.sequence.specs.Sequence.{starts}
use Rattle.meaning.proofs.Sequence.{start-datum, PermittedBetween, step-up, between-up, step_down, starts-up, starts-down}

-- from the heights of its boundaries
module _ (p : Plate) (bound : ℕ) (zs : List ℤ) (m : ℕ) (h : ℕ → ℕ) (is : (k : ℕ) → k ≤ m → zs ! k ≡ height_of (h k))
    (permitted : (k : ℕ) → k < m → PermittedBetween p bound (h k) (h (suc k))) where
  layer-up : (k : ℕ) → k < m → IsLayer p bound (zs ! k) (zs ! suc k)
  layer-up k l = rw (is k (omega arith), is (suc k) l) (step-up p bound (h k) (h (suc k)) (permitted k l))

  -- each has something on it
  something-up : (k : ℕ) → k < m → (pos 0 <ℤ zs ! suc k) × (zs ! k <ℤ pos p.N)
  something-up k l =
      let u = between-up p bound (h k) (h (suc k)) (permitted k l) in
      (rw (is (suc k) l) u.0, rw (is k (omega arith)) u.1)

  pub stack-up : starts (tmax p.T) (h 0) ≡ true → Stack p bound zs m
  stack-up s =
      let some = (something-on-each zs m (λ k l. (layer-up k l).rises) p.N).1 something-up in
      record {
        starts-above = rw (is 0 (omega arith)) (starts-up p bound (h 0) s).0;
        starts_by = rw (is 0 (omega arith)) (starts-up p bound (h 0) s).1;
        layers = layer-up;
        z1-above = some.0;
        before-last-below = some.1;
      }

module _ (p : Plate) (bound : ℕ) (zs : List ℤ) (m : ℕ) (a : Stack p bound zs m) where
  pub over-start : (k : ℕ) → k ≤ m → 32 - tmax p.T < datum (zs ! k)
  over-start zero l = start-datum p.T (zs ! 0) a.starts-above
  over-start (suc k) l =
      let o = over-start k (omega arith) in
      let e = height-datum (zs ! k) (omega arith) in
      omega (arith, datum-above (datum (zs ! k)) (zs ! suc k) (rw e (a.layers k (omega arith)).rises))

  pub at-datum : (k : ℕ) → k ≤ m → zs ! k ≡ height_of (datum (zs ! k))
  at-datum k l = sym (height-datum (zs ! k) (omega (arith, over-start k l)))

  pub start-at : starts (tmax p.T) (datum (zs ! 0)) ≡ true
  start-at = starts-down p bound (datum (zs ! 0)) (rw (← at-datum 0 (omega arith)) a.starts-above) (rw (← at-datum 0 (omega arith)) a.starts_by)

  pub rising-datum : (k : ℕ) → k < m → datum (zs ! k) < datum (zs ! suc k)
  rising-datum k l = lt-down (datum (zs ! k)) (datum (zs ! suc k)) (rw (at-datum k (omega arith), at-datum (suc k) l) at (a.layers k l).rises)

  -- the thickness of a layer
  pub thickness-datum : (k : ℕ) → k < m → thickness zs k ≡ datum (zs ! suc k) - datum (zs ! k)
  thickness-datum k l =
      ap₂ (λ x y. nat_abs (x -ℤ y)) (at-datum (suc k) l) (at-datum k (omega arith))
      ∙ difference-height (datum (zs ! k)) (datum (zs ! suc k)) (omega (arith, rising-datum k l))

  -- a layer ends where the next begins
  layer-end : (k : ℕ) → k < m → zs ! k +ℤ pos (thickness zs k) ≡ height_of (datum (zs ! suc k))
  layer-end k l =
      let r = rising-datum k l in
      let s : datum (zs ! k) + (datum (zs ! suc k) - datum (zs ! k)) ≡ datum (zs ! suc k) = omega arith in
      ap₂ (λ x y. x +ℤ pos y) (at-datum k (omega arith)) (thickness-datum k l)
      ∙ sum-height (datum (zs ! k)) (datum (zs ! suc k) - datum (zs ! k))
      ∙ ap height_of s

  -- every layer ends above 0 and starts below N
  something : (k : ℕ) → k < m → (pos 0 <ℤ zs ! suc k) × (zs ! k <ℤ pos p.N)
  something = (something-on-each zs m (λ k l. (a.layers k l).rises) p.N).0 (a.z1-above, a.before-last-below)

  pub layers-usable : (k : ℕ) → k < m → Usable p.N p.T (zs ! k) (thickness zs k)
  layers-usable k l = record {
    member = (a.layers k l).member;
    ends_above = rw (layer-end k l, ← at-datum (suc k) l) (something k l).0;
    starts-below = (something k l).1;
  }

  pub permitted-at : (k : ℕ) → k < m → PermittedBetween p bound (datum (zs ! k)) (datum (zs ! suc k))
  permitted-at k l =
      let f = at-datum k (omega arith) in
      let u = rw (thickness-datum k l) at (layers-usable k l) in
      step_down p bound (datum (zs ! k)) (datum (zs ! suc k)) (subst (λ (z : ℤ). Usable p.N p.T z (datum (zs ! suc k) - datum (zs ! k))) f u)
      (rw (f, at-datum (suc k) l) at (a.layers k l))
