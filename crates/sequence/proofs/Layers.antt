-- The start heights and the shape of a layer, by what is used of them. Each is a row of tests, so it holds exactly where they all do.
-- Assumes nothing.
use Prim.Native.Nat.{ℕ, ◌+◌, ◌≤◌, ◌<◌}
use mathlib.Core.Path.{◌≡◌, refl}
use mathlib.Core.Bool.{Bool, true, false, ◌&&◌, ◌||◌}
use native.Mathlib.Omega.{arith}
use borrow.Author.Tests.{ltb-true, leb-true, lt-ltb, le-ltb, le-leb, lt-leb}
use lib.Dec.{leb, ltb}
use Rattle.paper.specs.Layer.{allowed, tmax}
use Rattle.paper.proofs.Thicknesses.{and-true, allowed-tmax}
use Rattle.sequence.specs.Sequence.{starts, lowest_end}
use Rattle.sequence.specs.Rules.{shape}

pub and-false : (a b : Bool) → b ≡ false → a && b ≡ false
and-false true b e = e
and-false false b e = refl

pub or_right : (a b : Bool) → b ≡ true → a || b ≡ true
or_right true b e = refl
or_right false b e = e

module _ (tmax h : ℕ) where
  pub start-in : 32 < h + tmax → h ≤ 32 → starts tmax h ≡ true
  unfolding starts
  start-in l u = simp (lt-ltb 32 (h + tmax) l, le-leb h 32 u)

  pub start-low : h + tmax ≤ 32 → starts tmax h ≡ false
  unfolding starts
  start-low l = simp (le-ltb 32 (h + tmax) l)

  pub start-high : 32 < h → starts tmax h ≡ false
  unfolding starts
  start-high l = and-false (ltb 32 (h + tmax)) (leb h 32) (lt-leb h 32 l)

  module _ (e : starts tmax h ≡ true) where
    pub start-from : 32 < h + tmax
    unfolding starts
    start-from = ltb-true _ _ (and-true (ltb 32 (h + tmax)) (leb h 32) e).0

    pub start-to : h ≤ 32
    unfolding starts
    start-to = leb-true _ _ (and-true (ltb 32 (h + tmax)) (leb h 32) e).1

module _ (N T h t : ℕ) where
  pub shape-in : allowed T t ≡ true → 32 < h + t → h < lowest_end N → shape N T h t ≡ true
  unfolding shape
  shape-in a l u = simp (a, lt-ltb 32 (h + t) l, lt-ltb h (lowest_end N) u)

  pub shape-barred : allowed T t ≡ false → shape N T h t ≡ false
  unfolding shape
  shape-barred a = simp a

  -- a layer wholly under the plate, and one wholly over it
  pub shape-low : h + t ≤ 32 → shape N T h t ≡ false
  unfolding shape
  shape-low l = and-false (allowed T t) (ltb 32 (h + t) && ltb h (lowest_end N)) (simp (le-ltb 32 (h + t) l))

  pub shape-high : lowest_end N ≤ h → shape N T h t ≡ false
  unfolding shape
  shape-high l =
      and-false (allowed T t) (ltb 32 (h + t) && ltb h (lowest_end N)) (and-false (ltb 32 (h + t)) (ltb h (lowest_end N)) (le-ltb h (lowest_end N) l))

  module _ (e : shape N T h t ≡ true) where
    tests : (allowed T t ≡ true) × (ltb 32 (h + t) ≡ true) × (ltb h (lowest_end N) ≡ true)
    unfolding shape
    tests =
        let a = and-true (allowed T t) (ltb 32 (h + t) && ltb h (lowest_end N)) e in
        let b = and-true (ltb 32 (h + t)) (ltb h (lowest_end N)) a.1 in
        (a.0, b.0, b.1)

    pub shape-allowed : allowed T t ≡ true
    shape-allowed = tests.0

    pub shape-above : 32 < h + t
    shape-above = ltb-true _ _ tests.1

    pub shape-below : h < lowest_end N
    shape-below = ltb-true _ _ tests.2

    -- so it lies where a table has cells
    pub shape-from : 32 < h + tmax T
    shape-from = omega (arith, shape-above, allowed-tmax T t shape-allowed)

    pub shape-to : h + t < lowest_end N + tmax T
    shape-to = omega (arith, shape-below, allowed-tmax T t shape-allowed)
