-- The starts of a table, counted from the datum: what each test of the code says of `start_outside`. Assumes nothing.
use mathlib.Core.Path.{◌≡◌, ap, ap₂, ◌∙◌}
use mathlib.Core.Bool.{true, false, ◌||◌}
use Prim.Native.Nat.{ℕ, ◌+◌, ◌-◌, ◌≤◌, ◌<◌}
use native.Mathlib.Omega.{arith}
use borrow.Author.Tests.{lt-ltb, le-ltb}
use lib.Dec.{ltb}
use lib.IntN.{ℤ}
use lib.Signed.{lt_z}
use Rattle.paper.specs.Layer.{tmax}
use Rattle.plate.specs.Datum.{datum, height_of}
use Rattle.plate.proofs.Datum.{below-height, above-height, pos-height, neg-height}
use Rattle.column.specs.Picture.{start_outside}

module _ (N T : ℕ) (z : ℤ) (high : 1 ≤ N) (some : 1 ≤ tmax T) (few : tmax T ≤ 32) where
  outside-is : start_outside N T z ≡ (ltb (datum z) (33 - tmax T) || ltb (N + tmax T + 30) (datum z))
  unfolding start_outside
  outside-is =
      let a : 32 - (tmax T - 1) ≡ 33 - tmax T = omega arith in
      let b : N + tmax T - 2 + 32 ≡ N + tmax T + 30 = omega arith in
      ap₂ ◌||◌
      (ap (lt_z z) (neg-height (tmax T - 1) (omega arith) ∙ ap height_of a) ∙ below-height z (33 - tmax T) (omega arith))
      (ap (λ (x : ℤ). lt_z x z) (pos-height (N + tmax T - 2) ∙ ap height_of b) ∙ above-height z (N + tmax T + 30))

  pub start-low : datum z + tmax T < 33 → start_outside N T z ≡ true
  start-low l = outside-is ∙ simp (lt-ltb (datum z) (33 - tmax T) (omega arith))

  pub start-high : 33 ≤ datum z + tmax T → N + tmax T + 30 < datum z → start_outside N T z ≡ true
  start-high l h = outside-is ∙ simp (le-ltb (datum z) (33 - tmax T) (omega arith), lt-ltb (N + tmax T + 30) (datum z) h)

  pub start-in : 33 ≤ datum z + tmax T → datum z ≤ N + tmax T + 30 → start_outside N T z ≡ false
  start-in l h = outside-is ∙ simp (le-ltb (datum z) (33 - tmax T) (omega arith), le-ltb (N + tmax T + 30) (datum z) h)
