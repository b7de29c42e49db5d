-- The layers of a sequence to be ordered as they are printed. Its boundaries rise from above -tmax to below N + tmax, so that none is higher above the
-- first than N + 2·tmax - 2, and no layer is thicker: each of the three floats is exact. Assumes nothing.
use mathlib.Core.Path.{◌≡◌, ap₂, subst, ◌∙◌}
use mathlib.Core.List.{List, []}
use Prim.Native.Nat.{ℕ, zero, suc, ◌+◌, ◌-◌, ◌*◌, ◌≤◌, ◌<◌}
use native.Mathlib.Omega.{arith}
use borrow.Author.Tests.{ltb-true}
use lib.Dec.{ltb, leb}
use lib.IntN.{ℤ, pos, nat_abs, ◌-ℤ◌}
use lib.Signed.{◌<ℤ◌}
use Rattle.paper.specs.Limits.{largest_bound}
use Rattle.paper.specs.Layer.{Plate, tmax, of_columns}
use Rattle.paper.specs.Sequence.{◌!◌, count, thickness}
use Rattle.paper.proofs.Thicknesses.{and-true}
use Rattle.plate.specs.Datum.{datum, height_of}
use Rattle.plate.proofs.Datum.{pos-height, lt-down, difference-height}
use Rattle.printed.specs.Paper.{Orderable}
use Rattle.sequence.specs.Sequence.{starts}
use Rattle.meaning.proofs.Stacks.{at-datum, start-at, rising-datum, thickness-datum}
use Rattle.promises.specs.Printing.{Lent, PrintsExactly}
use Rattle.promises.proofs.PrintedFloats.{floats-exactly}

module _ {N T step : ℕ} {cures : List ℕ} (l : Lent N T step cures) {zs : List ℤ} (o : Orderable N T cures zs) where
  abbrev p : Plate
  p = of_columns N T []

  at : (k : ℕ) → k ≤ count zs → zs ! k ≡ height_of (datum (zs ! k))
  at = at-datum p largest_bound zs (count zs) o.admissible.stack

  start : 32 < datum (zs ! 0) + tmax T
  unfolding starts
  start = ltb-true 32 (datum (zs ! 0) + tmax T) (and-true (ltb 32 (datum (zs ! 0) + tmax T)) (leb (datum (zs ! 0)) 32) (start-at p largest_bound zs (count zs) o.admissible.stack)).0

  rises : (k : ℕ) → k < count zs → datum (zs ! k) < datum (zs ! suc k)
  rises = rising-datum p largest_bound zs (count zs) o.admissible.stack

  end : datum (zs ! count zs) < N + tmax T + 32
  end =
      lt-down (datum (zs ! count zs)) (N + tmax T + 32)
      (rw (← pos-height (N + tmax T)) (subst (λ (z : ℤ). z <ℤ pos (N + tmax T)) (at (count zs) (omega arith)) o.admissible.ends-below))

  -- from any boundary up to one above it
  climb : (j k : ℕ) → k + j ≤ count zs → datum (zs ! k) ≤ datum (zs ! (k + j))
  climb zero k u = let e : k + 0 ≡ k = omega arith in rw e (omega arith)
  climb (suc j) k u = let e : k + suc j ≡ suc (k + j) = omega arith in rw e (omega (arith, climb j k (omega arith), rises (k + j) (omega arith)))

  between : (j k : ℕ) → j ≤ k → k ≤ count zs → datum (zs ! j) ≤ datum (zs ! k)
  between j k u v = let e : j + (k - j) ≡ k = omega arith in rw e at (climb (k - j) j (omega arith))

  height-is : (k : ℕ) → k < count zs → nat_abs (zs ! suc k -ℤ zs ! 0) ≡ datum (zs ! suc k) - datum (zs ! 0)
  height-is k u =
      ap₂ (λ x y. nat_abs (x -ℤ y)) (at (suc k) u) (at 0 (omega arith)) ∙ difference-height (datum (zs ! 0)) (datum (zs ! suc k)) (between 0 (suc k) (omega arith) u)

  height-low : (k : ℕ) → k < count zs → nat_abs (zs ! suc k -ℤ zs ! 0) ≤ N + 2 * tmax T - 2
  height-low k u = omega (arith, height-is k u, between (suc k) (count zs) u (omega arith), start, end)

  thickness-low : (k : ℕ) → k < count zs → thickness zs k ≤ N + 2 * tmax T - 2
  thickness-low k u =
      omega
      (arith, thickness-datum p largest_bound zs (count zs) o.admissible.stack k u, between (suc k) (count zs) u (omega arith), between 0 k (omega arith) (omega arith), start, end)

  pub prints-exactly : PrintsExactly N T step cures zs
  prints-exactly k u small =
      let f = floats-exactly l in
      record { to-height = f.height _ (height-low k u); as-thick = f.height _ (thickness-low k u); for-time = f.time _ small }
