-- What a column adds to the cells of a row, and the test of a row's loop. A row's cell has the row's start and the thickness of its place, so
-- that its addend is the share in that layer. Assumes nothing.
use mathlib.Core.Path.{◌≡◌, refl, ap}
use mathlib.Core.Bool.{Bool, true, false, cond, ◌&&◌}
use mathlib.Core.List.{List}
use Prim.Native.Nat.{ℕ, ◌+◌, ◌*◌, ◌/◌, ◌≤◌, ◌<◌}
use native.Mathlib.Omega.{arith}
use borrow.Author.Tests.{lt-ltb, le-ltb}
use lib.Dec.{ltb}
use Rattle.paper.specs.Limits.{most_thickness}
use Rattle.paper.specs.Layer.{Column, allowed, tmax, share}
use Rattle.paper.specs.Table.{start_at, thickness_at, cell_of}
use Rattle.paper.proofs.Shares.{share-le}
use Rattle.plate.specs.Datum.{height_of, at_row}
use Rattle.table.specs.Limits.{above}
use Rattle.table.proofs.Cells.{thickness-row, start-row, above-row}
use Rattle.adding.specs.Adding.{addend}
use Rattle.adding.specs.Heaped.{heaped, heaped_at}

module _ (T m r j : ℕ) (e : m ≡ tmax T) (l : j < m) (column : Column) where
  pub addend-allowed : m ≤ most_thickness → allowed T (j + 1) ≡ true → addend T column (r * m + j) ≡ share column.boundaries (height_of (at_row m r)) (j + 1)
  unfolding addend cell_of
  addend-allowed u a = rw (thickness-row T m r j e l, start-row T m r j e l u, a)

  pub addend-barred : allowed T (j + 1) ≡ false → addend T column (r * m + j) ≡ 0
  unfolding addend cell_of
  addend-barred a = rw (thickness-row T m r j e l, a)

-- it is at most half of the layer
pub addend-le : (T i : ℕ) (column : Column) → addend T column i ≤ thickness_at T i / 2
unfolding addend cell_of
addend-le T i column = go (allowed T (thickness_at T i))
  where
    go : (b : Bool) → cond b (share column.boundaries (start_at T i) (thickness_at T i)) 0 ≤ thickness_at T i / 2
    go true = share-le column.boundaries (start_at T i) (thickness_at T i)
    go false = omega arith

-- and above 0 only where the thickness is allowed
pub addend-touched : (T i : ℕ) (column : Column) → 0 < addend T column i → allowed T (thickness_at T i) ≡ true
unfolding addend cell_of
addend-touched T i column l = go (allowed T (thickness_at T i)) l
  where
    go : (b : Bool) → 0 < cond b (share column.boundaries (start_at T i) (thickness_at T i)) 0 → b ≡ true
    go true u = refl
    go false u = absurd (omega arith)

-- a test that is asked besides
pub and-false : (a b : Bool) → b ≡ false → a && b ≡ false
and-false true b e = e
and-false false b e = refl

module _ (T : ℕ) (limits table : List ℕ) (column : Column) where
  -- the cell at a place of a row
  pub heaped-row : (w r j : ℕ) → j < w → heaped_at T limits table column w (r * w + j) ≡ heaped T limits table column (r * w) j
  unfolding heaped_at heaped
  heaped-row w r j l = ap (λ (b : Bool). ltb 0 (addend T column (r * w + j)) && b) (above-row limits table w r j l)

  module _ (base j : ℕ) where
    pub heaped-touched : 0 < addend T column (base + j) → above limits table base j ≡ heaped T limits table column base j
    unfolding heaped
    heaped-touched l = simp (lt-ltb 0 (addend T column (base + j)) l)

    pub heaped-untouched : addend T column (base + j) ≤ 0 → false ≡ heaped T limits table column base j
    unfolding heaped
    heaped-untouched l = simp (le-ltb 0 (addend T column (base + j)) l)
