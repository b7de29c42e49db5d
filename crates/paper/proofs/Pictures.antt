-- Voxels wrongly filled or left out under a picture. Where a column is left out its inside voxels are wrong, and where it is filled the others,
-- so that the smaller of the two counts, its share, is the fewest, and the picture that fills where inside exceeds outside has just that many.
-- A layer's columns are filled or left out one by one, so the same holds of the sums. Assumes nothing.
use Prim.Native.Nat.{ℕ, zero, suc, ◌+◌, ◌≤◌}
use mathlib.Core.Path.{◌≡◌, refl, ap, ap₂}
use mathlib.Core.Bool.{Bool, true, false, not, cond}
use mathlib.Core.List.{List, [], ◌∷◌}
use native.Mathlib.Omega.{arith}
use borrow.Author.Tests.{ltb-true, ltb-false}
use lib.IntN.{ℤ, pos, ◌+ℤ◌}
use Rattle.paper.specs.Layer.{Column, inside, inside_count, outside_count, share, filled, wrong, shares, wrongs, pictures}

-- ---- one column

left_out : (bs : List ℕ) (z : ℤ) (t : ℕ) → wrong false bs z t ≡ inside_count bs z t
left_out bs z zero = refl
left_out bs z (suc t) = ap (λ n. n + cond (inside bs (z +ℤ pos t)) 1 0) (left_out bs z t)

either : (b : Bool) → cond (not b) 1 0 + cond b 1 0 ≡ 1
either true = refl
either false = refl

all-filled : (bs : List ℕ) (z : ℤ) (t : ℕ) → wrong true bs z t + inside_count bs z t ≡ t
all-filled bs z zero = refl
all-filled bs z (suc t) = omega (arith, all-filled bs z t, either (inside bs (z +ℤ pos t)))

-- of a layer's voxels no more are inside than there are
pub inside-most : (bs : List ℕ) (z : ℤ) (t : ℕ) → inside_count bs z t ≤ t
inside-most bs z t = let a = all-filled bs z t in omega arith

-- no picture has fewer than the share
pub share-fewest : (fills : Bool) (bs : List ℕ) (z : ℤ) (t : ℕ) → share bs z t ≤ wrong fills bs z t
share-fewest true bs z t = let a = all-filled bs z t in omega arith
share-fewest false bs z t = let a = left_out bs z t in omega arith

-- and document 01's has just that
pub filled-fewest : (bs : List ℕ) (z : ℤ) (t : ℕ) → wrong (filled bs z t) bs z t ≡ share bs z t
filled-fewest bs z t = go (filled bs z t) refl
  where
    go : (fills : Bool) → filled bs z t ≡ fills → wrong fills bs z t ≡ share bs z t
    go true e = let l = ltb-true (outside_count bs z t) (inside_count bs z t) e in let a = all-filled bs z t in omega arith
    go false e = let l = ltb-false (outside_count bs z t) (inside_count bs z t) e in let a = left_out bs z t in omega arith

-- where both pictures have as many, document 01's leaves the column out
pub tie-unfilled : (bs : List ℕ) (z : ℤ) (t : ℕ) → wrong true bs z t ≡ wrong false bs z t → filled bs z t ≡ false
tie-unfilled bs z t e = go (filled bs z t) refl
  where
    go : (fills : Bool) → filled bs z t ≡ fills → fills ≡ false
    go true f =
        absurd
        (let l = ltb-true (outside_count bs z t) (inside_count bs z t) f in let a = all-filled bs z t in let b = left_out bs z t in omega arith)
    go false f = refl

-- ---- a layer

pub shares-fewest : (fills : List Bool) (columns : List Column) (z : ℤ) (t : ℕ) → shares columns z t ≤ wrongs fills columns z t
shares-fewest fills [] z t = omega arith
shares-fewest [] (column ∷ columns) z t =
    let a = share-fewest false column.boundaries z t in let b = shares-fewest [] columns z t in omega arith
shares-fewest (f ∷ fills) (column ∷ columns) z t =
    let a = share-fewest f column.boundaries z t in let b = shares-fewest fills columns z t in omega arith

pub pictures-fewest : (columns : List Column) (z : ℤ) (t : ℕ) → wrongs (pictures columns z t) columns z t ≡ shares columns z t
pictures-fewest [] z t = refl
pictures-fewest (column ∷ columns) z t = ap₂ ◌+◌ (filled-fewest column.boundaries z t) (pictures-fewest columns z t)
