-- Shares: one is at most half of its layer, so those of several columns are at most half of it for each; one column more adds its own.
-- Assumes nothing.
use Prim.Native.Nat.{ℕ, ◌+◌, ◌*◌, ◌/◌, ◌≤◌}
use mathlib.Core.Path.{◌≡◌}
use mathlib.Core.List.{List, [], ◌∷◌, ◌++◌}
use native.Mathlib.Omega.{arith}
use lib.IntN.{ℤ}
use lib.ListN.{length}
use Rattle.paper.specs.Layer.{Column, share, shares}

pub share-le : (bs : List ℕ) (z : ℤ) (t : ℕ) → share bs z t ≤ t / 2
share-le bs z t = omega arith

pub shares-le : (columns : List Column) (z : ℤ) (t : ℕ) → shares columns z t ≤ length columns * (t / 2)
shares-le [] z t = omega arith
shares-le (column ∷ columns) z t = let x = shares-le columns z t in let y = share-le column.boundaries z t in omega arith

pub shares-last : (columns : List Column) (column : Column) (z : ℤ) (t : ℕ)
    → shares (columns ++ (column ∷ [])) z t ≡ shares columns z t + share column.boundaries z t
shares-last [] column z t = omega arith
shares-last (c ∷ columns) column z t = let e = shares-last columns column z t in omega arith
