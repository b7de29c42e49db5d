-- Columns dealt into groups divide the plate: a layer's error is a sum over its columns, which does not depend on their order, and the
-- sum over the groups' columns one after the other is the sum of the groups' sums. Assumes nothing.
use Prim.Native.Nat.{ℕ, ◌+◌}
use mathlib.Core.Path.{◌≡◌, refl, sym, ap, ap₂, ◌∙◌}
use mathlib.Core.Logic.{∥∥₁_elim}
use mathlib.Core.List.{List, [], ◌∷◌, ◌++◌, map, flatten, Perm, Permᴰ}
use native.Mathlib.Omega.{arith}
use native.Mathlib.Nat.{ℕ_set}
use lib.IntN.{ℤ}
use Rattle.paper.specs.Layer.{Column, share, shares, of_columns}
use Rattle.paper.specs.Groups.{sum_of, Divided}

pub shares-append : (xs ys : List Column) (z : ℤ) (t : ℕ) → shares (xs ++ ys) z t ≡ shares xs z t + shares ys z t
shares-append [] ys z t = omega arith
shares-append (x ∷ xs) ys z t = let e = shares-append xs ys z t in omega arith

shares-permᴰ : {xs ys : List Column} (z : ℤ) (t : ℕ) → Permᴰ xs ys → shares xs z t ≡ shares ys z t
shares-permᴰ z t Permᴰ.nil = refl
shares-permᴰ z t (Permᴰ.cons e d) = ap₂ ◌+◌ (ap (λ column. share column.boundaries z t) e) (shares-permᴰ z t d)
shares-permᴰ z t (Permᴰ.swap e f) = let x = ap (λ column. share column.boundaries z t) e in let y = ap (λ column. share column.boundaries z t) f in omega arith
shares-permᴰ z t (Permᴰ.trans d e) = shares-permᴰ z t d ∙ shares-permᴰ z t e

pub shares-perm : (xs ys : List Column) → Perm xs ys → (z : ℤ) (t : ℕ) → shares xs z t ≡ shares ys z t
shares-perm xs ys p z t = ∥∥₁_elim p (ℕ_set _ _) (λ d. shares-permᴰ z t d)

shares-groups : (groups : List (List Column)) (z : ℤ) (t : ℕ) → shares (flatten groups) z t ≡ sum_of (map shares groups) z t
unfolding flatten
shares-groups [] z t = refl
shares-groups (g ∷ gs) z t = shares-append g (flatten gs) z t ∙ ap (λ e. shares g z t + e) (shares-groups gs z t)

-- each column to one group
pub dealt-divided : (N T : ℕ) (columns : List Column) (groups : List (List Column)) → Perm (flatten groups) columns
    → Divided (of_columns N T columns) (map shares groups)
dealt-divided N T columns groups p z t u = sym (shares-perm (flatten groups) columns p z t) ∙ shares-groups groups z t
