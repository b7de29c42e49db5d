-- Of a plate's columns in another order, or dealt into groups, each is a column, and they are as many. Assumes nothing.
use Prim.Native.Nat.{ℕ, ◌≤◌}
use mathlib.Core.Path.{subst}
use mathlib.Core.Logic.{∥∥₁_elim}
use mathlib.Core.HLevel.{Unit-prop, Π_prop, ×_prop}
use mathlib.Core.List.Perm
use mathlib.Core.List.{List, [], ◌∷◌, Perm, Permᴰ}
use native.Mathlib.Bridge.{le_prop}
use native.Mathlib.Nat.{ℕ_set}
use native.Mathlib.Omega.{arith}
use lib.ListN.{length}
use Rattle.lists.proofs.Perm.{length-perm}
use Rattle.paper.specs.Limits.{most_columns}
use Rattle.paper.specs.Layer.{Column, IsColumn}
use Rattle.promises.specs.Runs.{Columns}
use Rattle.promises.specs.Ways.{WithinLimits}

column-prop : (N : ℕ) (column : Column) → IsProp (IsColumn N column)
column-prop N column x y = λ i. record {
  few = le_prop x.few y.few i;
  even = ℕ_set _ _ x.even y.even i;
  rising = Π_prop (λ k. Π_prop (λ l. le_prop)) x.rising y.rising i;
  within = Π_prop (λ k. Π_prop (λ l. le_prop)) x.within y.within i;
}

columns-prop : (N : ℕ) (columns : List Column) → IsProp (Columns N columns)
columns-prop N [] = Unit-prop
columns-prop N (column ∷ columns) = ×_prop (column-prop N column) (columns-prop N columns)

columns-permᴰ : (N : ℕ) {xs ys : List Column} → Permᴰ xs ys → Columns N xs → Columns N ys
columns-permᴰ N Permᴰ.nil c = c
columns-permᴰ N (Permᴰ.cons e d) c = (subst (IsColumn N) e c.0, columns-permᴰ N d c.1)
columns-permᴰ N (Permᴰ.swap e f) c = (subst (IsColumn N) f c.1.0, (subst (IsColumn N) e c.0, c.1.1))
columns-permᴰ N (Permᴰ.trans d e) c = columns-permᴰ N e (columns-permᴰ N d c)

pub columns-perm : (N : ℕ) (xs ys : List Column) → Perm xs ys → Columns N xs → Columns N ys
columns-perm N xs ys p c = ∥∥₁_elim p (columns-prop N ys) (λ d. columns-permᴰ N d c)

-- of a plate within limits
module _ (N T : ℕ) (plate : List Column) (within : WithinLimits N T plate) (columns : List Column) (p : Perm columns plate) where
  pub ordered : Columns N columns
  ordered = columns-perm N plate columns (Perm.symm p) within.columns

  pub as-few : length columns ≤ most_columns
  as-few = let e = length-perm columns plate p in let f = within.few in omega arith
