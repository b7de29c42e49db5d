-- Lists that are one another in another order have the same length: by cases on how one is got from the other. Assumes nothing.
use mathlib.Core.Path.{◌≡◌, refl, ap, ◌∙◌}
use mathlib.Core.Logic.{∥∥₁_elim}
use mathlib.Core.List.{List, Perm, Permᴰ}
use Prim.Native.Nat.{suc}
use native.Mathlib.Nat.{ℕ_set}
use lib.ListN.{length}

module _ {A : Type 0} where
  shown : {xs ys : List A} → Permᴰ xs ys → length xs ≡ length ys
  shown Permᴰ.nil = refl
  shown (Permᴰ.cons e d) = ap suc (shown d)
  shown (Permᴰ.swap e f) = refl
  shown (Permᴰ.trans d e) = shown d ∙ shown e

  pub length-perm : (xs ys : List A) → Perm xs ys → length xs ≡ length ys
  length-perm xs ys p = ∥∥₁_elim p (ℕ_set _ _) shown
