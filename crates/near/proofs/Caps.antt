-- The caps of a row's cells: the limit where the thickness is allowed, which is below the greatest number of 32 bits, and that number where it
-- is not; so that a cap tells both. Assumes nothing.
use mathlib.Core.Path.{◌≡◌, refl, sym, ap, ◌∙◌, subst}
use mathlib.Core.Bool.{Bool, true, false}
use mathlib.Core.List.{List}
use Prim.Native.Nat.{ℕ, ◌+◌, ◌≤◌}
use native.Mathlib.Omega.{arith}
use borrow.Author.Tests.{lt-ltb, le-ltb}
use lib.Dec.{ltb}
use Rattle.lists.specs.Rewrite.{Span}
use Rattle.lists.proofs.Spans.{front-inside}
use Rattle.paper.specs.Limits.{most_thickness}
use Rattle.paper.specs.Layer.{allowed}
use Rattle.plate.specs.Head.{capped, is_over, limit_of, SettingsFor}
use Rattle.plate.specs.declared.head.Head.{Head}
use Rattle.plate.specs.declared.settings.Settings.{Settings}
use Rattle.plate.proofs.Heads.{capped_same, members-for}
use Rattle.table.proofs.Limits.{limit-le}
use Rattle.near.specs.Caps.{greatest_cell, cap_of, Caps, Allowing}

module _ (head : Head) (t : ℕ) where
  pub cap-allowed : allowed head.members t ≡ true → cap_of head t ≡ limit_of head t
  unfolding cap_of
  cap-allowed e = rw e

  pub cap_barred : allowed head.members t ≡ false → cap_of head t ≡ greatest_cell
  unfolding cap_of
  cap_barred e = rw e

  cap-tells : is_over head ≡ false → t ≤ most_thickness → ltb (cap_of head t) greatest_cell ≡ allowed head.members t
  cap-tells few thin = go (allowed head.members t) refl
    where
      go : (b : Bool) → allowed head.members t ≡ b → ltb (cap_of head t) greatest_cell ≡ b
      go true e = lt-ltb (cap_of head t) greatest_cell (omega (arith, cap-allowed e, limit-le head t few thin))
      go false e = le-ltb (cap_of head t) greatest_cell (omega (arith, cap_barred e))

-- those of a table's own head, over the rows of its settings
module _ {head : Head} {s : Settings} (k : SettingsFor head s) (few : is_over head ≡ false) where
  pub caps-for : {old caps : List ℕ} (n : ℕ) → s.tmax ≤ n → Span 0 0 n (λ j x. cap_of (capped head) (j + 1)) old caps → Caps head s.tmax caps
  caps-for {caps = caps} n l w = subst (λ (h : Head). Caps h s.tmax caps) (capped_same head few) (record { are = λ j u. front-inside w j (omega arith) })

  pub allowing-for : {caps : List ℕ} → Caps head s.tmax caps → Allowing s.members s.tmax caps
  allowing-for {caps} w =
      subst (λ (T : ℕ). Allowing T s.tmax caps) (sym (members-for k))
      (record { are = λ j l. ap (λ (x : ℕ). ltb x greatest_cell) (w.are j l) ∙ cap-tells head (j + 1) few (omega (arith, k.sound.thick)) })
