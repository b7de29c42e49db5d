-- What goes with a table: of the table of more columns, of both, of the rest and in another order, each by the number of columns; the limits on
-- its columns as inequalities, each one comparison, read either way; and the settings that it was made for. Assumes nothing.
use mathlib.Core.Path.{◌≡◌, ap, subst}
use mathlib.Core.Option.{none}
use mathlib.Core.Bool.{false}
use mathlib.Core.List.{List, [], ◌∷◌, ◌++◌, Perm}
use Prim.Native.Nat.{ℕ, ◌+◌, ◌-◌, ◌≤◌, ◌<◌, min}
use native.Mathlib.Omega.{arith}
use borrow.Author.Tests.{ltb-false, leb-false, le-ltb, lt-leb}
use lib.ListN.{length-append}
use Rattle.lists.specs.Checks.{first}
use Rattle.lists.proofs.Perm.{length-perm}
use Rattle.paper.specs.Limits.{most_columns}
use Rattle.paper.specs.Layer.{Column}
use Rattle.plate.specs.Head.{cleared_head, with_columns, head_of, more, both, less, capped, is_over, is_full, is_less, cells_of, head_checks, SettingsFor}
use Rattle.plate.specs.Settings.{Sound}
use Rattle.plate.specs.declared.head.Head.{Head}
use Rattle.plate.specs.declared.settings.Settings.{Settings}
use Rattle.plate.proofs.Sizes.{settings-fine}

-- what goes with the tables of columns
module _ (N T : ℕ) where
  pub head_more : (columns : List Column) (column : Column) → more (head_of N T columns) ≡ head_of N T (column ∷ columns)
  head_more columns column = ap (with_columns (cleared_head N T)) (omega arith)

  pub head-perm : (xs ys : List Column) → Perm xs ys → head_of N T xs ≡ head_of N T ys
  head-perm xs ys p = ap (with_columns (cleared_head N T)) (length-perm xs ys p)

  -- one more at the end
  pub head-last : (columns : List Column) (column : Column) → more (head_of N T columns) ≡ head_of N T (columns ++ (column ∷ []))
  head-last columns column = ap (with_columns (cleared_head N T)) (omega (arith, length-append columns (column ∷ [])))

  module _ (xs ys : List Column) where
    pub head-both : both (head_of N T xs) (head_of N T ys) ≡ head_of N T (xs ++ ys)
    head-both = ap (with_columns (cleared_head N T)) (omega (arith, length-append xs ys))

    pub head-less : less (head_of N T (xs ++ ys)) (head_of N T ys) ≡ head_of N T xs
    head-less = ap (with_columns (cleared_head N T)) (omega (arith, length-append xs ys))

module _ (head : Head) where
  -- columns beyond the most
  pub not-over : is_over head ≡ false → head.columns ≤ most_columns
  unfolding is_over
  not-over e = ltb-false most_columns head.columns e

  pub few-not-over : head.columns ≤ most_columns → is_over head ≡ false
  unfolding is_over
  few-not-over l = le-ltb most_columns head.columns l

  pub capped_same : is_over head ≡ false → capped head ≡ head
  capped_same e =
      let l = not-over e in
      let m : min head.columns most_columns ≡ head.columns = omega arith in
      ap (with_columns head) m

  pub capped-not-over : is_over (capped head) ≡ false
  unfolding is_over
  capped-not-over = le-ltb most_columns (min head.columns most_columns) (omega arith)

  -- no room for one more
  pub not_full : is_full head ≡ false → head.columns < most_columns
  unfolding is_full
  not_full e = leb-false most_columns head.columns e

  pub full-over : is_full head ≡ false → is_over head ≡ false
  full-over e = few-not-over (let l = not_full e in omega arith)

  pub few-not-full : head.columns < most_columns → is_full head ≡ false
  unfolding is_full
  few-not-full l = lt-leb most_columns head.columns l

  module _ (other : Head) where
    pub few-not-over-both : head.columns + other.columns ≤ most_columns → is_over (both head other) ≡ false
    unfolding is_over
    few-not-over-both l = le-ltb most_columns (head.columns + other.columns) l

    -- what is left is no more
    pub less-not-over : is_over head ≡ false → is_over (less head other) ≡ false
    unfolding is_over
    less-not-over e = le-ltb most_columns (head.columns - other.columns) (let l = ltb-false most_columns head.columns e in omega arith)

    -- fewer than the other's
    pub not-less : is_less head other ≡ false → other.columns ≤ head.columns
    unfolding is_less
    not-less e = ltb-false head.columns other.columns e

    pub more-not-less : other.columns ≤ head.columns → is_less head other ≡ false
    unfolding is_less
    more-not-less l = le-ltb head.columns other.columns l

-- the settings that a table was made for are its head's
module _ {head : Head} {s : Settings} (k : SettingsFor head s) where
  pub cells-for : s.cells ≡ cells_of head
  cells-for = ap (λ (s : Settings). s.cells) k.is

  pub height-for : s.height ≡ head.height
  height-for = ap (λ (s : Settings). s.height) k.is

  pub members-for : s.members ≡ head.members
  members-for = ap (λ (s : Settings). s.members) k.is

  -- and in order
  pub head-fine : first (head_checks head) ≡ none
  head-fine = settings-fine head.height head.members (subst Sound k.is k.sound)
