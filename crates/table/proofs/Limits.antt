-- The limits of the thicknesses, and what the test of a row's loop says. Assumes nothing.
use mathlib.Core.Path.{◌≡◌, sym, ◌∙◌}
use mathlib.Core.Bool.{Bool, true, false, cond}
use mathlib.Core.List.{List}
use Prim.Native.Nat.{ℕ, ◌+◌, ◌*◌, ◌/◌, ◌≤◌, ◌<◌}
use native.Mathlib.Nat.{mul-le-mul}
use native.Mathlib.Omega.{arith}
use borrow.Author.Tests.{lt-ltb}
use lib.ListN.{get_or}
use Rattle.paper.specs.Limits.{most_thickness, most_columns}
use Rattle.paper.specs.Layer.{allowed}
use Rattle.paper.specs.Table.{limit}
use Rattle.plate.specs.Head.{is_over, limit_of}
use Rattle.plate.specs.declared.head.Head.{Head}
use Rattle.plate.proofs.Heads.{not-over}
use Rattle.lists.proofs.Search.{lowest-same}
use Rattle.std.specs.Prelude.{Option, Some, None}
use Rattle.lists.specs.Search.{IsLowest}
use Rattle.table.specs.Limits.{Limits, greatest_limit, UnderGreatest, above}

product_le : (c t : ℕ) → c ≤ most_columns → t ≤ most_thickness → c * (t / 2) ≤ greatest_limit
product_le c t l u = let h : t / 2 ≤ 16 = omega arith in omega (arith, mul-le-mul l h)

module _ (head : Head) (t : ℕ) where
  pub limit-allowed : allowed head.members t ≡ true → limit_of head t ≡ head.columns * (t / 2)
  unfolding limit_of limit
  limit-allowed e = rw e

  module _ (few : is_over head ≡ false) (thin : t ≤ most_thickness) where
    pub limit-product : head.columns * (t / 2) ≤ greatest_limit
    limit-product = product_le head.columns t (not-over head few) thin

    pub limit-le : limit_of head t ≤ greatest_limit
    unfolding limit_of limit
    limit-le = go (allowed head.members t)
      where
        go : (b : Bool) → cond b (head.columns * (t / 2)) 0 ≤ greatest_limit
        go true = limit-product
        go false = omega arith

pub limits-under : {head : Head} {limits : List ℕ} → is_over head ≡ false → Limits head limits → UnderGreatest 32 limits
limits-under {head} few l = record { are = λ j i. rw (l.are j i) (limit-le head (j + 1) few (omega arith)) }

module _ (limits table : List ℕ) (base j : ℕ) where
  pub above-yes : get_or limits j 0 < get_or table (base + j) 0 → above limits table base j ≡ true
  unfolding above
  above-yes l = lt-ltb _ _ l

-- what a search answers, of another test that passes at the same places, through another range as long
pub lowest_as : (p q : ℕ → Bool) (n m : ℕ) (answer : Option ℕ) → n ≡ m → ((k : ℕ) → k < n → p k ≡ q k) → IsLowest answer p n → IsLowest answer q m
lowest_as p q n m answer e same l = rw (← e) (go answer l)
  where
    go : (answer : Option ℕ) → IsLowest answer p n → IsLowest answer q n
    go None none = sym (lowest-same p q n same) ∙ none
    go (Some i) some = (sym (lowest-same p q n same) ∙ some.0, some.1)
