-- Adding a column where none of its refusals is given: the table is whole and every sum fits, since a cell that is added to is within its
-- limit. And the other way: a table in bounds passes 6. Assumes nothing.
use mathlib.Core.Path.{◌≡◌, refl, sym}
use mathlib.Core.Bool.{Bool, true, false, ◌&&◌}
use mathlib.Core.Option.{none}
use Prim.Native.Nat.{ℕ, ◌+◌, ◌≤◌, ◌<◌}
use native.Mathlib.Omega.{arith}
use borrow.Author.Tests.{le-ltb, ltb-false}
use lib.Dec.{ltb}
use lib.ListN.{length, get_or}
use Rattle.lists.specs.Checks.{first, Quiet}
use Rattle.lists.proofs.Checks.{first-none, first-later}
use Rattle.lists.proofs.Search.{lowest-none, lowest-before}
use Rattle.paper.specs.Layer.{Column, IsColumn}
use Rattle.paper.specs.Table.{thickness_at}
use Rattle.plate.specs.Head.{Held, is_over, is_full, cells_of, limit_of, head_checks, SettingsFor}
use Rattle.plate.specs.declared.settings.Settings.{Settings}
use Rattle.plate.proofs.Heads.{cells-for, full-over}
use Rattle.column.specs.Order.{column_checks}
use Rattle.column.proofs.Fine.{column-passed}
use Rattle.table.specs.Cells.{out_of_bounds}
use Rattle.table.specs.Table.{short}
use Rattle.table.proofs.Limits.{limit-le}
use Rattle.table.proofs.Passed.{thickness-small}
use Rattle.adding.specs.Adding.{addend, overfull, first_overfull, Addable}
use Rattle.adding.specs.Ordered.{order_rest, order_checks}
use Rattle.adding.proofs.Addends.{addend-le, and-false}

module _ (held : Held) (column : Column) where
  module _ {s : Settings} (k : SettingsFor held.head s) where
    overfull-fits : cells_of held.head ≤ first_overfull held column → is_over held.head ≡ false
        → (i : ℕ) → i < cells_of held.head → get_or held.buffer i 0 < 4294967296 → get_or held.buffer i 0 + addend held.head.members column i < 4294967296
    unfolding first_overfull overfull out_of_bounds
    overfull-fits h few i l w =
        go (ltb 0 (addend held.head.members column i)) refl (lowest-before (overfull held.head held.buffer column) (cells_of held.head) i (omega arith))
      where
        go : (b : Bool) → ltb 0 (addend held.head.members column i) ≡ b
            → b && ltb (limit_of held.head (thickness_at held.head.members i)) (get_or held.buffer i 0) ≡ false
            → get_or held.buffer i 0 + addend held.head.members column i < 4294967296
        go true e q =
            let t = thickness-small held k i in
            let x = ltb-false (limit_of held.head (thickness_at held.head.members i)) (get_or held.buffer i 0) q in
            let y = limit-le held.head (thickness_at held.head.members i) few t in
            let z = addend-le held.head.members i column in
            omega arith
        go false e q = let z = ltb-false 0 (addend held.head.members column i) e in omega arith

    -- passed: what is known then
    pub add-passed : s.cells ≤ length held.buffer → is_full held.head ≡ false → cells_of held.head ≤ first_overfull held column → Addable held column s
    add-passed room few over = record { room = room; few = few; fits = λ i l w. overfull-fits over (full-over held.head few) i (omega (arith, cells-for k)) w }

  -- what is known where all but 6 is in order
  module _ (e : none ≡ first (order_checks held column)) where
    quiet : Quiet (order_rest held column)
    unfolding order_checks
    quiet = (first-none (order_rest held column)).0 (first-later (head_checks held.head) (order_rest held column) (sym e))

    pub room-passed : cells_of held.head ≤ length held.buffer
    unfolding order_rest short
    room-passed = ltb-false (length held.buffer) (cells_of held.head) quiet.0

    pub few-passed : is_full held.head ≡ false
    unfolding order_rest
    few-passed = quiet.1.0

    pub order-passed : IsColumn held.head.height column
    unfolding order_rest
    order-passed = column-passed held.head.height column.boundaries ((first-none (column_checks held.head.height column.boundaries)).1 quiet.1.1)

  -- where every cell is in bounds the search finds none
  pub overfull-fine : ((i : ℕ) → i < cells_of held.head → get_or held.buffer i 0 ≤ limit_of held.head (thickness_at held.head.members i))
      → first_overfull held column ≡ cells_of held.head
  unfolding first_overfull overfull out_of_bounds
  overfull-fine w =
      lowest-none (overfull held.head held.buffer column) (cells_of held.head)
      (λ i l. and-false (ltb 0 (addend held.head.members column i)) _ (le-ltb (limit_of held.head (thickness_at held.head.members i)) (get_or held.buffer i 0) (w i l)))
