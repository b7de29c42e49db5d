-- Its tests are the checks 3, 7, 4 and 5, in their order.
use Rattle.std.proofs.Common.{◌≡◌, ℕ, ◌<◌, ◌≤◌, false, length, refl, sym, ap, ◌∙◌, arith, lt-ltb, le-ltb, Err}
use mathlib.Core.Option.{Option}
use Rattle.lists.specs.Checks.{first}
use Rattle.paper.specs.Layer.{Column, column_of}
use Rattle.plate.specs.Refusal.{Numbered}
use Rattle.plate.specs.Head.{Held, held_in, is_full, cells_of}
use Rattle.plate.proofs.Calls.{judges-bad, judges-good, handed-judges}
use Rattle.plate.proofs.Heads.{cells-for, height-for}
use Rattle.column.specs.Order.{column_checks}
use Rattle.table.specs.Table.{short}
use Rattle.adding.specs.Ordered.{order_rest}
use Rattle.adding.proofs.check_rest.Goals as goal

-- past both, what the column's own checks say, at the table's height, is said
column-said : (held : Held) (column : Column) → cells_of held.head ≤ length held.buffer → is_full held.head ≡ false
    → (N : ℕ) → N ≡ held.head.height → (said : Option Numbered) → said ≡ first (column_checks N column.boundaries) → said ≡ first (order_rest held column)
unfolding order_rest short
column-said held column room few N h said e = simp (le-ltb _ _ room, few) (e ∙ ap (λ (N : ℕ). first (column_checks N column.boundaries)) h)

pub returns-then-table-s : goal.returns-then-table-s
unfolding order_rest short
returns-then-table-s c =
    let h : length c.args.table.now < cells_of c.args.head = omega (arith, cells-for c.requires) in
    judges-bad _ _ _ _ _ (ap Err c.refusal_at.ensures) (simp (lt-ltb _ _ h))

pub returns-then-is_full : goal.returns-then-is_full
unfolding order_rest short
returns-then-is_full c =
    let room : cells_of c.args.head ≤ length c.args.table.now = omega (arith, cells-for c.requires) in
    judges-bad _ _ _ _ _ (ap Err c.refusal_at-then-is_full.ensures) (simp (le-ltb _ _ room, sym c.is_full.ensures ∙ c.if-is_full.true))

pub returns-in_err-check_column : goal.returns-in_err-check_column
returns-in_err-check_column c =
    let a = c.args in
    handed-judges _ _ c.from_residual.ensures.1 _ _ _
    (column-said (held_in a.head a.table.now) (column_of a.column.now) (omega (arith, cells-for c.requires)) (sym c.is_full.ensures ∙ c.if-is_full.false)
    _ (height-for c.requires) _ c.in_err-check_column.ensures)

pub returns : goal.returns
returns c =
    let a = c.args in
    judges-good _ _ _ _ _ refl (c.requires.is, c.requires.sound)
    (column-said (held_in a.head a.table.now) (column_of a.column.now) (omega (arith, cells-for c.requires)) (sym c.is_full.ensures ∙ c.if-is_full.false)
    _ (height-for c.requires) _ c.in_ok-check_column.ensures)
