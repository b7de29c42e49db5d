-- 'The bound is 32 bits; its largest value excludes nothing.' A cell in bounds is at most the greatest limit that there is, and so is the error
-- of a layer of the most columns; the largest bound is more. Assumes nothing.
use Prim.Native.Nat.{ℕ, ◌/◌, ◌≤◌}
use mathlib.Core.Path.{◌≡◌}
use mathlib.Core.Bool.{true}
use mathlib.Core.List.{List}
use native.Mathlib.Nat.{mul-le-mul}
use native.Mathlib.Omega.{arith}
use lib.IntN.{ℤ}
use lib.ListN.{length}
use Rattle.paper.specs.Limits.{most_columns, most_thickness, largest_bound}
use Rattle.paper.specs.Layer.{Column, allowed, shares, of_columns}
use Rattle.paper.specs.Table.{thickness_at, cell_at}
use Rattle.paper.specs.Sequence.{◌!◌, thickness}
use Rattle.paper.specs.Groups.{Usable}
use Rattle.paper.proofs.Shares.{shares-le}
use Rattle.paper.proofs.Stacks.{admissible-within}
use Rattle.paper.proofs.Thicknesses.{allowed-from, allowed-to, allowed-tmax, tmax-le}
use Rattle.plate.specs.Head.{Held, limit_of}
use Rattle.plate.proofs.Heads.{few-not-over}
use Rattle.table.specs.Limits.{greatest_limit}
use Rattle.table.specs.Table.{Bounded}
use Rattle.table.proofs.Limits.{limit-le}
use Rattle.table.proofs.Passed.{thickness-le}
use Rattle.meaning.proofs.Table.{usable-cell, index}
use Rattle.meaning.proofs.Usable.{sequence-usable}
use Rattle.promises.specs.Plans.{ExcludesNothing, plate_of}

-- the cell of a layer that a sequence can have
cell-small : (held : Held) → Bounded held → (z : ℤ) (t : ℕ) → Usable held.head.height held.head.members z t
    → cell_at held.head.members held.buffer z t ≤ greatest_limit
unfolding limit_of
cell-small held b z t u =
    let T = held.head.members in
    let i = index T z t in
    let some = allowed-from T t u.member in
    let top = allowed-tmax T t u.member in
    let thin = thickness-le T i (omega arith) in
    let limit = limit-le held.head (thickness_at T i) (few-not-over held.head b.columns) (omega (arith, tmax-le T)) in
    omega (arith, b.bounded i (usable-cell held.head.height T z t u))

-- of every table in bounds
pub table-excludes-nothing : (held : Held) → Bounded held → ExcludesNothing (plate_of held)
table-excludes-nothing held b bound zs a =
    admissible-within (plate_of held) bound largest_bound zs a
    (λ k l. omega (arith, cell-small held b (zs ! k) (thickness zs k) (sequence-usable (plate_of held) bound zs a k l)))

shares-small : (columns : List Column) (T : ℕ) → length columns ≤ most_columns → (z : ℤ) (t : ℕ) → allowed T t ≡ true → shares columns z t ≤ greatest_limit
shares-small columns T few z t member =
    let thin = allowed-to T t member in
    let half : t / 2 ≤ most_thickness / 2 = omega arith in
    omega (arith, shares-le columns z t, mul-le-mul few half)

-- and of every plate within the limit
pub plate-excludes-nothing : (N T : ℕ) (columns : List Column) → length columns ≤ most_columns → ExcludesNothing (of_columns N T columns)
plate-excludes-nothing N T columns few bound zs a =
    admissible-within (of_columns N T columns) bound largest_bound zs a
    (λ k l. omega (arith, shares-small columns T few (zs ! k) (thickness zs k) (a.stack.layers k l).member))
