-- A table in order: what 3, 7 and 6, where none of them holds, tell of every cell; and the other way, that a table whose cells are in bounds
-- passes them. Where the search for 6 finds nothing every cell is within its limit, and no limit is above the greatest. Assumes nothing.
use mathlib.Core.Path.{◌≡◌, sym, ◌∙◌}
use mathlib.Core.Bool.{false}
use mathlib.Core.List.{◌∷◌, []}
use mathlib.Core.Option.{none}
use Prim.Native.Nat.{ℕ, ◌≤◌, ◌<◌}
use native.Mathlib.Nat.{mod-lt}
use native.Mathlib.Omega.{arith}
use borrow.Author.Tests.{le-ltb, ltb-false}
use lib.ListN.{length, get_or}
use Rattle.lists.specs.Checks.{first}
use Rattle.lists.proofs.Checks.{first-none, first-later, first-passed}
use Rattle.lists.proofs.Search.{lowest-none, lowest-before}
use Rattle.paper.specs.Layer.{tmax}
use Rattle.paper.specs.Table.{thickness_at}
use Rattle.plate.specs.Head.{Held, is_over, cells_of, limit_of, head_checks, SettingsFor}
use Rattle.plate.specs.declared.settings.Settings.{Settings}
use Rattle.plate.proofs.Heads.{cells-for, not-over, few-not-over}
use Rattle.table.specs.Cells.{out_of_bounds, first_out}
use Rattle.table.specs.Table.{short, out_cell, bound_checks, table_rest, table_checks, Bounded, InOrder}
use Rattle.table.proofs.Cells.{greatest-for}
use Rattle.table.proofs.Limits.{limit-le}

pub thickness-le : (T i : ℕ) → 1 ≤ tmax T → thickness_at T i ≤ tmax T
unfolding thickness_at
thickness-le T i l = let u = mod-lt i l in omega arith

module _ (held : Held) where
  -- no cell is out of bounds
  pub all-within : cells_of held.head ≤ first_out held
      → (i : ℕ) → i < cells_of held.head → get_or held.buffer i 0 ≤ limit_of held.head (thickness_at held.head.members i)
  unfolding first_out out_of_bounds
  all-within h i l =
      ltb-false (limit_of held.head (thickness_at held.head.members i)) (get_or held.buffer i 0)
      (lowest-before (out_of_bounds held.head held.buffer) (cells_of held.head) i (omega arith))

  -- ---- passed: what is known then

  module _ {s : Settings} (k : SettingsFor held.head s) where
    pub thickness-small : (i : ℕ) → thickness_at held.head.members i ≤ 32
    thickness-small i =
        let t = thickness-le held.head.members i (omega (arith, greatest-for k, k.sound.thin, k.sound.order)) in
        omega (arith, greatest-for k, k.sound.thick)

    pub in_order : s.cells ≤ length held.buffer → is_over held.head ≡ false → cells_of held.head ≤ first_out held → InOrder held s
    in_order room few out =
        let w : (i : ℕ) → i < s.cells → get_or held.buffer i 0 ≤ limit_of held.head (thickness_at held.head.members i) =
        (λ i l. all-within out i (omega (arith, cells-for k))) in
        record {
          room = room;
          few = few;
          bounded = w;
          small = record { are = λ i l. omega (arith, w i l, limit-le held.head (thickness_at held.head.members i) few (thickness-small i)) };
        }

    -- 3, 7, 6
    pub rest-passed : none ≡ first (table_rest held) → InOrder held s
    unfolding table_rest short bound_checks out_cell
    rest-passed e =
        let q = (first-none (table_rest held)).0 (sym e) in
        let room = ltb-false (length held.buffer) (cells_of held.head) q.0 in
        in_order (omega (arith, room, cells-for k)) q.1.0 (ltb-false (first_out held) (cells_of held.head) q.1.1.0)

    -- 1, 2, 3, 7, 6
    pub table-passed : none ≡ first (table_checks held) → InOrder held s
    unfolding table_checks
    table-passed e = rest-passed (sym (first-later (head_checks held.head) (table_rest held) (sym e)))

  -- ---- and the other way: where every cell is in bounds none of them holds

  pub out-fine : ((i : ℕ) → i < cells_of held.head → get_or held.buffer i 0 ≤ limit_of held.head (thickness_at held.head.members i))
      → first_out held ≡ cells_of held.head
  unfolding first_out out_of_bounds
  out-fine w =
      lowest-none (out_of_bounds held.head held.buffer) (cells_of held.head)
      (λ i l. le-ltb (limit_of held.head (thickness_at held.head.members i)) (get_or held.buffer i 0) (w i l))

  -- a table in bounds passes 7 and 6
  pub bounds-fine : Bounded held → first (bound_checks held) ≡ none
  unfolding bound_checks out_cell limit_of
  bounds-fine b =
      let e = out-fine b.bounded in
      simp (few-not-over held.head b.columns, e, le-ltb (cells_of held.head) (cells_of held.head) (omega arith))

  -- and what passes them is in bounds
  pub bounds-passed : cells_of held.head ≤ length held.buffer → first (bound_checks held) ≡ none → Bounded held
  unfolding bound_checks out_cell limit_of
  bounds-passed size e =
      let q = (first-none (bound_checks held)).0 e in
      record { size = size; columns = not-over held.head q.0; bounded = all-within (ltb-false (first_out held) (cells_of held.head) q.1.0) }

  -- and 6 alone
  pub cells-fine : Bounded held → (out_cell held).holds ≡ false
  unfolding out_cell limit_of
  cells-fine b = let e = out-fine b.bounded in simp (e, le-ltb (cells_of held.head) (cells_of held.head) (omega arith))

  -- where 1, 2 and 3 passed, asking the table asks 7 and 6
  pub table-asks : first (head_checks held.head) ≡ none → cells_of held.head ≤ length held.buffer
      → first (table_checks held) ≡ first (bound_checks held)
  unfolding table_checks table_rest short
  table-asks fine room = first-passed (head_checks held.head) (short held 1 ∷ bound_checks held) fine ∙ simp (le-ltb _ _ room)

  -- and where 7 passed too, 6
  pub table-asks-cells : first (head_checks held.head) ≡ none → cells_of held.head ≤ length held.buffer → is_over held.head ≡ false
      → first (table_checks held) ≡ first (out_cell held ∷ [])
  unfolding bound_checks
  table-asks-cells fine room few = table-asks fine room ∙ simp few

  -- a whole table in bounds passes all of them
  pub table-fine : first (head_checks held.head) ≡ none → Bounded held → first (table_checks held) ≡ none
  table-fine fine b = table-asks fine b.size ∙ bounds-fine b
