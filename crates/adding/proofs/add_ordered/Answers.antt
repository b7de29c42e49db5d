-- A column without boundaries adds nothing, so that 6 is not given and every cell stays. Else the caps are those of the table's own head, a
-- cell to which the column adds is above its cap exactly where it is out of bounds, and where none is every sum fits.
use Rattle.std.proofs.Common.{◌≡◌, ℕ, ◌+◌, ◌%◌, ◌<◌, ◌≤◌, Bool, true, false, cond, ◌&&◌, List, [], ◌∷◌, min, ltb, length, get_or, refl, sym, ap, ◌∙◌, arith, lt-ltb, le-ltb, ltb-true, eqb-true, rules}
use mathlib.Core.Option.{none, some}
use native.Mathlib.Nat.{mod-lt}
use Rattle.std.specs.Prelude.{Option, Some, None}
use Rattle.lists.specs.Search.{lowest, IsLowest}
use Rattle.lists.specs.Checks.{first}
use Rattle.lists.specs.Rewrite.{rewritten, Span}
use Rattle.lists.proofs.Search.{lowest-none}
use Rattle.lists.proofs.Spans.{span_none, span_rest, span-is}
use Rattle.paper.specs.Limits.{most_thickness}
use Rattle.paper.specs.Layer.{Column, column_of, allowed}
use Rattle.paper.specs.Table.{thickness_at}
use Rattle.plate.specs.Head.{Held, held_in, more, capped, is_full, cells_of, limit_of, SettingsFor}
use Rattle.plate.specs.Call.{Does}
use Rattle.plate.specs.Refusal.{done, numbered}
use Rattle.plate.specs.declared.refusal.Refusal.{Refusal}
use Rattle.plate.specs.declared.head.Head.{Head}
use Rattle.plate.specs.declared.settings.Settings.{Settings}
use Rattle.plate.proofs.Calls.{refuses, works}
use Rattle.plate.proofs.Heads.{cells-for, members-for, full-over}
use Rattle.table.specs.Cells.{out_of_bounds}
use Rattle.table.specs.Limits.{above_at}
use Rattle.table.proofs.Cells.{greatest-for}
use Rattle.table.proofs.Limits.{lowest_as}
use Rattle.near.specs.Caps.{cap_of, Caps}
use Rattle.near.proofs.Caps.{cap-allowed, caps-for, allowing-for}
use Rattle.adding.specs.Adding.{addend, overfull, first_overfull, overfull_cell, added}
use Rattle.adding.specs.Heaped.{heaped_at}
use Rattle.adding.specs.Ordered.{adding_ordered}
use Rattle.adding.proofs.Addends.{addend-touched}
use Rattle.adding.proofs.Near.{none-added}
use Rattle.adding.proofs.Passed.{add-passed}
use Rattle.adding.proofs.add_ordered.Goals as goal

module _ {head : Head} {s : Settings} (k : SettingsFor head s) (table : List ℕ) (column : Column) where
  -- the cap of an allowed thickness is its limit
  cap-at : (caps : List ℕ) → Caps head s.tmax caps → (i : ℕ) → allowed head.members (thickness_at head.members i) ≡ true
      → get_or caps (i % s.tmax) 0 ≡ limit_of head (thickness_at head.members i)
  unfolding thickness_at
  cap-at caps are i a =
      let l = mod-lt i (let p : 1 ≤ s.tmax = omega (arith, k.sound.thin, k.sound.order) in p) in
      are.are (i % s.tmax) l ∙ rw (greatest-for k) (cap-allowed head _ a)

  overfull-at : (caps : List ℕ) → Caps head s.tmax caps → (i : ℕ) → heaped_at s.members caps table column s.tmax i ≡ overfull head table column i
  unfolding heaped_at overfull above_at out_of_bounds
  overfull-at caps are i = rw (members-for k) (go (ltb 0 (addend head.members column i)) refl)
    where
      go : (b : Bool) → ltb 0 (addend head.members column i) ≡ b
          → (b && ltb (get_or caps (i % s.tmax) 0) (get_or table i 0)) ≡ (b && ltb (limit_of head (thickness_at head.members i)) (get_or table i 0))
      go true e = ap (λ (x : ℕ). ltb x (get_or table i 0)) (cap-at caps are i (addend-touched head.members i column (ltb-true 0 _ e)))
      go false e = refl

  -- what the search over the caps finds is the first cell out of bounds
  over-is : (caps : List ℕ) → Caps head s.tmax caps → (answer : Option ℕ) → IsLowest answer (heaped_at s.members caps table column s.tmax) s.cells
      → IsLowest answer (overfull head table column) (cells_of head)
  over-is caps are answer l = lowest_as _ _ _ _ _ (cells-for k) (λ i u. overfull-at caps are i) l

  none-over : (caps : List ℕ) → Caps head s.tmax caps → lowest (heaped_at s.members caps table column s.tmax) s.cells ≡ s.cells
      → first_overfull (held_in head table) column ≡ cells_of head
  unfolding first_overfull
  none-over caps are e = over-is caps are None e

  -- there is none where nothing is added
  none_over : ((i : ℕ) → i < s.cells → addend s.members column i ≡ 0) → cells_of head ≡ first_overfull (held_in head table) column
  unfolding first_overfull overfull
  none_over nothing =
      sym (lowest-none _ _ (λ i l. let z : addend head.members column i ≡ 0 = sym (ap (λ (T : ℕ). addend T column i) (members-for k)) ∙ nothing i (omega (arith, cells-for k)) in rw z refl))

-- 6 is given, or it is not
over : (held : Held) (column : Column) (at : ℕ) → first_overfull held column ≡ at → at < cells_of held.head → some (record { number = 6; place = at }) ≡ first (overfull_cell held column ∷ [])
unfolding overfull_cell
over held column at e h = rw e (simp (lt-ltb _ _ h))

fine : (held : Held) (column : Column) (at : ℕ) → at ≡ first_overfull held column → cells_of held.head ≤ at → none ≡ first (overfull_cell held column ∷ [])
unfolding overfull_cell
fine held column at e h = rw (← e) (simp (le-ltb _ _ h))

-- every cell is rewritten
whole : (held : Held) (column : Column) (s : Settings) → SettingsFor held.head s → s.cells ≤ length held.buffer → (now : List ℕ)
    → Span 0 0 s.cells (λ i x. x + addend s.members column i) held.buffer now → now ≡ added held column
unfolding added
whole held column s k room now w =
    span-is s.cells (cells_of held.head) w (omega (arith, room, cells-for k)) (omega (arith, room, cells-for k))
    ∙ ap (λ (T : ℕ). rewritten (λ i x. x + addend T column i) (cells_of held.head) held.buffer) (members-for k)

-- the caps of the table's own head
module _ {head : Head} {s : Settings} (k : SettingsFor head s) (few : is_full head ≡ false) where
  kept : {old caps : List ℕ} → Span 0 0 (min (min s.tmax most_thickness) 32) (λ j x. cap_of (capped head) (j + 1)) old caps → Caps head s.tmax caps
  kept w = caps-for k (full-over _ few) _ (omega (arith, k.sound.thick)) w

  finish : (table : List ℕ) (column : Column) → s.cells ≤ length table → (now : List ℕ) (given : Head) → none ≡ first (overfull_cell (held_in head table) column ∷ [])
      → given ≡ cond (is_full head) head (more head) → Span 0 0 s.cells (λ i x. x + addend s.members column i) table now
      → Does (adding_ordered (held_in head table) column) (done given) now
  unfolding adding_ordered
  finish table column room now given e h w = works (adding_ordered (held_in head table) column) given now e (h ∙ rw few) (whole (held_in head table) column s k room now w)

pub returns-then-is_empty : goal.returns-then-is_empty
returns-then-is_empty c =
    let a = c.args in
    let k = c.requires.settings_for in
    let none = none-added k.sound c.requires.column (eqb-true _ _ (sym c.is_empty.ensures ∙ c.if-is_empty.true)) in
    let still = none_over k a.table.now (column_of a.column.now) none in
    finish k c.requires.head_value.0 a.table.now (column_of a.column.now) c.requires.head_value.1 _ _ (fine (held_in a.head a.table.now) (column_of a.column.now) _ still (omega arith)) c.with_column.ensures
    (span_rest _ (span_none 0 _ _) (omega arith) (λ i u v. omega (arith, none i v)))

pub invariant_of-rows : goal.invariant_of-rows
invariant_of-rows c =
    let k = c.requires.settings_for in
    let few = c.requires.head_value.0 in
    record { sound = k.sound; is_column = c.requires.column; allowing = allowing-for k (full-over _ few) (kept k few c.fill_caps.ensures) }

pub returns-in-Some : goal.returns-in-Some
unfolding adding_ordered first_overfull
returns-in-Some c =
    let a = c.args in
    let k = c.requires.settings_for in
    let few = c.requires.head_value.0 in
    let held = held_in a.head a.table.now in
    let column = column_of a.column.now in
    let e = over-is k a.table.now column _ (kept k few c.fill_caps.ensures) (Some c.in-Some.over) c.in-Some.ensures in
    refuses (adding_ordered held column) c.refusal_at.result (ap (λ (r : Refusal). some (numbered r)) c.refusal_at.ensures ∙ over held column _ e.0 e.1)

pub add_rows-requires-clause-by_index : goal.add_rows-requires-clause-by_index
add_rows-requires-clause-by_index c =
    let a = c.args in
    let k = c.requires.settings_for in
    let few = c.requires.head_value.0 in
    let column = column_of a.column.now in
    let none = none-over k a.table.now column _ (kept k few c.fill_caps.ensures) c.in_default.ensures in
    let addable = add-passed (held_in a.head a.table.now) column k c.requires.head_value.1 few (omega (arith, none)) in
    λ i l. omega (arith, addable.fits i l (search rules), ap (λ (T : ℕ). addend T column i) (members-for k))

pub returns : goal.returns
returns c =
    let a = c.args in
    let k = c.requires.settings_for in
    let few = c.requires.head_value.0 in
    let held = held_in a.head a.table.now in
    let column = column_of a.column.now in
    let none = none-over k a.table.now column _ (kept k few c.fill_caps.ensures) c.in_default.ensures in
    finish k few a.table.now column c.requires.head_value.1 _ _ (fine held column _ refl (omega (arith, none))) c.with_column-2.ensures c.add_rows.ensures
