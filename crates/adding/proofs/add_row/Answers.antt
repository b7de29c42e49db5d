-- Up to the first boundary above the row's start nothing is added; from there on the voxel that is looked at takes the count to the next
-- thickness.
use Rattle.std.proofs.Common.{◌≡◌, ℕ, ◌+◌, ◌-◌, ◌*◌, ◌<◌, ◌≤◌, List, min, get_or, refl, sym, ap, ◌∙◌, arith, lt-ltb, le-ltb}
use Rattle.lists.proofs.Spans.{span_none, span_rest, span_set, span-keep, span-unread}
use Rattle.paper.specs.Layer.{column_of, IsColumn}
use Rattle.plate.specs.Datum.{at_row}
use Rattle.plate.specs.Settings.{Sound}
use Rattle.plate.specs.declared.settings.Settings.{Settings}
use Rattle.column.specs.Inside.{inside}
use Rattle.column.proofs.Inside.{inside-le}
use Rattle.near.specs.Caps.{greatest_cell, Allowing}
use Rattle.near.specs.Carried.{States}
use Rattle.near.specs.Facing.{Facing}
use Rattle.near.proofs.Facing.{inside-below, inside-carried}
use Rattle.table.proofs.Cells.{cell_in}
use Rattle.adding.specs.Adding.{addend}
use Rattle.adding.proofs.Near.{adds-before, adds-counted, adds-barred}
use Rattle.adding.proofs.add_row.Goals as goal
use Rattle.adding.proofs.add_row.Goals.{then-rows-j-lt4294967295, else-rows-j-lt4294967295}

-- a turn: one voxel more is looked at
module _ {s : Settings} (k : Sound s) {bs : List ℕ} (o : IsColumn s.height (column_of bs)) {row q first : ℕ} (f : Facing bs s.tmax row q first)
    {states : List ℕ} (w : States bs q (s.tmax - 1) states) {count j : ℕ} (e : count ≡ inside bs (at_row s.tmax row) j) (l : first ≤ j) (u : j < s.tmax) where
  counted : count + get_or states (j - first) 0 ≡ inside bs (at_row s.tmax row) (j + 1)
  counted = ap (λ (x : ℕ). x + get_or states (j - first) 0) e ∙ sym (inside-carried bs o.rising k.thick f w j l u)

  count-le : count + get_or states (j - first) 0 ≤ j + 1
  count-le = omega (arith, counted, inside-le bs (at_row s.tmax row) (j + 1))

  module _ {caps : List ℕ} (a : Allowing s.members s.tmax caps) where
    -- what is added where the cap says that the thickness is allowed
    more : get_or caps j 0 < greatest_cell
        → min (count + get_or states (j - first) 0) (j + 1 - (count + get_or states (j - first) 0)) ≡ addend s.members (column_of bs) (row * s.tmax + j)
    more h = adds-counted k o f j u _ counted (sym (a.are j u) ∙ lt-ltb _ greatest_cell h)

    -- and where it says that it is not
    nothing : greatest_cell ≤ get_or caps j 0 → addend s.members (column_of bs) (row * s.tmax + j) ≡ 0
    nothing h = adds-barred k o f j u (sym (a.are j u) ∙ le-ltb (get_or caps j 0) greatest_cell h)

pub loop-j-init : goal.loop-j-init
loop-j-init c =
    let a = c.args in
    let q = c.requires in
    let f = q.facing in
    let o = c.args.rows.is_column in
    record {
      count = c.inside_among-inside.ensures ∙ sym (inside-below a.rows.column.now o.rising c.args.rows.sound.thick f a.first (omega arith));
      rewritten = span_rest a.first (span_none (a.row * a.rows.s.tmax) _ a.table.now) (omega arith)
          (λ j u v. omega (arith, adds-before c.args.rows.sound o f j (omega (arith, f.near)) v));
    }

pub overflow_add-inside : goal.overflow_add-inside
overflow_add-inside c =
    let q = c.requires in
    let l = c.loop-j in
    omega (arith, count-le c.args.rows.sound c.args.rows.is_column q.facing q.states l.invariant.count l.auto.j (omega arith))

pub overflow_sub-j : goal.overflow_sub-j
overflow_sub-j c =
    let q = c.requires in
    let l = c.loop-j in
    count-le c.args.rows.sound c.args.rows.is_column q.facing q.states l.invariant.count l.auto.j (omega arith)

pub overflow_add-table : goal.overflow_add-table
overflow_add-table c =
    let q = c.requires in
    let l = c.loop-j in
    let m = more c.args.rows.sound c.args.rows.is_column q.facing q.states l.invariant.count l.auto.j (omega arith) c.args.rows.allowing c.if-rows-j-lt4294967295.true in
    omega (arith, span-unread l.invariant.rewritten (c.args.row * c.args.rows.s.tmax + l.j) refl, q.by_index l.j (omega arith), c.lesser.ensures ∙ m)

pub loop-j-preserved : goal.loop-j-preserved
loop-j-preserved c =
    let q = c.requires in
    let l = c.loop-j in
    let k = c.args.rows.sound in
    let u : l.j < c.args.rows.s.tmax = omega arith in
    record {
      count = counted k c.args.rows.is_column q.facing q.states l.invariant.count l.auto.j u;
      rewritten = elim c.if-rows-j-lt4294967295.branch [
        | then-rows-j-lt4294967295 w ↦
            let m = more k c.args.rows.is_column q.facing q.states l.invariant.count l.auto.j u c.args.rows.allowing w.if-rows-j-lt4294967295.true in
            rw w.table-is
            (span_set l.invariant.rewritten _ _ refl (omega (arith, cell_in k c.args.row (omega arith) l.j u, l.invariant.rewritten.long))
            (ap (λ (y : ℕ). get_or l.table (c.args.row * c.args.rows.s.tmax + l.j) 0 + y) (w.lesser.ensures ∙ m)))
        | else-rows-j-lt4294967295 w ↦
            let z = nothing k c.args.rows.is_column q.facing q.states l.invariant.count l.auto.j u c.args.rows.allowing (omega arith) in
            rw w.table-is (span-keep l.invariant.rewritten (omega (arith, z)))
      ];
    }
