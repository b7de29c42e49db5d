-- A turn rewrites one row.
use Rattle.std.proofs.Common.{ℕ, ◌+◌, ◌*◌, ◌≤◌, get_or, ap, arith}
use Rattle.lists.proofs.Spans.{span-as, span_more, span-end}
use Rattle.paper.specs.Layer.{column_of}
use Rattle.adding.specs.Adding.{addend}
use Rattle.adding.proofs.Near.{rows-le}
use Rattle.adding.proofs.add_near.Goals as goal

pub loop-row-preserved : goal.loop-row-preserved
loop-row-preserved c =
    let a = c.args in
    let l = c.loop-row in
    let under : a.from * a.rows.s.tmax ≤ l.row * a.rows.s.tmax = rows-le _ _ _ l.auto.row in
    span-end _
    (span_more (l.row * a.rows.s.tmax) a.rows.s.tmax (omega (arith, under)) l.invariant
    (span-as c.add_row.ensures _ (λ j u. ap (λ (i : ℕ). get_or l.table (l.row * a.rows.s.tmax + j) 0 + addend a.rows.s.members (column_of a.rows.column.now) i) (omega (arith, under)))))
    (omega (arith, under)) (omega (arith, under))
