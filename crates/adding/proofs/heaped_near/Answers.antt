-- The first row that has such a cell has the lowest.
use Rattle.std.proofs.Common.{sym, arith}
use Rattle.lists.proofs.Search.{row-missed, row-found}
use Rattle.table.proofs.Cells.{row_in}
use Rattle.adding.proofs.Addends.{heaped-row}
use Rattle.adding.proofs.heaped_near.Goals as goal

pub returns-in-Some : goal.returns-in-Some
returns-in-Some c =
    let l = c.loop-row in
    let i = row_in c.args.rows.sound l.row (omega arith) in
    let e = row-found _ _ _ l.invariant _ (λ j u. heaped-row _ _ _ _ _ l.row j u) _ (sym c.in-Some.ensures.0) _ i c.in-Some.ensures.1 in
    (sym e, omega (arith, i, c.in-Some.ensures.1))

pub loop-row-preserved : goal.loop-row-preserved
loop-row-preserved c =
    let l = c.loop-row in
    λ i u. row-missed _ _ _ l.invariant _ (λ j v. heaped-row _ _ _ _ _ l.row j v) _ (sym c.in_default.ensures) (omega arith) i (omega arith)
