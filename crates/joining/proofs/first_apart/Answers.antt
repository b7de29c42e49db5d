-- The search goes by rows, and the first row that has such a difference has the lowest.
use Rattle.std.proofs.Common.{◌≡◌, ◌*◌, sym, arith}
use Rattle.lists.proofs.Search.{lowest-none, row-missed, row-found}
use Rattle.table.proofs.Cells.{row_in}
use Rattle.joining.proofs.Parts.{apart-row}
use Rattle.joining.proofs.first_apart.Goals as goal

pub returns-in-Some : goal.returns-in-Some
returns-in-Some c =
    let l = c.loop-row in
    let i = row_in c.requires.sound l.row c.loop-row-test.true in
    let e = row-found _ _ _ l.invariant _ (λ j u. apart-row _ _ _ _ l.row j u) _ (sym c.in-Some.ensures.0) _ i c.in-Some.ensures.1 in
    (sym e, omega (arith, i, c.in-Some.ensures.1))

pub returns : goal.returns
returns c =
    let e : c.loop-row.row ≡ c.args.s.rows = omega arith in
    let n : c.args.s.cells ≡ c.loop-row.row * c.args.s.tmax = rw e c.requires.sound.cells_are in
    rw n (lowest-none _ _ c.loop-row.invariant)

pub loop-row-preserved : goal.loop-row-preserved
loop-row-preserved c =
    let l = c.loop-row in
    λ i u. row-missed _ _ _ l.invariant _ (λ j v. apart-row _ _ _ _ l.row j v) _ (sym c.in_default.ensures) (omega arith) i (omega arith)
