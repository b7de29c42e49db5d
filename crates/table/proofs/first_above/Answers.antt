-- Where `any_out` finds nothing no row has a cell above its limit. The search goes by rows, and the first row that has one has the lowest.
use Rattle.std.proofs.Common.{◌≡◌, ◌*◌, sym, arith}
use Rattle.lists.proofs.Search.{lowest-none, row-missed, row-found}
use Rattle.table.proofs.Cells.{above-row, row_in, rows-within}
use Rattle.table.proofs.first_above.Goals as goal

pub returns-then-not-any_out : goal.returns-then-not-any_out
returns-then-not-any_out c =
    let k = c.requires.sound in
    lowest-none _ _ (λ i u. rows-within _ _ _ _ (omega (arith, k.thin, k.order)) (c.any_out.ensures c.if-not-any_out.true) i (omega (arith, k.cells_are)))

pub returns-in-Some : goal.returns-in-Some
returns-in-Some c =
    let l = c.loop-row in
    let i = row_in c.requires.sound l.row c.loop-row-test.true in
    let e = row-found _ _ _ l.invariant _ (λ j u. above-row _ _ _ l.row j u) _ (sym c.in-Some.ensures.0) _ i c.in-Some.ensures.1 in
    (sym e, omega (arith, i, c.in-Some.ensures.1))

pub returns : goal.returns
returns c =
    let e : c.loop-row.row ≡ c.args.s.rows = omega arith in
    let n : c.args.s.cells ≡ c.loop-row.row * c.args.s.tmax = rw e c.requires.sound.cells_are in
    rw n (lowest-none _ _ c.loop-row.invariant)

pub loop-row-preserved : goal.loop-row-preserved
loop-row-preserved c =
    let l = c.loop-row in
    λ i u. row-missed _ _ _ l.invariant _ (λ j v. above-row _ _ _ l.row j v) _ (sym c.in_default.ensures) (omega arith) i (omega arith)
