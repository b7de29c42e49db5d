-- A row that is passed over has no share.
use Rattle.std.proofs.Common.{arith}
use Rattle.lists.proofs.Search.{lowest-none}
use Rattle.adding.proofs.Near.{calm-skip, calm-end, none-calm}
use Rattle.adding.proofs.first_heaped.Goals as goal

pub heaped_near-requires-clause-before : goal.heaped_near-requires-clause-before
heaped_near-requires-clause-before c =
    let a = c.args in
    let k = c.args.rows.sound in
    let o = c.args.rows.is_column in
    let l = c.loop-k in
    none-calm k o a.rows.caps.now a.table.now l.row c.later-from.result
    (calm-skip k o l.invariant.reached c.later-from.result c.boundary_at-boundary.result c.boundary_at-boundary.ensures.0 c.later-from.ensures) l.invariant.none

pub returns : goal.returns
returns c =
    let a = c.args in
    let k = c.args.rows.sound in
    let o = c.args.rows.is_column in
    let l = c.loop-k in
    let none = none-calm k o a.rows.caps.now a.table.now l.row a.rows.s.rows (λ r u v. calm-end k o (omega arith) l.invariant.reached r u) l.invariant.none in
    lowest-none _ _ (λ i u. none i (omega (arith, k.cells_are)))
