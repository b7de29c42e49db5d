-- It stores the numbers exactly where there is room for them. Assumes nothing.
use Rattle.std.proofs.Common.{sym, ◌∙◌, arith}
use Rattle.record.specs.Written.{spelled}
use Rattle.record.proofs.Spelled.{length-spelled}
use Rattle.record.proofs.Stores.{laid, unlaid}
use Rattle.record.proofs.write_all.Goals as goal
use Rattle.record.proofs.write_all.Goals.{then-out-at-via-then-out-at, then-out-at-via-else-out-at+then-out-at-2}

pub returns-then-out-at : goal.returns-then-out-at
returns-then-out-at g c =
    let a = c.args in
    let bytes = g.T.Stored.bytes in
    let long = length-spelled bytes g.row.N g.met.T.Stored.long a.numbers.now in
    sym (unlaid a.out.now a.at (spelled bytes a.numbers.now)
    (elim c.then-out-at.branch [ then-out-at-via-then-out-at w ↦ omega (arith, w.if-out-at.true) | then-out-at-via-else-out-at+then-out-at-2 w ↦ omega (arith, w.saturating_mul.ensures, w.if-out-at-2.true) ]))

pub returns : goal.returns
returns g c =
    let a = c.args in
    let bytes = g.T.Stored.bytes in
    let long = length-spelled bytes g.row.N g.met.T.Stored.long a.numbers.now in
    c.store_all.ensures ∙ sym (laid a.out.now a.at (spelled bytes a.numbers.now) (omega (arith, c.saturating_mul.ensures, c.if-out-at.false, c.if-out-at-2.false)))
