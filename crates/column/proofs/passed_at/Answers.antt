-- One boundary goes over from what is still to be counted to what is counted. Assumes nothing.
use Rattle.std.proofs.Common.{◌≡◌, ℕ, ◌+◌, ◌≤◌, ◌∙◌, ap, get_or, arith}
use mir.Val.{bool_byte}
use Rattle.column.specs.Inside.{reached_by, passed}
use Rattle.column.proofs.Inside.{passed-more, passed-end, reached-counts, reached-le}
use Rattle.column.proofs.passed_at.Goals as goal

pub loop-b-preserved : goal.loop-b-preserved
loop-b-preserved c =
    let a = c.args in
    let i = c.loop-b.b-index in
    let more = passed-more a.column.now a.h i c.loop-b-test.true in
    let one : c.from-n.result ≡ reached_by (get_or a.column.now i 0) a.h = c.from-n.ensures ∙ ap bool_byte c.is_reached.ensures ∙ reached-counts (get_or a.column.now i 0) a.h in
    (omega (arith, more, one, c.loop-b.invariant.0), omega (arith, one, reached-le (get_or a.column.now i 0) a.h, c.loop-b.invariant.1))

pub returns : goal.returns
returns c = omega (arith, passed-end c.args.column.now c.args.h c.loop-b.b-index c.loop-b-test.false, c.loop-b.invariant.0)
