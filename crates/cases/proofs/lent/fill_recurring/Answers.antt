-- A mark that comes again is copied. Assumes nothing.
use Rattle.std.proofs.Common.{arith}
use Rattle.cases.proofs.Marks.{copied}
use Rattle.cases.proofs.lent.fill_recurring.Goals as goal

pub loop-i-2-preserved : goal.loop-i-2-preserved
loop-i-2-preserved g c =
    let l = c.loop-i-2 in
    copied g.T.Mark.mark g.met.T.Recurring.again c.args.output.now l.output l.i c.min-end.result c.index-output-i.result l.invariant (omega arith) c.loop-i-2-test.true (omega arith) c.index-output-i.is
