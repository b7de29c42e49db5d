-- `start_row` meets its contract: a cleared row is filled, but for count 0, whose error is 0. Assumes nothing.
use Rattle.std.proofs.Common.{arith}
use Rattle.plan.proofs.Rows.{row_low}
use Rattle.plan.proofs.Work.start_row.Goals as goal

pub returns : goal.returns
returns c =
    let w = c.args.self.now in
    row_low w.settings _ _ w.ready c.args.q c.requires.0 c.clear_errors.ensures _ (omega (arith, c.entry_of-at.ensures.0))
    (omega (arith, c.entry_of-at.ensures.1, c.requires.1, c.clear_errors.ensures.long))
