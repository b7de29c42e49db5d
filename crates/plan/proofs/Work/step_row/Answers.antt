-- `step_row` meets its contract: a thickness that is not permitted changes nothing. Assumes nothing.
use Rattle.std.proofs.Common.{arith}
use Rattle.sequence.proofs.BestTo.{kept}
use Rattle.plan.proofs.Rows.{via-forbidden, row_same}
use Rattle.plan.proofs.Work.step_row.Goals as goal

pub returns-else-may_use : goal.returns-else-may_use
returns-else-may_use c =
    let w = c.args.self.now in
    let n = c.requires.tmax_le_q in
    row_same w.settings _ _ w.ready c.requires.row_to
    (λ m. kept _ _ c.args.t m n.1 (λ i e. via-forbidden w.settings _ _ w.ready i c.args.q c.args.t _ (omega (arith, n)) c.may_use.ensures c.if-may_use.false))
