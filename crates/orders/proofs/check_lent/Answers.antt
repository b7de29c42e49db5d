-- `check_lent` meets its contract: the settings' checks, the step's, and the list's length. Assumes nothing.
use Rattle.plate.proofs.Calls.{handed-judges}
use Rattle.orders.proofs.Lent.{unsettled, unstepped, unlisted, lent}
use Rattle.orders.proofs.check_lent.Goals as goal

pub returns-in_err-s : goal.returns-in_err-s
returns-in_err-s c = handed-judges _ _ c.from_residual.ensures.1 _ _ _ (unsettled _ _ _ _ _ c.in_err-s.ensures.says)

pub returns-in_err-check_step : goal.returns-in_err-check_step
returns-in_err-check_step c =
    handed-judges _ _ c.from_residual-in_err-check_step.ensures.1 _ _ _ (unstepped _ _ _ _ c.in_ok-s.ensures _ c.in_err-check_step.ensures)

pub returns-then-cure-s : goal.returns-then-cure-s
returns-then-cure-s c = unlisted _ _ _ _ c.in_ok-s.ensures c.in_ok-check_step.ensures _ c.refusal_at.ensures c.if-cure-s.true

pub returns : goal.returns
returns c = lent _ _ _ _ c.in_ok-s.ensures c.in_ok-check_step.ensures c.if-cure-s.false
