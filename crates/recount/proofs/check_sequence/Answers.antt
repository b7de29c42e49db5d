-- `check_sequence` meets its contract: the refusals 1 and 2, and then what recounting over no columns with the largest bound is refused by.
-- Assumes nothing.
use Rattle.std.proofs.Common.{refl}
use Rattle.plate.proofs.Calls.{handed-is}
use Rattle.recount.proofs.Answers.{unsettled, unbounded-out, unbounded-in}
use Rattle.recount.proofs.check_sequence.Goals as goal

pub returns-in_err-settings : goal.returns-in_err-settings
returns-in_err-settings c = rw (handed-is _ _ c.from_residual.ensures.1) (unsettled _ _ _ c.in_err-settings.ensures _ refl)

pub invariant_of-unbounded : goal.invariant_of-unbounded
invariant_of-unbounded c = record { sound = (c.in_ok-settings.ensures.good _ refl).1 }

pub returns-in_err-recount_sequence : goal.returns-in_err-recount_sequence
returns-in_err-recount_sequence c =
    rw (handed-is _ _ c.from_residual-in_err-recount_sequence.ensures.1) (unbounded-out _ _ _ c.in_ok-settings.ensures _ refl _ c.in_err-recount_sequence.ensures)

pub returns : goal.returns
returns c = unbounded-in _ _ _ c.in_ok-settings.ensures _ refl _ c.in_ok-recount_sequence.ensures
