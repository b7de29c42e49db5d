-- `recount` meets its contract: the refusals 1, 2, 3, 7, 6 of the table, and then 13 over the settings that were made. Assumes nothing.
use Rattle.std.proofs.Common.{refl}
use Rattle.plate.proofs.Calls.{handed-is}
use Rattle.recount.proofs.Answers.{bad, good}
use Rattle.recount.proofs.recount.Goals as goal

pub returns-in_err-settings : goal.returns-in_err-settings
returns-in_err-settings c = rw (handed-is _ _ c.from_residual.ensures.1) (bad _ _ _ c.in_err-settings.ensures _ refl)

pub invariant_of-bounded : goal.invariant_of-bounded
invariant_of-bounded c = record { sound = (c.in_ok-settings.ensures.good _ refl).1 }

pub returns : goal.returns
returns c = good _ _ _ c.in_ok-settings.ensures _ refl _ c.recount_sequence.ensures
