-- `check_plan` meets its contract: the refusals of the settings, and then those of `check_rest`. Assumes nothing.
use Rattle.std.proofs.Common.{refl, sym}
use Rattle.plate.specs.Head.{head_checks}
use Rattle.plate.proofs.Calls.{handed-judges, judges-then, stopped}
use Rattle.plan.specs.Plan.{plan_rest}
use Rattle.plan.proofs.check_plan.Goals as goal

pub returns-in_err-s : goal.returns-in_err-s
returns-in_err-s c = handed-judges _ _ c.from_residual.ensures.1 _ _ _ (stopped c.in_err-s.ensures (plan_rest _ _ _ _) _ refl)

pub check_rest-requires : goal.check_rest-requires
check_rest-requires c = let g = c.in_ok-s.ensures.good _ refl in record { is = g.0; sound = g.1 }

pub returns : goal.returns
returns c = judges-then _ _ _ (head_checks c.args.head) (sym c.in_ok-s.ensures.says) c.check_rest.ensures
