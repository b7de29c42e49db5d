-- The refusals of the settings, and then those of `check_rest`.
use Rattle.std.proofs.Common.{refl, sym}
use Rattle.plate.specs.Head.{head_checks}
use Rattle.plate.proofs.Calls.{handed-judges, judges-then, stopped}
use Rattle.adding.specs.Ordered.{order_checks}
use Rattle.adding.proofs.check_adding.Goals as goal

pub returns-in_err-s : goal.returns-in_err-s
unfolding order_checks
returns-in_err-s c = handed-judges _ _ c.from_residual.ensures.1 _ _ _ (stopped c.in_err-s.ensures _ _ refl)

pub check_rest-requires : goal.check_rest-requires
check_rest-requires c = let g = c.in_ok-s.ensures.good _ refl in record { is = g.0; sound = g.1 }

pub returns : goal.returns
unfolding order_checks
returns c = judges-then _ _ _ (head_checks c.args.head) (sym c.in_ok-s.ensures.says) c.check_rest.ensures
