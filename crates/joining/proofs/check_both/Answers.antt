-- The checks of the settings, and then those of `check_rest`.
use Rattle.std.proofs.Common.{sym, refl}
use Rattle.plate.specs.Head.{SettingsFor}
use Rattle.plate.proofs.Calls.{handed-judges, judges-then, stopped}
use Rattle.joining.specs.Joining.{pair_checks, both_checks}
use Rattle.joining.proofs.Passed.{pair-passed}
use Rattle.joining.proofs.check_both.Goals as goal

pub returns-in_err-s : goal.returns-in_err-s
unfolding both_checks
returns-in_err-s c = handed-judges _ _ c.from_residual.ensures.1 _ _ _ (stopped c.in_err-s.ensures _ _ refl)

pub check_rest-requires-clause-settings_for : goal.check_rest-requires-clause-settings_for
check_rest-requires-clause-settings_for c =
    let g = c.in_ok-s.ensures.good _ refl in
    let k : SettingsFor c.args.held.head c.in_ok-s.s = record { is = g.0; sound = g.1 } in
    (k, pair-passed c.args.held.head c.args.other.head k c.in_ok-s.ensures.says)

pub returns : goal.returns
unfolding both_checks
returns c = judges-then _ _ _ (pair_checks c.args.held.head c.args.other.head) (sym c.in_ok-s.ensures.says) c.check_rest.ensures
