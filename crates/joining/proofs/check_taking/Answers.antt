-- The checks of both tables, and then those of `check_part`.
use Rattle.std.proofs.Common.{◌≡◌, Bool, sym, refl, ap₂, ◌||◌, subst}
use Rattle.plate.specs.Head.{Held, is_over, either_over, SettingsFor}
use Rattle.plate.specs.Settings.{Judges}
use Rattle.plate.specs.declared.refusal.Refusal.{Refusal}
use Rattle.plate.specs.declared.settings.Settings.{Settings}
use Rattle.plate.proofs.Calls.{handed-judges, judges-then, stopped}
use Rattle.std.specs.Prelude.{Result}
use Rattle.joining.specs.Handed.{seen}
use Rattle.joining.specs.Joining.{both_checks, taking}
use Rattle.joining.proofs.Passed.{both-passed}
use Rattle.joining.proofs.check_taking.Goals as goal

-- 7 for either count
either : (held other : Held) {one two : Bool} {made : Result Settings Refusal} → one ≡ is_over held.head → two ≡ is_over other.head
    → Judges made (both_checks (one || two) held other) held.head.height held.head.members
    → Judges made (both_checks (either_over held.head other.head) held other) held.head.height held.head.members
either held other {one} {two} {made} e f j =
    subst (λ (b : Bool). Judges made (both_checks b held other) held.head.height held.head.members) (ap₂ ◌||◌ e f) j

pub returns-in_err-s : goal.returns-in_err-s
unfolding taking
returns-in_err-s c =
    let j = either (seen c.args.held) (seen c.args.other) c.is_over.ensures c.is_over-2.ensures c.in_err-s.ensures in
    handed-judges _ _ c.from_residual.ensures.1 _ _ _ (stopped j _ _ refl)

pub check_part-requires-clause-settings_for : goal.check_part-requires-clause-settings_for
check_part-requires-clause-settings_for c = let g = c.in_ok-s.ensures.good _ refl in record { is = g.0; sound = g.1 }

pub check_part-requires-clause-pair_in_order : goal.check_part-requires-clause-pair_in_order
check_part-requires-clause-pair_in_order c =
    let j = either (seen c.args.held) (seen c.args.other) c.is_over.ensures c.is_over-2.ensures c.in_ok-s.ensures in
    let g = j.good _ refl in
    let k : SettingsFor c.args.held.head c.in_ok-s.s = record { is = g.0; sound = g.1 } in
    both-passed _ (seen c.args.held) (seen c.args.other) k (λ e. e) j.says

pub returns : goal.returns
unfolding taking
returns c =
    let j = either (seen c.args.held) (seen c.args.other) c.is_over.ensures c.is_over-2.ensures c.in_ok-s.ensures in
    judges-then _ _ _ (both_checks _ (seen c.args.held) (seen c.args.other)) (sym j.says) c.check_part.ensures
