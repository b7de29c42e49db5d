-- `plan` meets its contract: the refusals of `check_plan`, or the sheets and the list are filled. Assumes nothing.
use Rattle.std.proofs.Common.{◌≡◌, ℕ, length, refl, subst, Err}
use mathlib.Core.Option.{none}
use Rattle.lists.specs.Checks.{first}
use Rattle.plate.specs.Call.{Does}
use Rattle.plate.specs.Head.{Held, held_in, SettingsFor}
use Rattle.plate.specs.Refusal.{done, refusal}
use Rattle.plate.specs.Settings.{Judges}
use Rattle.plate.specs.declared.refusal.Refusal.{Refusal}
use Rattle.plate.specs.declared.settings.Settings.{Settings}
use Rattle.plate.proofs.Calls.{handed-is, judged-bad, works}
use Rattle.plan.specs.Plan.{Sheets, sheets_of, plan_checks, planned, planning, Plannable}
use Rattle.plan.proofs.Listing.{planned-is}
use Rattle.plan.proofs.Passed.{counts-for, plan-passed}
use Rattle.plan.proofs.plan.Goals as goal
use Rattle.plan.proofs.plan.Goals.{In_ok-settings}
use Rattle.std.specs.Prelude.{Result}

module _ (held : Held) (bound : ℕ) (lent : Sheets) where
  abbrev checked : Result Settings Refusal → Type 0
  checked made = Judges made (plan_checks held (length lent.errors) (length lent.thicknesses) (length lent.leasts)) held.head.height held.head.members

  bad : {made : Result Settings Refusal} → checked made → (r : Refusal) → made ≡ Err r → Does (planning held bound lent) (refusal r) lent
  unfolding planning
  bad j r e = judged-bad (planning held bound lent) j r e

  good : (s : Settings) → SettingsFor held.head s → none ≡ first (plan_checks held (length lent.errors) (length lent.thicknesses) (length lent.leasts))
      → (left : Sheets) → left ≡ planned s.height s.members bound held.buffer lent → Does (planning held bound lent) (done s.counts) left
  unfolding planning
  good s k e left w =
      works (planning held bound lent) s.counts left e (counts-for k)
      (subst (λ (s : Settings). left ≡ planned s.height s.members bound held.buffer lent) k.is w)

-- past the checks
module _ (c : In_ok-settings) where
  abbrev held : Held
  held = held_in c.args.head c.args.table.now

  for : SettingsFor c.args.head c.in_ok-settings.settings
  for = let g = c.in_ok-settings.ensures.good _ refl in record { is = g.0; sound = g.1 }

  passed : Plannable held (length c.args.errors.now) (length c.args.thicknesses.now) (length c.args.list.now) c.in_ok-settings.settings
  passed = plan-passed held _ _ _ for c.in_ok-settings.ensures.says

pub returns-in_err-settings : goal.returns-in_err-settings
returns-in_err-settings c =
    let a = c.args in
    rw (handed-is _ _ c.from_residual.ensures.1)
    (bad (held_in a.head a.table.now) a.bound (sheets_of a.errors.now a.thicknesses.now a.list.now) c.in_err-settings.ensures _ refl)

pub invariant_of-work : goal.invariant_of-work
invariant_of-work c = record { ready = (passed (goal.at.invariant_of-work c).In_ok-settings).ready }

pub fill_sheets-requires : goal.fill_sheets-requires
fill_sheets-requires c = let p = passed (goal.at.fill_sheets-requires c).In_ok-settings in (p.errors-whole, p.thicknesses-whole)

pub fill_list-requires-clause-planned : goal.fill_list-requires-clause-planned
fill_list-requires-clause-planned c =
    let p = passed (goal.at.fill_list-requires-clause-planned c).In_ok-settings in
    planned-is c.in_ok-settings.settings _ _ p.ready _ _ p.errors-whole c.fill_sheets.ensures.errors_after

pub fill_list-requires-clause-has_room : goal.fill_list-requires-clause-has_room
fill_list-requires-clause-has_room c = (passed (goal.at.fill_list-requires-clause-has_room c).In_ok-settings).leasts-whole

pub returns : goal.returns
returns c =
    let a = c.args in
    let w = c.fill_sheets.ensures in
    good (held_in a.head a.table.now) a.bound (sheets_of a.errors.now a.thicknesses.now a.list.now) c.in_ok-settings.settings (for (goal.at.returns c).In_ok-settings)
    c.in_ok-settings.ensures.says _ (λ i. sheets_of (w.errors_after i) (w.thicknesses_after i) (c.fill_list.ensures i))
