-- `put_plan` meets its contract: the plan's refusal, or the lines from its sheets. Assumes nothing.
use Rattle.std.proofs.Common.{ℕ, List, refl, ap, ◌∙◌, arith}
use Rattle.text.specs.Page.{lay}
use Rattle.report.proofs.Planned.{plan-refused, plan-done, counted}
use Rattle.report.proofs.put_plan.Goals as goal

pub overflow_cast-counts : goal.overflow_cast-counts
overflow_cast-counts c = record { fits = omega (arith, counted _ _ _ _ _ c.in-Ok.ensures _ refl, c.requires) }

pub put_sheets-requires : goal.put_sheets-requires
put_sheets-requires c = omega (arith, counted _ _ _ _ _ c.in-Ok.ensures _ refl, c.requires)

pub returns-in-Err : goal.returns-in-Err
returns-in-Err c =
    c.put_refusal.ensures ∙ ap (λ (t : List ℕ). lay t c.args.page.now) (plan-refused _ _ _ _ _ c.in-Err.ensures c.in-Err.refusal refl)

pub returns-in-Ok : goal.returns-in-Ok
returns-in-Ok c = c.put_sheets.ensures ∙ ap (λ (t : List ℕ). lay t c.args.page.now) (plan-done _ _ _ _ _ c.in-Ok.ensures _ refl)
