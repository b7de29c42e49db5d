-- `put_file` meets its contract: the file's refusal, or the text of its job. Assumes nothing.
use Rattle.std.proofs.Common.{ℕ, List, refl, ap, ◌∙◌}
use Rattle.text.specs.Page.{lay}
use Rattle.report.proofs.Planned.{load-refused, load-done}
use Rattle.report.proofs.put_file.Goals as goal

pub returns-in-Err : goal.returns-in-Err
returns-in-Err c =
    c.put_refusal.ensures ∙ ap (λ (t : List ℕ). lay t c.args.page.now) (load-refused _ _ _ _ c.in-Err.ensures c.in-Err.refusal refl)

pub returns-in-Ok : goal.returns-in-Ok
returns-in-Ok c = c.put_load.ensures ∙ ap (λ (t : List ℕ). lay t c.args.page.now) (load-done _ _ _ _ c.in-Ok.ensures _ refl)
