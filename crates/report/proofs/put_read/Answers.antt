-- `put_read` meets its contract: the sequence that was read back, or `none`. Assumes nothing.
use Rattle.std.proofs.Common.{ℕ, List, refl, ap, ◌∙◌}
use Rattle.text.specs.Page.{lay}
use Rattle.report.proofs.Read.{read_done, read_none}
use Rattle.report.proofs.put_read.Goals as goal

pub returns-in-Ok : goal.returns-in-Ok
returns-in-Ok c =
    c.put_sequence.ensures ∙ ap (λ (t : List ℕ). lay t c.args.page.now) (read_done _ _ _ _ _ _ _ _ c.in-Ok.ensures _ refl)

pub returns-in-Err : goal.returns-in-Err
returns-in-Err c =
    c.put_none.ensures ∙ ap (λ (t : List ℕ). lay t c.args.page.now) (read_none _ _ _ _ _ _ _ _ c.in-Err.ensures _ refl)
