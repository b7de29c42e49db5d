-- `put_boundary` meets its contract: a space, and the boundary that it reads, which is an i32. Assumes nothing.
use borrow.Author.Rules.{rules}
use mathlib.Core.Path.{◌≡◌, ap, ◌∙◌}
use mir.Syntax.{w32}
use mir.ValLaws.{to_z-of_z}
use lib.IntN.{ℤ}
use Rattle.paper.specs.Sequence.{◌!◌}
use Rattle.text.specs.declared.Page.{Page}
use Rattle.text.specs.Page.{lay}
use Rattle.text.specs.Numbers.{signed}
use Rattle.text.proofs.Pages.{laid-onto}
use Rattle.report.specs.Lines.{space, boundary_text}
use Rattle.report.proofs.put_boundary.Goals as goal

-- the same text for the same number
same : (y z : ℤ) (k l : Page) → y ≡ z → l ≡ lay (signed y) k → l ≡ lay (signed z) k
same y z k l e f = f ∙ ap (λ (x : ℤ). lay (signed x) k) e

pub returns : goal.returns
unfolding boundary_text space
returns c =
    let a = c.args in
    laid-onto _ _ _ _ _ c.put_text.ensures
    (same _ _ _ _ (to_z-of_z w32 (a.sequence.now ! a.i) (search rules)) c.put_signed.ensures)
