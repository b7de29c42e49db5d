-- The digits that are put are the byte's two. Assumes nothing.
use Rattle.std.proofs.Common.{List, ℕ, ap, ◌∙◌, arith}
use Rattle.text.specs.Page.{lay}
use Rattle.cases.proofs.Texts.{two-digits}
use Rattle.cases.proofs.show.byte.Goals as goal

pub returns : goal.returns
returns c =
    let d = c.hex-count.ensures in
    c.put_text.ensures ∙ ap (λ (t : List ℕ). lay t c.args.page.now) (d.digits ∙ two-digits _ _ _ c.wide.ensures (omega arith) d.len)
