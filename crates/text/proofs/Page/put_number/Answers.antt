-- The digits that `put_number` puts are the number's.
use Rattle.std.proofs.Common.{List, ℕ, ap, ◌∙◌, arith}
use Rattle.text.specs.Page.{lay}
use Rattle.text.proofs.Digits.{decimal-is}
use Rattle.text.proofs.Page.put_number.Goals as goal

pub returns : goal.returns
returns c =
    let d = c.decimal-count.ensures in
    c.put_text.ensures ∙ ap (λ (t : List ℕ). lay t c.args.self.now) (d.digits ∙ decimal-is _ _ (omega arith) d.len)
