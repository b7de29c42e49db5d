-- What was found is the first colon. Assumes nothing.
use Rattle.std.proofs.Common.{ℕ, ap, ◌∙◌, take}
use Rattle.cases.proofs.Parts.{part-front, colon-is}
use Rattle.cases.proofs.line.label.Goals as goal

pub returns : goal.returns
returns c =
    let f = c.find.ensures in
    c.part.ensures
    ∙ part-front _ _
    ∙ ap (λ (n : ℕ). take n c.args.line.now) (colon-is c.args.line.now c.find.result f.lower_bound.1 f.result_value f.by_index)
