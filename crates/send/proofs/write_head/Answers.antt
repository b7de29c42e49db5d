-- Its numbers are the record's. Assumes nothing.
use Rattle.std.proofs.Common.{ℕ, ◌/◌, ◌%◌, [], ◌∷◌, ap, ◌∙◌}
use Rattle.record.specs.Written.{bytes_of, laid_at}
use Rattle.send.proofs.Records.{head-laid}
use Rattle.send.proofs.write_head.Goals as goal

pub returns : goal.returns
returns c =
    let a = c.args in
    let h = a.head in
    c.write_numbers.ensures
    ∙ ap (λ (kind : ℕ). laid_at a.out.now 0 (bytes_of (10 ∷ kind ∷ h.height ∷ h.members % 65536 ∷ h.members / 65536 ∷ h.columns % 65536 ∷ h.columns / 65536 ∷ []))) c.number.ensures
    ∙ head-laid h a.out.now c.requires.1
