-- Its numbers are the record's. Assumes nothing.
use Rattle.std.proofs.Common.{ℕ, [], ◌∷◌, ap, ◌∙◌}
use Rattle.record.specs.Written.{bytes_of, laid_at}
use Rattle.send.proofs.Records.{end-laid}
use Rattle.send.proofs.write_end.Goals as goal

pub returns : goal.returns
returns c =
    let a = c.args in
    c.write_numbers.ensures
    ∙ ap (λ (kind : ℕ). laid_at a.out.now a.at (bytes_of (2 ∷ kind ∷ a.rows ∷ []))) c.number.ensures
    ∙ end-laid a.rows a.at a.out.now c.requires.1
