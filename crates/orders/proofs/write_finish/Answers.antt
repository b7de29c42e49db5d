-- `write_finish` meets its contract: its numbers are the record's. Assumes nothing.
use Rattle.std.proofs.Common.{ℕ, [], ◌∷◌, ap, ◌∙◌}
use Rattle.record.specs.Written.{bytes_of, laid_at}
use Rattle.orders.proofs.Records.{finish-laid}
use Rattle.orders.proofs.write_finish.Goals as goal

pub returns : goal.returns
returns c =
    c.write_numbers.ensures
    ∙ ap (λ (n : ℕ). laid_at c.args.out.now c.args.at (bytes_of (2 ∷ n ∷ c.args.layers ∷ []))) c.number.ensures
    ∙ finish-laid c.args.layers c.args.at c.args.out.now c.requires.1
