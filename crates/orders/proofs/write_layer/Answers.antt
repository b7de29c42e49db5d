-- `write_layer` meets its contract: its numbers are those of the two records. Assumes nothing.
use Rattle.std.proofs.Common.{ℕ, [], ◌∷◌, ◌%◌, ◌/◌, ap₂, ◌∙◌}
use Rattle.std.proofs.lemmas.List.Edits.{sets}
use Rattle.record.specs.Written.{bytes_of, laid_at}
use Rattle.orders.proofs.Records.{layer_bytes, layer-laid}
use Rattle.orders.proofs.write_layer.Goals as goal

pub returns : goal.returns
returns c =
    let lift = c.height_bits-lift.result in
    let time = c.cure_bits-time.result in
    c.write_numbers.ensures
    ∙ ap₂ (λ (l t : ℕ). laid_at c.args.out.now c.args.at (bytes_of (4 ∷ l ∷ lift % 65536 ∷ lift / 65536 ∷ 4 ∷ t ∷ time % 65536 ∷ time / 65536 ∷ []))) c.number.ensures c.number-2.ensures
    ∙ layer-laid lift time c.args.at c.args.out.now c.requires.at_in_bounds
    ∙ ap₂ (λ (x y : ℕ). sets c.args.out.now c.args.at (layer_bytes x y)) c.height_bits-lift.ensures c.cure_bits-time.ensures
