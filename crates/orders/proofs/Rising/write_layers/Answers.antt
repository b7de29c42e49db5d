-- `write_layers` meets its contract: each turn stores the next layer behind those that are stored. Assumes nothing.
use Rattle.std.proofs.Common.{refl, sym, ap, ap₂, ◌∙◌, ℕ, ◌*◌, nat_abs, ◌-ℤ◌, add-one}
use Rattle.std.proofs.lemmas.List.Edits.{sets}
use Rattle.paper.specs.Sequence.{◌!◌}
use Rattle.printed.specs.Possible.{cure_of}
use Rattle.printed.specs.Paper.{layers_to}
use Rattle.printed.specs.Bytes.{bytes_of}
use Rattle.orders.specs.Layer.{height_bits, cure_bits}
use Rattle.orders.specs.Written.{record_bytes}
use Rattle.orders.proofs.Records.{layer_bytes, layer-stored}
use Rattle.orders.proofs.Rising.write_layers.Goals as goal

pub loop-k-preserved : goal.loop-k-preserved
loop-k-preserved c =
    let a = c.args in
    let l = c.loop-k in
    let zs = a.self.now.boundaries.now in
    let up_to = λ (j : ℕ). ap (λ (i : ℕ). nat_abs (zs ! i -ℤ zs ! j)) (add-one l.k) in
    let entry = c.entry_of.ensures ∙ ap (cure_of a.cure.now) (c.distance-t.ensures.0 ∙ up_to l.k) in
    c.write_layer.ensures
    ∙ ap₂ (λ (x y : ℕ). sets l.out (16 * l.k) (layer_bytes (height_bits a.step x) (cure_bits y))) (c.distance-rise.ensures.0 ∙ up_to 0) entry
    ∙ layer-stored a.step a.cure.now zs a.out.now l.out l.k (16 * l.k) l.invariant refl
    ∙ ap (λ (n : ℕ). sets a.out.now 0 (bytes_of (record_bytes a.step) (layers_to a.cure.now zs n))) (sym (add-one l.k))
