-- `is_uncured` meets its contract: how far apart a layer's two boundaries are is its thickness. Assumes nothing.
use Rattle.std.proofs.Common.{ap, ◌∙◌, ℕ, eqb, nat_abs, ◌-ℤ◌, add-one}
use Rattle.paper.specs.Sequence.{◌!◌}
use Rattle.printed.specs.Possible.{cure_of}
use Rattle.orders.proofs.Rising.is_uncured.Goals as goal

pub returns : goal.returns
returns c =
    let a = c.args in
    let zs = a.self.now.boundaries.now in
    let thick = c.distance.ensures.0 ∙ ap (λ (i : ℕ). nat_abs (zs ! i -ℤ zs ! a.k)) (add-one a.k) in
    ap (λ (x : ℕ). eqb x 0) (c.entry_of.ensures ∙ ap (cure_of a.cure.now) thick)
