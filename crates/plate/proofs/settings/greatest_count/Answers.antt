-- `greatest_count` meets its contract: its two ways out are the two cases of M, and settings in order keep every number small. Assumes nothing.
use Rattle.std.proofs.Common.{◌≡◌, ℕ, ◌+◌, ◌-◌, ◌/◌, sym, ap, ◌∙◌, arith}
use Rattle.paper.specs.Sequence.{M}
use Rattle.paper.proofs.Counts.{counts-one, counts-more, counts-few}
use Rattle.paper.proofs.Thicknesses.{tmax-member, tmin-least}
use Rattle.plate.proofs.settings.greatest_count.Goals as goal

pub returns-then-height-eq1 : goal.returns-then-height-eq1
returns-then-height-eq1 c = (sym (counts-one _ _ c.if-height-eq1.true), omega arith)

pub nonzero_div-result : goal.nonzero_div-result
nonzero_div-result c = omega (arith, c.requires.least_value, (tmin-least _ _ (tmax-member _ c.requires.paper_settings.some-thickness)).0)

pub returns : goal.returns
returns c =
    let is : (c.args.height - 2) / c.args.least + 2 ≡ M c.args.height c.args.members =
    ap (λ (k : ℕ). (c.args.height - 2) / k + 2) c.requires.least_value ∙ sym (counts-more _ _ c.if-height-eq1.false) in
    (is, omega (arith, is, counts-few _ c.args.members c.requires.paper_settings.greatest-height))
