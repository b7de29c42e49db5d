-- `greatest_of` meets its contract: a thickness that is a member is the greatest, since those above it are none. Assumes nothing.
use Rattle.std.proofs.Common.{◌-◌, refl, sym, ◌∙◌, arith}
use Rattle.paper.specs.Layer.{tmax}
use Rattle.paper.proofs.Thicknesses.{greatest-hit, greatest-miss, greatest-le}
use Rattle.plate.proofs.settings.greatest_of.Goals as goal

pub loop-t-init : goal.loop-t-init
unfolding tmax
loop-t-init c = refl

pub returns-then-is_allowed : goal.returns-then-is_allowed
returns-then-is_allowed c = sym (c.loop-t.invariant ∙ greatest-hit _ (c.loop-t.t - 1) (omega arith) (sym c.is_allowed.ensures ∙ c.if-is_allowed.true))

pub loop-t-preserved : goal.loop-t-preserved
loop-t-preserved c = c.loop-t.invariant ∙ greatest-miss _ (c.loop-t.t - 1) (omega arith) (sym c.is_allowed.ensures ∙ c.if-is_allowed.false)

pub returns : goal.returns
returns c = omega (arith, c.loop-t.invariant, greatest-le c.args.members (c.loop-t.t - 1))
