-- `distance` meets its contract: both boundaries lie over the datum, and the one above the other. Assumes nothing.
use Rattle.std.proofs.Common.{rules, ◌≡◌, sym, ap₂, ◌∙◌, ℕ, ◌-◌, ◌≤◌, ◌<◌, List, length, ℤ, nat_abs, ◌-ℤ◌, w32, arith}
use mir.Val.{SFits}
use Rattle.paper.specs.Sequence.{◌!◌, count}
use Rattle.plate.specs.Datum.{datum}
use Rattle.plate.proofs.Signed.{datum-back}
use Rattle.orders.specs.Parts.{Climbs}
use Rattle.orders.proofs.Sequences.{layers-are, rises-to, distance_is}
use Rattle.orders.proofs.Rising.distance.Goals as goal

module _ (zs : List ℤ) (climbs : Climbs zs) (from to : ℕ) (l : from < to) (u : to < length zs) (upper lower : ℕ) (is : upper ≡ datum (zs ! to)) (below : lower ≡ datum (zs ! from)) where
  there : to ≤ count zs
  there = omega (arith, layers-are zs climbs)

  apart : lower < upper
  apart = omega (arith, is, below, rises-to zs climbs from to l there)

  measured : (upper - lower ≡ nat_abs (zs ! to -ℤ zs ! from)) × (1 ≤ upper - lower) × (upper - lower < 1024)
  measured =
      let w = climbs.within to there in
      (ap₂ ◌-◌ is below ∙ sym (distance_is zs climbs from to l there), omega (arith, apart), omega (arith, is, w.1))

pub overflow_sub-result : goal.overflow_sub-result
overflow_sub-result c =
    let a = c.args in
    let f : SFits w32 (a.self.now.boundaries.now ! a.to) = search rules in
    let g : SFits w32 (a.self.now.boundaries.now ! a.from) = search rules in
    let r = c.requires in
    omega (arith, apart _ a.self.now.climbs a.from a.to r.0 r.1 _ _ (c.datum_of.ensures ∙ datum-back _ f) (c.datum_of-2.ensures ∙ datum-back _ g))

pub returns : goal.returns
returns c =
    let a = c.args in
    let f : SFits w32 (a.self.now.boundaries.now ! a.to) = search rules in
    let g : SFits w32 (a.self.now.boundaries.now ! a.from) = search rules in
    let r = c.requires in
    measured _ a.self.now.climbs a.from a.to r.0 r.1 _ _ (c.datum_of.ensures ∙ datum-back _ f) (c.datum_of-2.ensures ∙ datum-back _ g)
