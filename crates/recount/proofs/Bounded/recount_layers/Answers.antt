-- `recount_layers` meets its contract: none of the layers so far is out (`Invariants.antt`). Past the layers two tests are left, both of index n.
-- Assumes nothing.
use Rattle.std.proofs.Common.{◌≡◌, ℕ, ◌-◌, length, arith, refl, sym, ap, ◌∙◌, below_none, below_more}
use Rattle.paper.specs.Sequence.{◌!◌}
use Rattle.plate.specs.Datum.{datum}
use Rattle.plate.specs.Refusal.{refusal, refused}
use Rattle.plate.specs.declared.refusal.Refusal.{Refusal}
use Rattle.sequence.proofs.Layers.{start-from, start-to}
use Rattle.recount.proofs.Layers.{layer-between, one_more}
use Rattle.recount.proofs.Answers.{out-layer, before-last-high, ends_low, admissible}
use Rattle.recount.proofs.Bounded.recount_layers.Goals as goal
use Rattle.recount.proofs.Bounded.recount_layers.Goals.{then-end-datum_at-via-then-end-datum_at, then-end-datum_at-via-else-end-datum_at+then-below-end}

pub loop-k-init : goal.loop-k-init
loop-k-init c =
    let from = start-from _ _ c.requires.starts-in in
    let to = start-to _ _ c.requires.starts-in in
    let s = c.args.self.now.sound in
    let d = c.datum_at-below.ensures.0 in
    record {
      climbs = omega (arith, s.greatest, s.thick);
      over = omega (arith, s.greatest);
      low = omega (arith, s.low);
      small = omega arith;
      reached = d;
      fine = below_none _;
      summed = refl;
    }

pub returns-in_default : goal.returns-in_default
returns-in_default c =
    let s = c.args.self.now.sound in
    let l = c.loop-k.invariant in
    let between = layer-between s _ _ _ _ _ _ l.reached c.datum_at-above.ensures.0 (omega arith) in
    ap (λ (r : Refusal). refusal r) c.refusal_at.ensures
    ∙ out-layer _ _ _ _ _ c.requires.layered c.requires.starts-in c.requires.first_above c.loop-k.k l.fine (omega arith) (between ∙ c.in_default.ensures)

pub loop-k-preserved : goal.loop-k-preserved
loop-k-preserved c =
    let s = c.args.self.now.sound in
    let l = c.loop-k.invariant in
    let t = c.in-Some.ensures in
    let above = c.datum_at-above.ensures.0 in
    record {
      climbs = omega (arith, t.rises);
      over = omega (arith, t.rises);
      low = omega (arith, t.ends, s.greatest);
      small = omega (arith, t.small);
      reached = above;
      fine = below_more _ _ l.fine (layer-between s _ _ _ _ _ _ l.reached above (omega arith) ∙ t.admissible);
      summed = one_more s _ _ c.args.sequence.now c.loop-k.k _ _ l.reached above (omega arith) _ _ t l.summed;
    }

pub returns-then-end-datum_at : goal.returns-then-end-datum_at
returns-then-end-datum_at c =
    let r = c.requires in
    let l = c.loop-k.invariant in
    let all : c.loop-k.k ≡ length c.args.sequence.now - 1 = omega arith in
    let before_last : c.datum_at.result ≡ datum (c.args.sequence.now ! (c.loop-k.k - 1)) =
    c.datum_at.ensures.0 ∙ ap (λ (i : ℕ). datum (c.args.sequence.now ! (i - 1))) (sym all) in
    ap (λ (r : Refusal). refusal r) c.refusal_at-then-end-datum_at.ensures
    ∙ ap (refused 13) (sym all)
    ∙ elim c.then-end-datum_at.branch [
      | then-end-datum_at-via-then-end-datum_at w ↦
          before-last-high _ _ _ _ _ r.layered r.starts-in r.first_above c.loop-k.k l.fine all (omega (arith, before_last))
      | then-end-datum_at-via-else-end-datum_at+then-below-end w ↦
          ends_low _ _ _ _ _ r.layered r.starts-in r.first_above c.loop-k.k l.fine all (omega (arith, before_last)) _ l.reached (omega arith)
    ]

pub returns : goal.returns
returns c =
    let r = c.requires in
    let l = c.loop-k.invariant in
    let all : c.loop-k.k ≡ length c.args.sequence.now - 1 = omega arith in
    let before_last : c.datum_at.result ≡ datum (c.args.sequence.now ! (c.loop-k.k - 1)) =
    c.datum_at.ensures.0 ∙ ap (λ (i : ℕ). datum (c.args.sequence.now ! (i - 1))) (sym all) in
    admissible _ _ _ _ _ r.layered r.starts-in r.first_above c.loop-k.k l.fine all (omega (arith, before_last)) _ l.reached (omega arith) _ l.summed
