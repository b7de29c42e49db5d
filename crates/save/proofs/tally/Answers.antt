-- No count is wrong, or the first wrong one is told; and the sum is that of all. Assumes nothing.
use Rattle.std.proofs.Common.{◌≡◌, refl, sym, ap, ◌∙◌, arith, get_or, below_none, below_more, add-one, take_all}
use mathlib.Core.Option.{Option}
use Rattle.plate.specs.Refusal.{done, Numbered, told_by}
use Rattle.column.specs.Order.{wrong_count}
use Rattle.save.specs.Runs.{total}
use Rattle.save.proofs.Runs.{total-more}
use Rattle.save.proofs.Counts.{too_many, wrong-at, none-wrong}
use Rattle.save.proofs.tally.Goals as goal

pub returns-then-counts : goal.returns-then-counts
returns-then-counts c =
    let counts = c.args.counts.now in
    rw c.refusal_at.ensures (ap (λ (o : Option Numbered). told_by o (total counts)) (too_many counts (omega (arith, c.if-counts.true))))

pub loop-k-init : goal.loop-k-init
unfolding total
loop-k-init c = record { sum = refl; low = omega arith; right = below_none _ }

pub returns-then-is_wrong_count : goal.returns-then-is_wrong_count
returns-then-is_wrong_count c =
    let l = c.loop-k in
    let counts = c.args.counts.now in
    let wrong : wrong_count (get_or counts l.k 0) ≡ _ = ap wrong_count (sym c.from.ensures) ∙ sym c.is_wrong_count.ensures ∙ c.if-is_wrong_count.true in
    rw c.refusal_at-then-is_wrong_count.ensures
    (ap (λ (o : Option Numbered). told_by o (total counts)) (wrong-at counts l.k (omega (arith, c.if-counts.false)) c.loop-k-test.true l.invariant.right wrong))

pub loop-k-preserved : goal.loop-k-preserved
loop-k-preserved c =
    let l = c.loop-k in
    let counts = c.args.counts.now in
    record {
      sum = rw (l.invariant.sum, c.from-sum.ensures, add-one) (sym (total-more counts l.k c.loop-k-test.true));
      low = omega (arith, l.invariant.low);
      right = below_more _ _ l.invariant.right (ap wrong_count (sym c.from.ensures) ∙ sym c.is_wrong_count.ensures ∙ c.if-is_wrong_count.false);
    }

pub returns : goal.returns
returns c =
    let l = c.loop-k in
    let counts = c.args.counts.now in
    let sum = l.invariant.sum ∙ ap total (take_all l.k counts (omega arith)) in
    let passes = none-wrong counts (omega (arith, c.if-counts.false)) (λ j m. l.invariant.right j (omega arith)) in
    ap done sum ∙ ap (λ (o : Option Numbered). told_by o (total counts)) passes
