-- As no count is wrong, a column is refused exactly where it is out of order. Assumes nothing.
use Rattle.std.proofs.Common.{◌≡◌, ℕ, ◌+◌, ◌-◌, ◌<◌, ◌≤◌, Bool, true, false, refl, List, [], get_or, take, drop, length, sym, ap, ◌∙◌, arith, below_none, below_more}
use borrow.Author.Tests.{lt-ltb, le-ltb}
use Rattle.std.specs.Prelude.{Some, None}
use Rattle.lists.proofs.Search.{found, missed}
use Rattle.paper.specs.Layer.{Column, column_of}
use Rattle.column.specs.Order.{wrong_count, disordered}
use Rattle.save.specs.Runs.{total, columns_in}
use Rattle.save.specs.Writing.{found_below, first_disordered}
use Rattle.save.proofs.Runs.{length-columns_in, ColumnHere, column-here}
use Rattle.save.proofs.Counts.{counts-right}
use Rattle.save.proofs.Disorder.{is-refused, is-passed}
use Rattle.save.proofs.first_disordered.Goals as goal

-- it is out of order where its boundaries are
by_part : (height : ℕ) {counts run : List ℕ} {k start count : ℕ} → ColumnHere counts run k start count → (b : Bool) → disordered height (take (start + count - start) (drop start run)) ≡ b
    → disordered height (get_or (columns_in counts run) k (column_of [])).boundaries ≡ b
by_part height here b e = ap (λ (column : Column). disordered height column.boundaries) here.is ∙ e

-- the first index, and none, as options
some-below : (k first n : ℕ) → k ≡ first → k < n → Some k ≡ found_below first n
some-below k first n e l = rw (← e, lt-ltb k n l) refl

none-below : (first n : ℕ) → n ≤ first → None ≡ found_below first n
none-below first n l = rw (le-ltb first n l) refl

le-of : (k first : ℕ) → k ≡ first → (n : ℕ) → n ≤ k → n ≤ first
le-of k first e n l = omega arith

pub loop-k-init : goal.loop-k-init
unfolding total
loop-k-init c = record { start = refl; ordered = below_none _ }

pub overflow_add-end : goal.overflow_add-end
overflow_add-end c = let l = c.loop-k in omega (arith, (column-here c.args.counts.now c.args.run.now l.k l.start c.from.result c.loop-k-test.true l.invariant.start c.requires.counts_in_bounds c.from.ensures).within)

pub offset_bounds-run-start : goal.offset_bounds-run-start
offset_bounds-run-start c = let l = c.loop-k in omega (arith, (column-here c.args.counts.now c.args.run.now l.k l.start c.from.result c.loop-k-test.true l.invariant.start c.requires.counts_in_bounds c.from.ensures).within)

pub slice_bounds-check_column-end : goal.slice_bounds-check_column-end
slice_bounds-check_column-end c = let l = c.loop-k in (column-here c.args.counts.now c.args.run.now l.k l.start c.from.result c.loop-k-test.true l.invariant.start c.requires.counts_in_bounds c.from.ensures).within

pub returns-then-is_err : goal.returns-then-is_err
unfolding first_disordered
returns-then-is_err c =
    let l = c.loop-k in
    let a = c.args in
    let here = column-here c.args.counts.now c.args.run.now l.k l.start c.from.result c.loop-k-test.true l.invariant.start c.requires.counts_in_bounds c.from.ensures in
    let right = (counts-right a.counts.now c.requires.none_value).right l.k c.loop-k-test.true in
    let out = is-refused a.height _ _ (sym c.is_err.ensures.value ∙ c.if-is_err.true) (ap wrong_count here.long ∙ right) c.check_column.ensures in
    some-below l.k _ (length a.counts.now) (found _ _ _ (omega (arith, length-columns_in a.counts.now a.run.now)) l.invariant.ordered (by_part a.height here true out)) c.loop-k-test.true

pub loop-k-preserved : goal.loop-k-preserved
loop-k-preserved c =
    let l = c.loop-k in
    let a = c.args in
    let here = column-here c.args.counts.now c.args.run.now l.k l.start c.from.result c.loop-k-test.true l.invariant.start c.requires.counts_in_bounds c.from.ensures in
    let fine = is-passed a.height _ _ (sym c.is_err.ensures.value ∙ c.if-is_err.false) c.check_column.ensures in
    record { start = here.next; ordered = below_more _ _ l.invariant.ordered (by_part a.height here false fine) }

pub returns : goal.returns
unfolding first_disordered
returns c =
    let l = c.loop-k in
    let a = c.args in
    let e = length-columns_in a.counts.now a.run.now in
    none-below _ (length a.counts.now) (le-of _ _ (missed _ _ _ (omega (arith, e)) (omega (arith, e)) l.invariant.ordered) _ (omega arith))
