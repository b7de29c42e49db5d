-- The next column's record goes behind those of the columns before it. Assumes nothing.
use Rattle.std.proofs.Common.{◌≡◌, ℕ, ◌+◌, ◌*◌, refl, List, [], get_or, take, length, sym, ap, ◌∙◌, arith, length-append, take_all}
use Rattle.std.proofs.lemmas.List.Edits.{sets}
use Rattle.paper.specs.Layer.{Column, column_of}
use Rattle.record.proofs.Stores.{stored-then}
use Rattle.job.specs.Written.{column_record, column_records}
use Rattle.save.specs.Runs.{total, columns_in}
use Rattle.save.proofs.Laid.{length-column}
use Rattle.save.proofs.Runs.{length-columns_in, column-here, records-more}
use Rattle.save.proofs.Counts.{counts-right}
use Rattle.save.proofs.write_columns.Goals as goal

pub loop-count-init : goal.loop-count-init
unfolding total column_records
loop-count-init c = record { start = refl; next = omega arith; behind = omega arith; stored = refl }

pub slice_bounds-write_column-end : goal.slice_bounds-write_column-end
slice_bounds-write_column-end c =
    let a = c.args in
    let l = c.loop-count in
    (column-here a.counts.now a.run.now l.count-index l.start c.from.result c.loop-count-test.true l.invariant.start c.requires.counts_in_bounds c.from.ensures).within

pub write_column-requires : goal.write_column-requires
write_column-requires c =
    let a = c.args in
    let l = c.loop-count in
    let here = column-here a.counts.now a.run.now l.count-index l.start c.from.result c.loop-count-test.true l.invariant.start c.requires.counts_in_bounds c.from.ensures in
    let low = (counts-right a.counts.now c.requires.none_value).low l.count-index c.loop-count-test.true in
    record {
      column_len_bound = omega (arith, here.long, low);
      column_in_bounds = omega (arith, here.long, here.counted, c.from.ensures, l.invariant.next, l.auto.out, c.requires.counts_in_bounds_2);
    }

pub overflow_add-next-in-loop-count : goal.overflow_add-next-in-loop-count
overflow_add-next-in-loop-count c =
    let a = c.args in
    let l = c.loop-count in
    let here = column-here a.counts.now a.run.now l.count-index l.start c.from.result c.loop-count-test.true l.invariant.start c.requires.counts_in_bounds c.from.ensures in
    omega (arith, here.counted, l.invariant.next, c.requires.counts_in_bounds_2)

pub loop-count-preserved : goal.loop-count-preserved
loop-count-preserved c =
    let a = c.args in
    let l = c.loop-count in
    let here = column-here a.counts.now a.run.now l.count-index l.start c.from.result c.loop-count-test.true l.invariant.start c.requires.counts_in_bounds c.from.ensures in
    let columns = columns_in a.counts.now a.run.now in
    let records = column_records (take l.count-index columns) in
    let column = get_or columns l.count-index (column_of []) in
    let more = records-more columns l.count-index (omega (arith, length-columns_in a.counts.now a.run.now)) in
    let long : length (column_record column) ≡ 4 + 2 * get_or a.counts.now l.count-index 0 = omega (arith, length-column column, ap (λ (x : Column). length x.boundaries) here.is ∙ here.long) in
    let stored = c.write_column.ensures ∙ ap (λ (x : Column). sets l.out l.next (column_record x)) (sym here.is) in
    record {
      start = here.next;
      next = omega (arith, l.invariant.next);
      behind = omega (arith, l.invariant.behind, ap (λ (x : List ℕ). length x) more ∙ length-append records (column_record column), long);
      stored =
          stored
          ∙ stored-then a.out.now l.out a.at l.next records (column_record column) l.invariant.stored l.invariant.behind
          ∙ ap (sets a.out.now a.at) (sym more);
    }

pub returns : goal.returns
returns c =
    let a = c.args in
    let l = c.loop-count in
    let columns = columns_in a.counts.now a.run.now in
    l.invariant.stored ∙ ap (λ (x : List Column). sets a.out.now a.at (column_records x)) (take_all l.count-index columns (omega (arith, length-columns_in a.counts.now a.run.now)))
