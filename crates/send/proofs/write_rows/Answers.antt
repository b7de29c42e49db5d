-- The cells of a row are in the table and its record in the output; its record behind those of the rows before makes those of one row more.
-- Assumes nothing.
use Rattle.std.proofs.Common.{◌≡◌, ◌<◌, ℕ, refl, sym, ap, ◌∙◌, arith}
use Rattle.std.proofs.lemmas.List.Edits.{sets}
use Rattle.sent.specs.Written.{row_records}
use Rattle.sent.proofs.Rows.{place-first}
use Rattle.send.proofs.Rows.{cells_in, part-long, next_place, record-in, row-stored}
use Rattle.send.proofs.write_rows.Goals as goal

pub loop-row-init : goal.loop-row-init
unfolding row_records
loop-row-init c = record { from = omega arith; at = sym (place-first c.args.s.members); stored = refl }

pub overflow_add-end : goal.overflow_add-end
overflow_add-end c =
    let a = c.args in
    let l = c.loop-row in
    let here : l.row < a.s.rows = omega arith in
    omega (arith, cells_in c.requires.sound a.table.now a.out.now c.requires.cells_in_bounds c.requires.rows_in_bounds l.row l.base l.next here l.invariant.from l.invariant.at, c.requires.sound.few-cells)

pub offset_bounds-table-base : goal.offset_bounds-table-base
offset_bounds-table-base c =
    let a = c.args in
    let l = c.loop-row in
    let here : l.row < a.s.rows = omega arith in
    omega (arith, cells_in c.requires.sound a.table.now a.out.now c.requires.cells_in_bounds c.requires.rows_in_bounds l.row l.base l.next here l.invariant.from l.invariant.at, c.requires.sound.few-cells)

pub slice_bounds-write_row-end : goal.slice_bounds-write_row-end
slice_bounds-write_row-end c =
    let a = c.args in
    let l = c.loop-row in
    let here : l.row < a.s.rows = omega arith in
    omega (arith, cells_in c.requires.sound a.table.now a.out.now c.requires.cells_in_bounds c.requires.rows_in_bounds l.row l.base l.next here l.invariant.from l.invariant.at, c.requires.cells_in_bounds)

pub write_row-requires : goal.write_row-requires
write_row-requires c =
    let a = c.args in
    let l = c.loop-row in
    let here : l.row < a.s.rows = omega arith in
    let long = part-long c.requires.sound a.table.now a.out.now c.requires.cells_in_bounds c.requires.rows_in_bounds l.row l.base l.next here l.invariant.from l.invariant.at in
    record { row_len_bound = omega (arith, long, c.requires.sound.thick); row_in_bounds = omega (arith, long, l.auto.out, record-in c.requires.sound a.table.now a.out.now c.requires.cells_in_bounds c.requires.rows_in_bounds l.row l.base l.next here l.invariant.from l.invariant.at) }

pub overflow_add-next-in-loop-row : goal.overflow_add-next-in-loop-row
overflow_add-next-in-loop-row c =
    let a = c.args in
    let l = c.loop-row in
    let here : l.row < a.s.rows = omega arith in
    omega (arith, record-in c.requires.sound a.table.now a.out.now c.requires.cells_in_bounds c.requires.rows_in_bounds l.row l.base l.next here l.invariant.from l.invariant.at)

pub loop-row-preserved : goal.loop-row-preserved
loop-row-preserved c =
    let a = c.args in
    let l = c.loop-row in
    let here : l.row < a.s.rows = omega arith in
    record {
      from = rw l.invariant.from (omega arith);
      at = next_place c.requires.sound a.table.now a.out.now c.requires.cells_in_bounds c.requires.rows_in_bounds l.row l.base l.next here l.invariant.from l.invariant.at;
      stored = c.write_row.ensures ∙ row-stored c.requires.sound a.table.now a.out.now c.requires.cells_in_bounds c.requires.rows_in_bounds l.row l.base l.next here l.invariant.from l.invariant.at l.out c.start_bits.result c.start_bits.ensures l.invariant.stored;
    }

pub returns : goal.returns
returns c =
    let a = c.args in
    let l = c.loop-row in
    let all : l.row ≡ a.s.rows = omega arith in
    l.invariant.stored ∙ ap (λ (n : ℕ). sets a.out.now 14 (row_records a.s.members n 0 a.table.now)) all
