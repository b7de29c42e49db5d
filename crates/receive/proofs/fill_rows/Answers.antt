-- A row's cells go behind those of the rows before it. Assumes nothing.
use Rattle.std.proofs.Common.{◌≡◌, ℕ, suc, ◌+◌, ◌-◌, ◌*◌, ◌<◌, ◌≤◌, List, length, take, drop, refl, sym, ap, ap₂, ◌∙◌, arith, length-drop}
use Rattle.std.proofs.lemmas.List.{length-take-le}
use borrow.Rule.Slice.PartMut.{put_mid}
use Rattle.std.proofs.lemmas.List.Edits.{sets}
use Rattle.plate.specs.Head.{SettingsFor}
use Rattle.plate.specs.declared.head.Head.{Head}
use Rattle.plate.specs.declared.settings.Settings.{Settings}
use Rattle.record.specs.Bytes.{quads}
use Rattle.record.specs.Frame.{body_at}
use Rattle.record.proofs.Bytes.{length-quads}
use Rattle.record.proofs.Stores.{stored-then, put-sets}
use Rattle.sent.specs.File.{head_in, row_place, row_at, cells_from}
use Rattle.sent.proofs.Laid.{cells-more, length-cells}
use Rattle.sent.proofs.Places.{place-for, place_in}
use Rattle.sent.proofs.Rows.{place-first}
use Rattle.table.proofs.Cells.{row_in, greatest-for}
use Rattle.receive.proofs.fill_rows.Goals as goal

module _ {head : Head} {s : Settings} (f : SettingsFor head s) (file old table : List ℕ) (row at : ℕ) (l : row < s.rows) (p : at ≡ row_place head.members row) where
  -- its cells stand in the file
  in-file : row_place head.members s.rows ≤ length file → at + (6 + 4 * s.tmax) ≤ length file
  in-file room = omega (arith, p, place-for f row, place_in f row l, room)

  -- and have their place in the table
  module _ (room : s.cells ≤ length table) where
    in_table : row * s.tmax + s.tmax ≤ length table
    in_table = omega (arith, row_in f.sound row l, room)

    part-long : length (take (row * s.tmax + s.tmax - row * s.tmax) (drop (row * s.tmax) table)) ≡ s.tmax
    part-long =
        length-take-le (row * s.tmax + s.tmax - row * s.tmax) (drop (row * s.tmax) table) (omega (arith, in_table, length-drop (row * s.tmax) table)) ∙ omega arith

    -- one row more
    one-more : (cells : List ℕ) (n : ℕ) → cells ≡ quads file (at + 6) n → n ≡ s.tmax → table ≡ sets old 0 (cells_from file head.members row 0)
        → put_mid (row * s.tmax) (row * s.tmax + s.tmax - row * s.tmax) table cells ≡ sets old 0 (cells_from file head.members (row + 1) 0)
    one-more cells n e w t =
        let T = head.members in
        let base = row * s.tmax in
        let before = cells_from file T row 0 in
        let none : row ≡ 0 + row = omega arith in
        let here : cells ≡ quads file (at + 6) s.tmax = e ∙ ap (quads file (at + 6)) w in
        let long = length-quads file (at + 6) s.tmax in
        let place : at + 6 ≡ body_at (row_place T (0 + row)) + 2 = omega (arith, p ∙ ap (row_place T) none) in
        let behind : base ≡ 0 + length before = omega (arith, length-cells file T row 0, ap (λ (n : ℕ). row * n) (greatest-for f)) in
        let one : suc row ≡ row + 1 = omega arith in
        put-sets table cells (quads file (at + 6) s.tmax) base (base + s.tmax - base) here (omega (arith, long)) (omega (arith, long, in_table))
        ∙ ap₂ (λ (n w : ℕ). sets table base (quads file n w)) place (greatest-for f)
        ∙ stored-then old table 0 base before (row_at file T (0 + row)) t behind
        ∙ ap (sets old 0) (sym (cells-more file T row 0) ∙ ap (λ (n : ℕ). cells_from file T n 0) one)

pub loop-row-init : goal.loop-row-init
unfolding cells_from
loop-row-init c = record { place = sym (place-first (head_in c.args.file.now).members); stored = refl }

pub overflow_add-at : goal.overflow_add-at
overflow_add-at c =
    let l = c.loop-row in
    omega (arith, in-file c.requires.settings_for c.args.file.now c.args.table.now l.table l.row l.at c.loop-row-test.true l.invariant.place c.requires.rows_in_bounds)

pub fill_row-requires : goal.fill_row-requires
fill_row-requires c =
    let l = c.loop-row in
    let f = c.requires.settings_for in
    omega (
      arith,
      in-file f c.args.file.now c.args.table.now l.table l.row l.at c.loop-row-test.true l.invariant.place c.requires.rows_in_bounds,
      part-long f c.args.file.now c.args.table.now l.table l.row l.at c.loop-row-test.true l.invariant.place (omega (arith, l.auto.table, c.requires.cells_in_bounds)),
    )

pub overflow_add-at-in-loop-row-2 : goal.overflow_add-at-in-loop-row-2
overflow_add-at-in-loop-row-2 c =
    let l = c.loop-row in
    omega (arith, in-file c.requires.settings_for c.args.file.now c.args.table.now l.table l.row l.at c.loop-row-test.true l.invariant.place c.requires.rows_in_bounds)

pub loop-row-preserved : goal.loop-row-preserved
loop-row-preserved c =
    let l = c.loop-row in
    let a = c.args in
    let f = c.requires.settings_for in
    let room : a.s.cells ≤ length l.table = omega (arith, l.auto.table, c.requires.cells_in_bounds) in
    let long = part-long f a.file.now a.table.now l.table l.row l.at c.loop-row-test.true l.invariant.place room in
    record {
      place = omega (arith, l.invariant.place, place-for f l.row);
      stored = one-more f a.file.now a.table.now l.table l.row l.at c.loop-row-test.true l.invariant.place room c.fill_row.new.cells _ c.fill_row.ensures long l.invariant.stored;
    }

pub returns : goal.returns
returns c =
    let l = c.loop-row in
    let g = c.args in
    let all : l.row ≡ g.s.rows = omega arith in
    l.invariant.stored ∙ ap (λ (n : ℕ). sets g.table.now 0 (cells_from g.file.now (head_in g.file.now).members n 0)) all
