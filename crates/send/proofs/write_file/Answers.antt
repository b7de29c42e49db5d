-- The head, the rows and the end are stored one behind the other. Assumes nothing.
use Rattle.std.proofs.Common.{◌≡◌, ℕ, ◌+◌, ◌-◌, ◌*◌, ◌≤◌, List, ◌++◌, length, ap, ◌∙◌, arith}
use Rattle.std.proofs.Math.Seq.{length-sets}
use Rattle.std.proofs.lemmas.List.Edits.{sets}
use Rattle.plate.specs.Head.{SettingsFor}
use Rattle.plate.specs.declared.head.Head.{Head}
use Rattle.plate.specs.declared.settings.Settings.{Settings}
use Rattle.paper.specs.Layer.{tmax}
use Rattle.plate.proofs.Heads.{height-for, members-for}
use Rattle.record.proofs.Stores.{stored-then}
use Rattle.sent.specs.Kinds.{row_length}
use Rattle.sent.specs.File.{row_place}
use Rattle.sent.specs.Written.{head_record, row_records, end_record, table_bytes, file_size}
use Rattle.sent.proofs.Laid.{length-head, length-rows}
use Rattle.sent.proofs.Places.{few-rows, rows_are, end-place}
use Rattle.send.proofs.write_file.Goals as goal

module _ {head : Head} {s : Settings} (k : SettingsFor head s) (table out : List ℕ) (size : ℕ) (whole : s.cells ≤ length table) (e : (size ≡ file_size head) × (size ≤ length out)) where
  abbrev rows : List ℕ
  rows = row_records s.members s.rows 0 table

  -- the end stands behind the rows
  room : row_place s.members s.rows + 6 ≤ length out
  room = omega (arith, end-place k, e.0, e.1)

  rows_long : 14 + length rows ≡ row_place s.members s.rows
  unfolding row_place row_length
  rows_long =
      let T = s.members in
      let width : 4 + (2 + 4 * tmax T) ≡ 6 + 4 * tmax T = omega arith in
      let held : s.rows * tmax T ≤ length table = rw (← k.sound.greatest) (omega (arith, k.sound.cells_are, whole)) in
      rw width (omega (arith, length-rows T s.rows 0 table held))

  -- the head comes before the rows
  opening : 14 ≤ length out
  opening = omega (arith, rows_long, room)

  -- the three parts are the file
  laid-out : (first second third : List ℕ) → first ≡ sets out 0 (head_record head) → second ≡ sets first 14 rows → third ≡ sets second (size - 6) (end_record s.rows)
      → third ≡ sets out 0 (table_bytes head table)
  unfolding table_bytes
  laid-out first second third f g h =
      let place : size - 6 ≡ 14 + length rows = omega (arith, rows_long, end-place k, e.0) in
      h
      ∙ stored-then first second 14 (size - 6) rows (end_record s.rows) g place
      ∙ stored-then out first 0 14 (head_record head) (rows ++ end_record s.rows) f (omega (arith, length-head head))
      ∙ (λ i. sets out 0 (head_record head ++ (row_records (members-for k i) (rows_are k i) 0 table ++ end_record (rows_are k i))))

pub write_head-requires : goal.write_head-requires
write_head-requires c =
    let a = c.args in
    let r = c.requires in
    (omega (arith, height-for r.settings_for, r.settings_for.sound.high), opening r.settings_for a.table.now a.out.now a.size r.cells_in_bounds r.size_value)

pub write_rows-requires : goal.write_rows-requires
write_rows-requires c =
    let a = c.args in
    let r = c.requires in
    let long : length c.write_head.new.out ≡ length a.out.now = ap (λ (l : List ℕ). length l) c.write_head.ensures ∙ length-sets a.out.now 0 (head_record a.head) in
    record {
      sound = r.settings_for.sound;
      cells_in_bounds = r.cells_in_bounds;
      rows_in_bounds = omega (arith, long, room r.settings_for a.table.now a.out.now a.size r.cells_in_bounds r.size_value);
    }

pub overflow_sub-size : goal.overflow_sub-size
overflow_sub-size c = omega (arith, end-place c.requires.settings_for, c.requires.size_value.0)

pub write_end-requires : goal.write_end-requires
write_end-requires c =
    let a = c.args in
    let r = c.requires in
    let first : length c.write_head.new.out ≡ length a.out.now = ap (λ (l : List ℕ). length l) c.write_head.ensures ∙ length-sets a.out.now 0 (head_record a.head) in
    let second = ap (λ (l : List ℕ). length l) c.write_rows.ensures ∙ length-sets c.write_head.new.out 14 (row_records a.s.members a.s.rows 0 a.table.now) in
    (omega (arith, few-rows r.settings_for.sound), omega (arith, first, second, end-place r.settings_for, r.size_value.0, r.size_value.1))

pub returns : goal.returns
returns c =
    let a = c.args in
    let r = c.requires in
    laid-out r.settings_for a.table.now a.out.now a.size r.cells_in_bounds r.size_value _ _ _ c.write_head.ensures c.write_rows.ensures c.write_end.ensures
