-- A row where the loop over the rows stands: its cells are in the table and its record in the output, and its record behind the records of the
-- rows before it makes those of one row more. Assumes nothing.
use mathlib.Core.Path.{◌≡◌, refl, sym, ap, ◌∙◌}
use mathlib.Core.List.{List, ◌++◌}
use Prim.Native.Nat.{ℕ, suc, ◌+◌, ◌-◌, ◌*◌, ◌≤◌, ◌<◌}
use native.Mathlib.Omega.{arith}
use lib.IntN.{pos, ◌-ℤ◌}
use lib.ListN.{length, take, drop, length-drop}
use lib.Seq.{sets, length-take-le}
use Rattle.paper.specs.Layer.{tmax}
use Rattle.plate.specs.Settings.{Sound}
use Rattle.plate.specs.declared.settings.Settings.{Settings}
use Rattle.record.specs.Written.{bytes16, quad_bytes_of, framed}
use Rattle.record.proofs.Stores.{stored-then}
use Rattle.sent.specs.Kinds.{row_kind, row_length}
use Rattle.sent.specs.Start.{row_start, twos16}
use Rattle.sent.specs.File.{row_place}
use Rattle.sent.specs.Written.{row_record, row_records}
use Rattle.sent.proofs.Laid.{length-rows, rows_more}
use Rattle.sent.proofs.Places.{place-more, place-within}
use Rattle.table.proofs.Cells.{row_in}

module _ {s : Settings} (k : Sound s) (table out : List ℕ) (whole : s.cells ≤ length table) (room : row_place s.members s.rows ≤ length out)
    (row base next : ℕ) (l : row < s.rows) (from : base ≡ row * s.tmax) (at : next ≡ row_place s.members row) where
  -- its cells, as they are lent
  abbrev pub part : List ℕ
  part = take (base + s.tmax - base) (drop base table)

  pub cells_in : base + s.tmax ≤ s.cells
  cells_in = omega (arith, row_in k row l)

  pub part-long : length part ≡ s.tmax
  part-long = length-take-le (base + s.tmax - base) (drop base table) (omega (arith, cells_in, length-drop base table)) ∙ omega arith

  -- the next row's record stands behind it
  pub next_place : next + (6 + 4 * s.tmax) ≡ row_place s.members (row + 1)
  next_place = rw at (sym (place-more k row))

  pub record-in : next + (6 + 4 * s.tmax) ≤ length out
  record-in = omega (arith, next_place, place-within k row l)

  part-is : part ≡ take (tmax s.members) (drop (row * tmax s.members) table)
  part-is = let width : base + s.tmax - base ≡ s.tmax = omega arith in rw (width, from, ← k.greatest) refl

  -- the record that is written is the row's
  record_is : (start : ℕ) → start ≡ twos16 (pos row -ℤ pos (s.tmax - 1))
      → framed row_kind (bytes16 start ++ quad_bytes_of part) ≡ row_record s.members row (take (tmax s.members) (drop (row * tmax s.members) table))
  unfolding row_record row_start
  record_is start e =
      (λ i. framed row_kind (bytes16 (e i) ++ quad_bytes_of (part-is i)))
      ∙ ap (λ (n : ℕ). framed row_kind (bytes16 (twos16 (pos row -ℤ pos (n - 1))) ++ quad_bytes_of (take (tmax s.members) (drop (row * tmax s.members) table)))) k.greatest

  -- one row more
  pub row-stored : (stored : List ℕ) (start : ℕ) → start ≡ twos16 (pos row -ℤ pos (s.tmax - 1)) → stored ≡ sets out 14 (row_records s.members row 0 table)
      → sets stored next (framed row_kind (bytes16 start ++ quad_bytes_of part)) ≡ sets out 14 (row_records s.members (row + 1) 0 table)
  unfolding row_place row_length
  row-stored stored start e f =
      let T = s.members in
      let none : row ≡ 0 + row = omega arith in
      let one : suc row ≡ row + 1 = omega arith in
      let long = length-rows T row 0 table (rw (← k.greatest) (omega (arith, cells_in))) in
      let width : 4 + (2 + 4 * tmax T) ≡ 6 + 4 * tmax T = omega arith in
      let place : next ≡ 14 + length (row_records T row 0 table) = at ∙ rw width (omega (arith, long)) in
      ap (sets stored next) (record_is start e)
      ∙ stored-then out stored 14 next (row_records T row 0 table) (row_record T row (take (tmax T) (drop (row * tmax T) table))) f place
      ∙ ap (λ (n : ℕ). sets out 14 (row_records T row 0 table ++ row_record T n (take (tmax T) (drop (row * tmax T) table)))) none
      ∙ ap (sets out 14) (sym (rows_more T row 0 table) ∙ ap (λ (n : ℕ). row_records T n 0 table) one)
