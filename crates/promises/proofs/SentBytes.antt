-- The bytes of a table file, record by record. The file that is written is accepted, so that by the reader's checks each row stands at its place with
-- its start and its cells (crate `sent`), and its head is read back; the end stands behind as many bytes as head and rows have. Assumes nothing.
use mathlib.Core.Path.{◌≡◌, refl, sym, ap, ◌∙◌}
use mathlib.Core.List.{List, [], ◌++◌, append_assoc, append-nil}
use Prim.Native.Nat.{ℕ, suc, ◌+◌, ◌-◌, ◌*◌, ◌≤◌, ◌<◌}
use native.Mathlib.Omega.{arith}
use lib.ListN.{length, drop, length-append}
use lib.Seq.{drop_at}
use Rattle.paper.specs.Layer.{tmax}
use Rattle.paper.specs.Table.{rows, cells}
use Rattle.paper.proofs.Thicknesses.{tmax-le}
use Rattle.plate.specs.Head.{Held, cells_of}
use Rattle.plate.specs.declared.head.Head.{Head}
use Rattle.table.specs.Table.{Bounded}
use Rattle.record.specs.Frame.{body_at}
use Rattle.record.specs.Written.{bytes16, bytes32, quad_bytes_of, framed}
use Rattle.record.proofs.Bytes.{length-quads}
use Rattle.record.proofs.Spelled.{length-quad_bytes_of, read16, read_frame}
use Rattle.sent.specs.Kinds.{head_kind, row_kind, end_kind, row_length}
use Rattle.sent.specs.Start.{row_start, twos16}
use Rattle.sent.specs.Written.{rows_of, head_record, row_record, end_record, row_records, table_bytes, file_of, file_size}
use Rattle.sent.specs.File.{head_in, row_place, row_at}
use Rattle.sent.proofs.Starts.{row-cell as cell-of-row}
use Rattle.sent.proofs.Laid.{length-head, length-rows, length-table}
use Rattle.sent.proofs.Rows.{few-rows}
use Rattle.sent.proofs.Round.{head_read, row_written, cell-bytes}
use Rattle.promises.specs.Plans.{SettingsOf}
use Rattle.promises.specs.Sent.{RecordHead, Opening, RowCell, Ending}

pub size_is : (held : Held) → cells_of held.head ≤ length held.buffer
    → length (file_of held) ≡ 20 + (held.head.height + 2 * tmax held.head.members - 2) * (6 + 4 * tmax held.head.members)
unfolding file_size row_length rows
size_is held room =
    let head = held.head in
    let six : 4 + (2 + 4 * tmax head.members) ≡ 6 + 4 * tmax head.members = omega arith in
    length-table head held.buffer room ∙ ap (λ (n : ℕ). 20 + (head.height + 2 * tmax head.members - 2) * n) six

module _ (held : Held) (p : SettingsOf held) (b : Bounded held) where
  abbrev file : List ℕ
  file = file_of held

  abbrev head : Head
  head = held.head

  abbrev T : ℕ
  T = held.head.members

  -- a record that stands there has its head
  stands : (at kind : ℕ) (body rest : List ℕ) → kind < 65_536 → length body < 65_536 → drop at file ≡ framed kind body ++ rest → RecordHead file at (length body) kind
  stands at kind body rest k l e = let f = read_frame file at kind body rest k l e in record { length-is = f.long; kind-is = f.kind-is }

  pub opens : Opening file head
  unfolding head_in table_bytes head_record bytes32 bytes16
  opens =
      let body = bytes16 head.height ++ (bytes32 T ++ bytes32 head.columns) in
      let rest = row_records T (rows_of head) 0 held.buffer ++ end_record (rows_of head) in
      record {
        record-head = stands 0 head_kind body rest (omega arith) (omega arith) refl;
        height = ap (λ (h : Head). h.height) (head_read head held.buffer p b);
        members = ap (λ (h : Head). h.members) (head_read head held.buffer p b);
        columns = ap (λ (h : Head). h.columns) (head_read head held.buffer p b);
      }

  pub row_is : (r : ℕ) → r < rows_of head → RecordHead file (row_place T r) (2 + 4 * tmax T) 17
  unfolding row_record bytes16
  row_is r l =
      let row = row_at file T r in
      let body = bytes16 (twos16 (row_start T r)) ++ quad_bytes_of row in
      let long : length body ≡ 2 + 4 * tmax T = omega (arith, length-quad_bytes_of row, length-quads file (body_at (row_place T r) + 2) (tmax T)) in
      let stand = (row_written head held.buffer p b r l).bytes in
      let small : length body < 65_536 = omega (arith, tmax-le T) in
      rw long at (stands (row_place T r) row_kind body (drop (row_place T (suc r)) file) (omega arith) small stand)

  pub row-cell : (r : ℕ) → r < rows_of head → (j : ℕ) → j < tmax T → RowCell file held r j
  row-cell r l j m = let of = cell-of-row T r j m in record { bytes = cell-bytes head held.buffer p b r l j m; start = of.0; thickness = of.1 }

  -- behind the last row
  last-stands : drop (row_place T (rows_of head)) file ≡ end_record (rows_of head)
  unfolding table_bytes row_place row_length cells
  last-stands =
      let rows = row_records T (rows_of head) 0 held.buffer in
      let end = end_record (rows_of head) in
      let before : length (head_record head ++ rows) ≡ row_place T (rows_of head) =
      omega (arith, length-append (head_record head) rows, length-head head, length-rows T (rows_of head) 0 held.buffer b.size) in
      ap (drop (row_place T (rows_of head))) (sym (append_assoc (head_record head) rows end)) ∙ drop_at (head_record head ++ rows) end (row_place T (rows_of head)) before

  pub ends : Ending file head
  unfolding end_record bytes16 rows
  ends =
      let n = rows_of head in
      let at = row_place T n in
      let stand = last-stands ∙ sym (append-nil (end_record n)) in
      let f = read_frame file at end_kind (bytes16 n) [] (omega arith) (omega arith) stand in
      let number = read16 file (body_at at) n [] f.body_is in
      let few = few-rows head.height T p in
      record { record-head = stands at end_kind (bytes16 n) [] (omega arith) (omega arith) stand; number = omega arith; last = omega (arith, f.room) }
