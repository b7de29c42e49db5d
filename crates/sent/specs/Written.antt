-- Document 02 c), the table file as it is written: one definition for the bytes of each kind of record, and the file of a table. What is read
-- from it again stands in File, by the same kinds. Assumes nothing.
use Rattle.std.specs.Prelude.{ℕ, zero, suc, ◌+◌, ◌*◌, ◌≡◌, List, [], ◌++◌, length, take, drop}
use Rattle.paper.specs.Layer as paper
use Rattle.paper.specs.Layer.{tmax}
use Rattle.paper.specs.Table.{rows}
use Rattle.plate.specs.Head.{Held, cells_of}
use Rattle.plate.specs.declared.head.Head.{Head}
use Rattle.record.specs.Written.{bytes16, bytes32, quad_bytes_of, framed}
use Rattle.table.specs.Table.{Bounded}
use Rattle.sent.specs.Kinds.{head_kind, row_kind, end_kind, row_length}
use Rattle.sent.specs.Start.{row_start, twos16}

-- the rows of the table that a head goes with
abbrev pub rows_of : Head → ℕ
rows_of head = rows head.height head.members

-- 'kind 16, N (2), T (4), column count (4)'
unfoldable pub head_record : Head → List ℕ
head_record head = framed head_kind (bytes16 head.height ++ (bytes32 head.members ++ bytes32 head.columns))

-- 'kind 17, one start (signed, 2) and its tmax cells (4 each)'
unfoldable pub row_record : ℕ → ℕ → List ℕ → List ℕ
row_record T r row = framed row_kind (bytes16 (twos16 (row_start T r)) ++ quad_bytes_of row)

-- 'kind 18, the number of rows (2)'
unfoldable pub end_record : ℕ → List ℕ
end_record n = framed end_kind (bytes16 n)

-- so many rows, from row r on, of the cells from there on
unfoldable pub row_records : ℕ → ℕ → ℕ → List ℕ → List ℕ
row_records T zero r cells = []
row_records T (suc left) r cells = row_record T r (take (tmax T) cells) ++ row_records T left (suc r) (drop (tmax T) cells)

-- THE FILE of a table: what goes with it, its rows in their order, and the end with their number; cells past the table are not looked at
unfoldable pub table_bytes : Head → List ℕ → List ℕ
table_bytes head cells = head_record head ++ (row_records head.members (rows_of head) 0 cells ++ end_record (rows_of head))

abbrev pub file_of : Held → List ℕ
file_of held = table_bytes held.head held.buffer

-- its length: 14 bytes of the head, the rows', and 6 of the end
unfoldable pub file_size : Head → ℕ
file_size head = 20 + rows_of head * (4 + row_length head.members)

-- a table that a file can hold: of settings within limits, all of it and no more, in bounds for its count
pub record Sendable (held : Held) : Type 0 where
  pub settings : paper.Settings held.head.height held.head.members
  pub whole : length held.buffer ≡ cells_of held.head
  pub bounds : Bounded held
