-- Document 02 c), 'Sending a table between workstations', as statements: 'Add a table file .. Reader and writer, each undoing the other exactly.'
-- The bytes of a file, which files are read, what the two calls leave, and what is planned of a table that came by file. Assumes nothing.
use Rattle.std.specs.Prelude.{ℕ, ◌+◌, ◌-◌, ◌*◌, ◌≤◌, ◌<◌, ◌≡◌, ◌↔◌, List, ◌++◌, length, get_or, take, drop}
use Rattle.paper.specs.Limits.{sets, largest_bound}
use Rattle.paper.specs.Layer.{tmax}
use Rattle.paper.specs.Table.{start_at, thickness_at}
use Rattle.plate.specs.Call.{left_by}
use Rattle.plate.specs.Head.{Held, held_in, cells_of}
use Rattle.plate.specs.Refusal.{done}
use Rattle.plate.specs.declared.head.Head.{Head}
use Rattle.table.specs.Table.{Bounded}
use Rattle.record.specs.Bytes.{Bytes, le16, le32}
use Rattle.record.specs.Frame.{length_at, kind_at, body_at}
use Rattle.sent.specs.Start.{row_start, signed16}
use Rattle.sent.specs.Written.{rows_of, table_bytes, file_of, file_size, Sendable}
use Rattle.sent.specs.File.{row_place, table_file}
use Rattle.send.specs.Sending.{sending, write_answer}
use Rattle.receive.specs.Receiving.{receiving, read_answer}
use Rattle.plan.specs.Plan.{Sheets}
use Rattle.promises.specs.Plans.{plate_of, SettingsOf, Room, Plans}

-- ---- the bytes of a file

-- 'with the job file's record head': at this place a record of this body length and this kind
pub record RecordHead (file : List ℕ) (at long kind : ℕ) : Type 0 where
  pub length-is : length_at file at ≡ long
  pub kind-is : kind_at file at ≡ kind

-- 'kind 16, N (2), T (4), column count (4)'
pub record Opening (file : List ℕ) (head : Head) : Type 0 where
  pub record-head : RecordHead file 0 10 16
  pub height : le16 file 4 ≡ head.height
  pub members : le32 file 6 ≡ head.members
  pub columns : le32 file 10 ≡ head.columns

-- 'kind 17, one start (signed, 2) and its tmax cells (4 each)': where the body of row r stands, and the index of the cell at its place j
abbrev pub row_body : Head → ℕ → ℕ
row_body head r = body_at (row_place head.members r)

abbrev pub cell_of_row : Head → ℕ → ℕ → ℕ
cell_of_row head r j = r * tmax head.members + j

-- behind the row's start four bytes each are a cell of the table, which is that of the row's start and of thickness j + 1
pub record RowCell (file : List ℕ) (held : Held) (r j : ℕ) : Type 0 where
  pub bytes : le32 file (row_body held.head r + 2 + 4 * j) ≡ get_or held.buffer (cell_of_row held.head r j) 0
  pub start : start_at held.head.members (cell_of_row held.head r j) ≡ row_start held.head.members r
  pub thickness : thickness_at held.head.members (cell_of_row held.head r j) ≡ j + 1

-- 'kind 18, the number of rows (2)', behind the last row; and then nothing
pub record Ending (file : List ℕ) (head : Head) : Type 0 where
  pub record-head : RecordHead file (row_place head.members (rows_of head)) 2 18
  pub number : le16 file (row_body head (rows_of head)) ≡ head.height + 2 * tmax head.members - 2
  pub last : row_body head (rows_of head) + 2 ≡ length file

-- ---- the two calls

-- a table that was sent over what an output held: its settings are within limits, its cells in bounds, and the output now holds its file, `size`
-- bytes, and then what it held
pub record SentOver (held : Held) (out : List ℕ) (size : ℕ) (now : List ℕ) : Type 0 where
  pub settings : SettingsOf held
  pub bounds : Bounded held
  pub long : size ≡ file_size held.head
  pub room : size ≤ length out
  pub holds : now ≡ file_of held ++ drop size out

-- a file that holds a table of this head, and a lent table with room for it
pub record ReadInto (file lent : List ℕ) (head : Head) : Type 0 where
  pub cells : List ℕ
  pub read : table_file file ≡ done (held_in head cells)
  pub room : cells_of head ≤ length lent

-- what the reader leaves, with what it answered
abbrev pub received_in : List ℕ → List ℕ → Head → Held
received_in file lent head = held_in head (left_by (receiving file lent))

pub record SendingTables : Type 0 where
  -- 'Reader and writer, each undoing the other exactly': what is written of a table, the reader reads back as that table
  pub read-after-write : (held : Held) → Sendable held → table_file (file_of held) ≡ done held
  -- and of a longer buffer the table at its front: cells past it are not in the file
  pub read-front : (held : Held) → SettingsOf held → Bounded held → table_file (file_of held) ≡ done (held_in held.head (take (cells_of held.head) held.buffer))
  -- and of the table that is read from a file the same bytes are written
  pub write-after-read : (file : List ℕ) → Bytes file → (held : Held) → table_file file ≡ done held → file_of held ≡ file
  -- also where it was read into a longer buffer
  pub write-received : (file : List ℕ) → Bytes file → (lent : List ℕ) (head : Head) → read_answer file lent ≡ done head → file_of (received_in file lent head) ≡ file
  -- the accepted files are exactly the values of `table_bytes` on settings within limits, a count of at most 1,000,000 and cells in bounds
  pub exactly : (file : List ℕ) → Bytes file → (held : Held) → (table_file file ≡ done held) ↔ (Sendable held × (file ≡ file_of held))
  -- two tables never give the same file
  pub injective : (held other : Held) → Sendable held → Sendable other → file_of held ≡ file_of other → held ≡ other
  -- what is written is bytes, and 'length 20 + (N+2·tmax-2)·(6+4·tmax)' of them
  pub bytes : (head : Head) (cells : List ℕ) → Bytes (table_bytes head cells)
  pub size : (held : Held) → cells_of held.head ≤ length held.buffer
      → length (file_of held) ≡ 20 + (held.head.height + 2 * tmax held.head.members - 2) * (6 + 4 * tmax held.head.members)
  -- 'kind 16, N (2), T (4), column count (4)'
  pub opens : (held : Held) → SettingsOf held → Bounded held → Opening (file_of held) held.head
  -- 'kind 17, one start (signed, 2) and its tmax cells (4 each), starts rising, every start present': the start of row r is document 01's, of the
  -- row's cells; and which four bytes are the cell of a start and a thickness
  pub row_is : (held : Held) → SettingsOf held → Bounded held → (r : ℕ) → r < rows_of held.head
      → RecordHead (file_of held) (row_place held.head.members r) (2 + 4 * tmax held.head.members) 17
  pub start_is : (held : Held) → SettingsOf held → Bounded held → (r : ℕ) → r < rows_of held.head
      → signed16 (le16 (file_of held) (row_body held.head r)) ≡ start_at held.head.members (r * tmax held.head.members)
  pub row-cell : (held : Held) → SettingsOf held → Bounded held → (r : ℕ) → r < rows_of held.head → (j : ℕ) → j < tmax held.head.members
      → RowCell (file_of held) held r j
  -- 'kind 18, the number of rows (2)'
  pub ends : (held : Held) → SettingsOf held → Bounded held → Ending (file_of held) held.head
  -- the writer: what it does not refuse is a table of settings within limits and in bounds, and is sent
  pub sends : (held : Held) → held.head.members < sets → (out : List ℕ) (size : ℕ) → write_answer held out ≡ done size
      → SentOver held out size (left_by (sending held out))
  -- and every such table can be sent where the output has room
  pub takes : (held : Held) → SettingsOf held → Bounded held → (out : List ℕ) → file_size held.head ≤ length out
      → write_answer held out ≡ done (file_size held.head)
  -- the reader: it answers a head exactly where the file holds a table of it, 'a file in bounds whose cells no columns give' too, and the lent
  -- table has room
  pub receives : (file lent : List ℕ) (head : Head) → (read_answer file lent ≡ done head) ↔ ReadInto file lent head
  -- and the lent table is then the cells and its old rest
  pub leaves : (file lent : List ℕ) (head : Head) (into : ReadInto file lent head) → left_by (receiving file lent) ≡ into.cells ++ drop (cells_of head) lent
  -- 'there a layer's error is its cell': demand 2 for a table that came by file, planned and read back by its cells
  pub planned : (file : List ℕ) → Bytes file → (lent : List ℕ) (head : Head) → read_answer file lent ≡ done head
      → (bound : ℕ) → bound ≤ largest_bound → (sheets : Sheets) → Room head.height head.members sheets
      → Plans (plate_of (received_in file lent head)) (received_in file lent head) bound sheets
