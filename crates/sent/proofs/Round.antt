-- Reader and writer of table files undo each other exactly: the files that are accepted are those of tables that can be sent, each of one only. The
-- round trip would not see a fault that both share, so the bytes of a row are pinned to document 01 as well: since the file that is written is
-- accepted, the start that stands in row r is the start of the row's cells, and its numbers are the row's cells. Assumes nothing.
use mathlib.Core.Path.{◌≡◌, sym, ap, subst, ◌∙◌}
use mathlib.Core.Logic.{◌↔◌}
use mathlib.Core.List.{List}
use mathlib.Core.Option.{none}
use Prim.Native.Nat.{ℕ, ◌+◌, ◌*◌, ◌<◌}
use native.Mathlib.Omega.{arith}
use lib.Arith.{digits_lt}
use lib.ListN.{get_or, take}
use lib.Seq.{take_all, get_or-take}
use Rattle.lists.specs.Checks.{first}
use Rattle.paper.specs.Layer as paper
use Rattle.paper.specs.Layer.{tmax}
use Rattle.paper.specs.Table.{cells, start_at}
use Rattle.plate.specs.Refusal.{done}
use Rattle.plate.specs.Head.{Held, held_in, cells_of}
use Rattle.plate.specs.declared.head.Head.{Head}
use Rattle.record.specs.Bytes.{Bytes, le16, le32}
use Rattle.record.specs.Frame.{body_at}
use Rattle.table.specs.Table.{Bounded}
use Rattle.sent.specs.Start.{row_start, twos16, signed16}
use Rattle.sent.specs.Written.{rows_of, table_bytes, file_of, Sendable}
use Rattle.sent.specs.File.{head_in, row_place, rows_checks, file_checks, cells_from, cells_in, table_file}
use Rattle.sent.proofs.Starts.{twos_small, start_is, row-cell}
use Rattle.sent.proofs.Laid.{bytes-table}
use Rattle.sent.proofs.Rows.{few-rows, cell-place}
use Rattle.sent.proofs.Reading.{read_back}
use Rattle.sent.proofs.Writing.{Row, each_row, rows-passed, accepted, written_back, read-sendable}

-- READ AFTER WRITE
pub read-after-write : (held : Held) → Sendable held → table_file (file_of held) ≡ done held
read-after-write held p =
    let e = take_all (cells_of held.head) held.buffer (omega (arith, p.whole)) in
    read_back held.head held.buffer p.settings p.bounds ∙ ap (λ (l : List ℕ). done (held_in held.head l)) e

module _ (s : List ℕ) (byte : Bytes s) (held : Held) where
  -- WRITE AFTER READ
  pub write-after-read : table_file s ≡ done held → file_of held ≡ s
  write-after-read e = written_back s byte held e

  -- THE ACCEPTED FILES
  pub exactly : (table_file s ≡ done held) ↔ (Sendable held × (s ≡ file_of held))
  exactly = (
    λ e. (read-sendable s byte held e, sym (write-after-read e)),
    λ p. ap table_file p.1 ∙ read-after-write held p.0,
  )

-- a file is of one table only
pub injective : (held other : Held) → Sendable held → Sendable other → file_of held ≡ file_of other → held ≡ other
injective held other p q e = let c = sym (read-after-write held p) ∙ ap table_file e ∙ read-after-write other q in cc

-- ---- the bytes of a row, by the reader's checks of the file that is written

module _ (head : Head) (cells : List ℕ) (p : paper.Settings head.height head.members) (b : Bounded (held_in head cells)) where
  -- what was asked of it, and what is read in it
  pub written-accepted : (first (file_checks (table_bytes head cells)) ≡ none)
      × (held_in (head_in (table_bytes head cells)) (cells_in (table_bytes head cells)) ≡ held_in head (take (cells_of head) cells))
  written-accepted = accepted (table_bytes head cells) (bytes-table head cells) (held_in head (take (cells_of head) cells)) (read_back head cells p b)

  pub head_read : head_in (table_bytes head cells) ≡ head
  head_read = ap (λ (held : Held). held.head) written-accepted.1

  module _ (r : ℕ) (l : r < rows_of head) where
    -- row r stands at its place
    pub row_written : Row (table_bytes head cells) (bytes-table head cells) head r
    row_written =
        let s = table_bytes head cells in
        let passed = subst (λ (h : Head). first (rows_checks s h (rows_of h) 0) ≡ none) head_read (rows-passed s (bytes-table head cells) written-accepted.0) in
        let z : 0 + r ≡ r = omega arith in
        subst (Row s (bytes-table head cells) head) z (each_row s (bytes-table head cells) head (rows_of head) 0 r l passed)

    -- THE START of row r is document 01's, of the row's first cell
    pub start-bytes : signed16 (le16 (table_bytes head cells) (body_at (row_place head.members r))) ≡ start_at head.members (r * tmax head.members)
    start-bytes =
        let T = head.members in
        let s = table_bytes head cells in
        let n = le16 s (body_at (row_place T r)) in
        let e : n ≡ twos16 (row_start T r) = row_written.start in
        let few = (few-rows head.height T p).1 in
        let w : r * tmax T + 0 ≡ r * tmax T = omega arith in
        (start_is T r n (omega arith) (omega (arith, twos_small (row_start T r)))).0 e ∙ sym (row-cell T r 0 p.some-thickness).0 ∙ ap (start_at T) w

    -- THE CELLS of row r are the table's
    pub cell-bytes : (j : ℕ) → j < tmax head.members
        → le32 (table_bytes head cells) (body_at (row_place head.members r) + 2 + 4 * j) ≡ get_or cells (r * tmax head.members + j) 0
    unfolding cells cells_in
    cell-bytes j m =
        let T = head.members in
        let s = table_bytes head cells in
        let i = r * tmax T + j in
        let z : 0 + r ≡ r = omega arith in
        let read = ap (λ (h : Head). cells_from s h.members (rows_of h) 0) (sym head_read) ∙ ap (λ (held : Held). held.buffer) written-accepted.1 in
        sym (rw z at (cell-place s T (rows_of head) 0 r j l m)) ∙ ap (λ (l : List ℕ). get_or l i 0) read ∙ get_or-take (cells_of head) cells i 0 (digits_lt l m)
