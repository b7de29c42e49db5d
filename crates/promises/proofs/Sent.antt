-- Sending a table. The round trips are crate `sent`'s. The writer's checks pass exactly on settings within limits, cells in bounds and an output with
-- room, the reader's exactly on a file that is accepted and a lent table with room. What the reader leaves has the cells of the file in front: so it is
-- in bounds as they are, the same file is written of it, and it is planned as any table is. Assumes nothing.
use mathlib.Core.Path.{◌≡◌, sym, ap, subst, ◌∙◌}
use mathlib.Core.Logic.{◌↔◌}
use mathlib.Core.List.{List, [], ◌∷◌, ◌++◌}
use mathlib.Core.Option.{Option, none}
use Prim.Native.Nat.{ℕ, ◌≤◌, ◌<◌}
use native.Mathlib.Omega.{arith}
use borrow.Author.Tests.{le-ltb, ltb-false}
use lib.ListN.{length, get_or, take, drop, length-append, get_or-append}
use lib.Seq.{take_at}
use Rattle.lists.specs.Checks.{first}
use Rattle.lists.proofs.Checks.{first-none, first-later, first-earlier, first-passed}
use Rattle.paper.specs.Limits.{sets, largest_bound}
use Rattle.paper.specs.Table.{cells}
use Rattle.plate.specs.Call.{answer_of, left_by}
use Rattle.plate.specs.Head.{Held, held_in, cells_of, head_checks}
use Rattle.plate.specs.Refusal.{done, Numbered, told_by}
use Rattle.plate.specs.declared.head.Head.{Head}
use Rattle.plate.proofs.Calls.{finished, passes}
use Rattle.plate.proofs.Decided.{told-done}
use Rattle.column.proofs.Fine.{settings-fine, settings-passed}
use Rattle.table.specs.Table.{short, bound_checks, table_rest, table_checks, Bounded}
use Rattle.table.proofs.Passed.{table-fine, bounds-passed}
use Rattle.record.specs.Bytes.{Bytes}
use Rattle.sent.specs.Written.{rows_of, file_of, file_size, Sendable}
use Rattle.sent.specs.File.{head_in, file_checks, cells_in, table_file}
use Rattle.sent.proofs.Laid.{bytes-table, length-cells}
use Rattle.sent.proofs.Reading.{read_back}
use Rattle.sent.proofs.Writing.{read-sendable}
use Rattle.sent.proofs.Round.{read-after-write, write-after-read, exactly, injective, start-bytes}
use Rattle.send.specs.Sending.{no_room, sending}
use Rattle.receive.specs.Receiving.{receiving}
use Rattle.plan.specs.Plan.{Sheets}
use Rattle.promises.specs.Plans.{plate_of, SettingsOf, Room, Plans}
use Rattle.promises.specs.Sent.{SentOver, ReadInto, received_in, SendingTables}
use Rattle.promises.proofs.Planned.{table-plans}
use Rattle.promises.proofs.SentBytes.{size_is, opens, row_is, row-cell, ends}

-- ---- the writer

module _ (held : Held) (out : List ℕ) where
  -- what is in order is not refused
  pub send-fine : SettingsOf held → Bounded held → file_size held.head ≤ length out → first (sending held out).checks ≡ none
  unfolding sending no_room
  send-fine p b room =
      first-passed (table_checks held) (no_room held.head (length out) ∷ []) (table-fine held (settings-fine held.head.height held.head.members p) b)
      ∙ simp (le-ltb (length out) (file_size held.head) room)

  pub takes : SettingsOf held → Bounded held → file_size held.head ≤ length out → answer_of (sending held out) ≡ done (file_size held.head)
  unfolding sending
  takes p b room = (passes (sending held out) (send-fine p b room)).0

  -- and what is not refused is in order
  rest-passed : first (table_rest held) ≡ none → Bounded held
  unfolding table_rest short
  rest-passed e =
      let q = (first-none (short held 1 ∷ [])).0 (first-earlier (short held 1 ∷ []) (bound_checks held) e) in
      bounds-passed held (ltb-false (length held.buffer) (cells_of held.head) q.0) (first-later (short held 1 ∷ []) (bound_checks held) e)

  table-passed : held.head.members < sets → first (table_checks held) ≡ none → SettingsOf held × Bounded held
  unfolding table_checks
  table-passed bits e = (
    settings-passed held.head.height held.head.members bits (first-earlier (head_checks held.head) (table_rest held) e),
    rest-passed (first-later (head_checks held.head) (table_rest held) e),
  )

  sends : held.head.members < sets → (size : ℕ) → answer_of (sending held out) ≡ done size → SentOver held out size (left_by (sending held out))
  unfolding sending no_room
  sends bits size e =
      let f = finished (sending held out) size e in
      let last = no_room held.head (length out) ∷ [] in
      let p = table-passed bits (first-earlier (table_checks held) last f.0) in
      let room = ltb-false (length out) (file_size held.head) ((first-none last).0 (first-later (table_checks held) last f.0)).0 in
      record {
        settings = p.0;
        bounds = p.1;
        long = sym f.1;
        room = omega (arith, f.1);
        holds = f.2 ∙ ap (λ (n : ℕ). file_of held ++ drop n out) f.1;
      }

-- ---- the reader

module _ (file lent : List ℕ) (head : Head) where
  length-read : length (cells_in file) ≡ cells_of (head_in file)
  unfolding cells_in cells
  length-read = length-cells file (head_in file).members (rows_of (head_in file)) 0

  reads-into : answer_of (receiving file lent) ≡ done head → ReadInto file lent head
  unfolding receiving short table_file
  reads-into e =
      let f = finished (receiving file lent) head e in
      let last = short (held_in (head_in file) lent) 1 ∷ [] in
      let room = ltb-false (length lent) (cells_of (head_in file)) ((first-none last).0 (first-later (file_checks file) last f.0)).0 in
      record {
        cells = cells_in file;
        read = ap (λ (o : Option Numbered). told_by o (held_in (head_in file) (cells_in file))) (first-earlier (file_checks file) last f.0)
            ∙ ap (λ (h : Head). done (held_in h (cells_in file))) f.1;
        room = subst (λ (h : Head). cells_of h ≤ length lent) f.1 room;
      }

  module _ (into : ReadInto file lent head) where
    accepted : (first (file_checks file) ≡ none) × (held_in (head_in file) (cells_in file) ≡ held_in head into.cells)
    unfolding table_file
    accepted = told-done (first (file_checks file)) (held_in (head_in file) (cells_in file)) (held_in head into.cells) into.read

    head-is : head_in file ≡ head
    head-is = ap (λ (h : Held). h.head) accepted.1

    cells_are : cells_in file ≡ into.cells
    cells_are = ap (λ (h : Held). h.buffer) accepted.1

    receive-fine : first (receiving file lent).checks ≡ none
    unfolding receiving short
    receive-fine =
        first-passed (file_checks file) (short (held_in (head_in file) lent) 1 ∷ []) accepted.0
        ∙ simp (le-ltb (length lent) (cells_of (head_in file)) (rw head-is into.room))

    pub into-read : answer_of (receiving file lent) ≡ done head
    unfolding receiving
    into-read = (passes (receiving file lent) receive-fine).0 ∙ ap done head-is

    -- the lent table is the cells, and its old rest
    pub leaves : left_by (receiving file lent) ≡ into.cells ++ drop (cells_of head) lent
    unfolding receiving
    leaves =
        (passes (receiving file lent) receive-fine).1
        ∙ ap (λ (n : ℕ). cells_in file ++ drop n lent) (length-read ∙ ap cells_of head-is)
        ∙ ap (λ (l : List ℕ). l ++ drop (cells_of head) lent) cells_are

  receives : (answer_of (receiving file lent) ≡ done head) ↔ ReadInto file lent head
  receives = (reads-into, into-read)

-- ---- what was received

-- a buffer with the same cells is in bounds too
pub same-bounds : (head : Head) (buffer other : List ℕ) → cells_of head ≤ length other → ((i : ℕ) → i < cells_of head → get_or other i 0 ≡ get_or buffer i 0)
    → Bounded (held_in head buffer) → Bounded (held_in head other)
same-bounds head buffer other size same b = record { size = size; columns = b.columns; bounded = λ i l. rw (same i l) (b.bounded i l) }

module _ (file : List ℕ) (byte : Bytes file) (lent : List ℕ) (head : Head) (into : ReadInto file lent head) where
  can-be-sent : Sendable (held_in head into.cells)
  can-be-sent = read-sendable file byte (held_in head into.cells) into.read

  -- what is received is in bounds
  pub received-bounds : Bounded (received_in file lent head)
  received-bounds =
      subst (λ (l : List ℕ). Bounded (held_in head l)) (sym (leaves file lent head into))
      (same-bounds head into.cells (into.cells ++ rest) (omega (arith, length-append into.cells rest, can-be-sent.whole))
      (λ i l. get_or-append into.cells rest 0 i (omega (arith, can-be-sent.whole))) can-be-sent.bounds)
    where
      rest : List ℕ
      rest = drop (cells_of head) lent

  -- what is written of it is the file: its front is the cells that were read
  write-received : file_of (received_in file lent head) ≡ file
  write-received =
      let n = cells_of head in
      let front = ap (λ (l : List ℕ). take n l) (leaves file lent head into) ∙ take_at into.cells (drop n lent) n can-be-sent.whole in
      let read = read_back head (received_in file lent head).buffer can-be-sent.settings received-bounds ∙ ap (λ (l : List ℕ). done (held_in head l)) front in
      sym (write-after-read (file_of (received_in file lent head)) (bytes-table head (received_in file lent head).buffer) (held_in head into.cells) read)
      ∙ write-after-read file byte (held_in head into.cells) into.read

  planned : (bound : ℕ) → bound ≤ largest_bound → (sheets : Sheets) → Room head.height head.members sheets
      → Plans (plate_of (received_in file lent head)) (received_in file lent head) bound sheets
  planned bound small sheets room = table-plans (received_in file lent head) bound small sheets can-be-sent.settings received-bounds room

pub sending-tables : SendingTables
sending-tables = record {
  read-after-write = read-after-write;
  read-front = λ held p b. read_back held.head held.buffer p b;
  write-after-read = write-after-read;
  write-received = λ file byte lent head e. write-received file byte lent head ((receives file lent head).0 e);
  exactly = exactly;
  injective = injective;
  bytes = bytes-table;
  size = size_is;
  opens = opens;
  row_is = row_is;
  start_is = λ held p b r l. start-bytes held.head held.buffer p b r l;
  row-cell = row-cell;
  ends = ends;
  sends = λ held bits out size e. sends held out bits size e;
  takes = λ held p b out room. takes held out p b room;
  receives = receives;
  leaves = leaves;
  planned = λ file byte lent head e. planned file byte lent head ((receives file lent head).0 e);
}
