-- Demand 3 for tables that are sent. The writer takes a table in bounds where the output has room, the first bytes that it leaves are the table's file,
-- and the reader reads them back: so what arrives has the same head and the same cells. Hence what is known of a table by its head and cells is
-- known of what arrives, and joins with trips in between end as the joins where all stays, by induction on the tree; the sentence on least errors is
-- `meaning`'s, on tables whose cells add up. Assumes nothing.
use mathlib.Core.Path.{◌≡◌, refl, sym, ap, ap₂, ◌∙◌}
use mathlib.Core.Logic.{◌↔◌}
use mathlib.Core.List.Perm
use mathlib.Core.List.{List, [], ◌∷◌, ◌++◌, Perm}
use Prim.Native.Nat.{ℕ, ◌≤◌, ◌<◌}
use native.Mathlib.Omega.{arith}
use lib.IntN.{ℤ}
use lib.ListN.{length, get_or, take, drop, length-append, length-drop, get_or-append}
use lib.Seq.{length-take-le, get_or-take, take_at}
use Rattle.lists.proofs.Perm.{length-perm}
use Rattle.paper.specs.Limits.{most_columns}
use Rattle.paper.specs.Layer as paper
use Rattle.paper.specs.Layer.{Column}
use Rattle.paper.specs.Table.{cells, cell_at, of_table}
use Rattle.paper.specs.Sequence.{Chosen, None}
use Rattle.plate.specs.Head.{Held, held_in, cells_of, cleared_head}
use Rattle.plate.specs.Refusal.{Told, done}
use Rattle.plate.proofs.Calls.{passes}
use Rattle.table.specs.Table.{Bounded}
use Rattle.sent.specs.Written.{file_of, file_size}
use Rattle.sent.proofs.Laid.{length-table}
use Rattle.sent.proofs.Reading.{read_back}
use Rattle.send.specs.Sending.{sending}
use Rattle.receive.specs.Receiving.{receiving}
use Rattle.meaning.specs.Working.{Agree}
use Rattle.meaning.proofs.Table.{tables-divided}
use Rattle.meaning.proofs.Usable.{same_chosen, same_none}
use Rattle.promises.specs.Plans.{SettingsOf}
use Rattle.promises.specs.Runs as run
use Rattle.promises.specs.Runs.{holds, runs, next, Group, columns_of, LentEnough, Columns, Tabulated, Tabulates, TableOf, TablesOf, join_held, count_of, Joined}
use Rattle.promises.specs.Sent.{ReadInto}
use Rattle.promises.specs.Trips.{read_again, send_into, RoomForFile, Trips, here, sent, met, stayed, join_trips, made, LentForTrips, DealtWithTrips, TablesWithTrips, Alike, TripsJoin}
use Rattle.promises.specs.Ways.{WithinLimits}
use Rattle.promises.proofs.Dealt.{columns-perm, ordered, as-few}
use Rattle.promises.proofs.Groups.{join-sums, joins-sum, tables-add-up}
use Rattle.promises.proofs.Sent.{send-fine, same-bounds, into-read, leaves}
use Rattle.promises.proofs.Tables.{tabulated-bounds, tabulates-perm, columns-append, cells-of, join-held, tabulates, takes-rest}

-- ---- a trip

-- what arrives
abbrev arrived : ℕ → Held → List ℕ → Held
arrived n h lent = held_in h.head (take n h.buffer ++ drop n lent)

module _ (h : Held) (out lent : List ℕ) (p : SettingsOf h) (b : Bounded h) where
  -- the writer, and then the reader
  trip-done : file_size h.head ≤ length out → cells_of h.head ≤ length lent → send_into h out lent ≡ done (arrived (cells_of h.head) h lent)
  unfolding sending
  trip-done output table =
      let size = file_size h.head in
      let w = passes (sending h out) (send-fine h out p b output) in
      let first-bytes = take_at (file_of h) (drop size out) size (length-table h.head h.buffer b.size) in
      let r : ReadInto (file_of h) lent h.head = record { cells = take (cells_of h.head) h.buffer; read = read_back h.head h.buffer p b; room = table } in
      ap₂ (λ (t : Told ℕ) (l : List ℕ). read_again t l lent) w.0 w.1
      ∙ ap (λ (file : List ℕ). runs (receiving file lent)) first-bytes
      ∙ ap₂ holds (into-read (file_of h) lent h.head r) (leaves (file_of h) lent h.head r)

-- ---- tables with the same cells

-- are plates with the same errors
agree : (N T : ℕ) (a b : List ℕ) → ((i : ℕ) → i < cells N T → get_or a i 0 ≡ get_or b i 0) → Agree (of_table N T a) (cell_at T b)
agree N T a b same z t u = let d = tables-divided N T a (b ∷ []) (λ i l. omega (arith, same i l)) z t u in omega arith

module _ (N T : ℕ) (run other : Told Held) (x : Alike N T run other) (bound n : ℕ) where
  onward : Agree (of_table N T x.held.buffer) (cell_at T x.same.buffer)
  onward = agree N T x.held.buffer x.same.buffer x.cells_are

  backward : Agree (of_table N T x.same.buffer) (cell_at T x.held.buffer)
  backward = agree N T x.same.buffer x.held.buffer (λ i l. sym (x.cells_are i l))

  alike-chosen : (zs : List ℤ) → Chosen (of_table N T x.held.buffer) bound n zs ↔ Chosen (of_table N T x.same.buffer) bound n zs
  alike-chosen zs = (
    same_chosen (of_table N T x.held.buffer) (cell_at T x.same.buffer) onward bound n zs,
    same_chosen (of_table N T x.same.buffer) (cell_at T x.held.buffer) backward bound n zs,
  )

  alike-none : None (of_table N T x.held.buffer) bound n ↔ None (of_table N T x.same.buffer) bound n
  alike-none = (
    same_none (of_table N T x.held.buffer) (cell_at T x.same.buffer) onward bound n,
    same_none (of_table N T x.same.buffer) (cell_at T x.held.buffer) backward bound n,
  )

module _ (N T : ℕ) (settings : paper.Settings N T) where
  -- ---- what arrives

  module _ (h : Held) (out lent : List ℕ) (room : RoomForFile N T out lent) (a : TableOf N T h) where
    arrives : send_into h out lent ≡ done (arrived (cells N T) h lent)
    unfolding file_size
    arrives =
        let n = cells-of N T settings h a in
        let size : file_size h.head ≡ file_size (cleared_head N T) = rw (a.height, a.members) refl in
        trip-done h out lent (rw (a.height, a.members) settings) a.bounds (omega (arith, room.file)) (omega (arith, room.table))
        ∙ ap (λ (n : ℕ). done (arrived n h lent)) n

    arrived-size : cells N T ≤ length h.buffer
    arrived-size = omega (arith, cells-of N T settings h a, a.bounds.size)

    arrived-cell : (i : ℕ) → i < cells N T → get_or (arrived (cells N T) h lent).buffer i 0 ≡ get_or h.buffer i 0
    arrived-cell i l =
        get_or-append (take (cells N T) h.buffer) (drop (cells N T) lent) 0 i (omega (arith, length-take-le (cells N T) h.buffer arrived-size))
        ∙ get_or-take (cells N T) h.buffer i 0 l

    -- the lent table keeps its length
    arrived-length : length (arrived (cells N T) h lent).buffer ≡ length lent
    arrived-length =
        omega (arith, length-append (take (cells N T) h.buffer) (drop (cells N T) lent), length-take-le (cells N T) h.buffer arrived-size, length-drop (cells N T) lent, room.table)

    arrived-bounds : TableOf N T (arrived (cells N T) h lent)
    arrived-bounds =
        let n = cells-of N T settings h a in
        record {
          height = a.height;
          members = a.members;
          bounds = same-bounds h.head h.buffer (arrived (cells N T) h lent).buffer (omega (arith, arrived-length, room.table))
              (λ i l. arrived-cell i (omega arith)) a.bounds;
        }

    arrived-tabulated : (columns : List Column) → Tabulated N T columns h → Tabulated N T columns (arrived (cells N T) h lent)
    arrived-tabulated columns t = record {
      table = record { size = omega (arith, arrived-length, room.table); holds = λ i l. arrived-cell i l ∙ t.table.holds i l };
      goes = t.goes;
    }

  -- ---- any tables in bounds

  trips-sum : (j : Trips Held) → TablesOf N T (stayed j) → count_of (stayed j) ≤ most_columns → LentForTrips N T j → Joined N T (stayed j) (join_trips done j)
  trips-sum (here h) b few room = record { held = h; is = refl; counted = refl; right = b; sums = λ i l. omega arith }
  trips-sum (sent j out lent) b few room = go (trips-sum j b few room.0)
    where
      go : Joined N T (stayed j) (join_trips done j) → Joined N T (stayed j) (join_trips done (sent j out lent))
      go x = record {
        held = arrived (cells N T) x.held lent;
        is = ap (λ (r : Told Held). next r (λ h. send_into h out lent)) x.is ∙ arrives x.held out lent room.1 x.right;
        counted = x.counted;
        right = arrived-bounds x.held out lent room.1 x.right;
        sums = λ i l. arrived-cell x.held out lent room.1 x.right i l ∙ x.sums i l;
      }
  trips-sum (met a b) w few room =
      join-sums N T settings (stayed a) (stayed b) (join_trips done a) (join_trips done b) (trips-sum a w.0 (omega arith) room.0) (trips-sum b w.1 (omega arith) room.1) few

  sums : (j : Trips Held) → TablesWithTrips N T j → Joined N T (stayed j) (join_trips done j)
  sums j w = trips-sum j w.bounds w.few w.trips

  -- two sums of the same tables are alike
  alike : (j : Trips Held) (run other : Told Held) → Joined N T (stayed j) run → Joined N T (stayed j) other → Alike N T run other
  alike j run other x y = record {
    held = x.held;
    is = x.is;
    same = y.held;
    other-is = y.is;
    heads = λ i. record {
      height = (x.right.height ∙ sym y.right.height) i;
      members = (x.right.members ∙ sym y.right.members) i;
      columns = (x.counted ∙ sym y.counted) i;
    };
    cells_are = λ i l. x.sums i l ∙ sym (y.sums i l);
  }

  as-stayed : (j : Trips Held) → TablesWithTrips N T j → Alike N T (join_trips done j) (join_held (stayed j))
  as-stayed j w = alike j (join_trips done j) (join_held (stayed j)) (sums j w) (joins-sum N T settings (stayed j) w.bounds w.few)

  -- ---- tables of columns

  arrives-plate : (plate : List Column) → length plate ≤ most_columns → (whole : Told Held) → Tabulates N T plate whole
      → (out lent : List ℕ) → RoomForFile N T out lent → Tabulates N T plate (next whole (λ h. send_into h out lent))
  arrives-plate plate few whole x out lent room =
      let a = tabulated-bounds N T plate x.held few x.right in
      record {
        held = arrived (cells N T) x.held lent;
        is = ap (λ (r : Told Held). next r (λ h. send_into h out lent)) x.is ∙ arrives x.held out lent room a;
        right = arrived-tabulated x.held out lent room a plate x.right;
      }

  trips-tabulate : (j : Trips Group) → LentEnough N T (stayed j) → LentForTrips N T j → Columns N (columns_of (stayed j)) → length (columns_of (stayed j)) ≤ most_columns
      → Tabulates N T (columns_of (stayed j)) (join_trips (made N T) j)
  trips-tabulate (here g) tables room order few = tabulates N T settings g.columns g.columns g.lent (Perm.refl g.columns) order few tables
  trips-tabulate (sent j out lent) tables room order few =
      arrives-plate (columns_of (stayed j)) few (join_trips (made N T) j) (trips-tabulate j tables room.0 order few) out lent room.1
  trips-tabulate (met a b) tables room order few =
      let n = length-append (columns_of (stayed a)) (columns_of (stayed b)) in
      let o = columns-append N (columns_of (stayed a)) (columns_of (stayed b)) order in
      join-held N T settings (columns_of (stayed a)) (columns_of (stayed b)) (join_trips (made N T) a) (join_trips (made N T) b)
      (trips-tabulate a tables.0 room.0 o.0 (omega arith)) (trips-tabulate b tables.1 room.1 o.1 (omega arith)) few

  joins : (plate : List Column) → WithinLimits N T plate → (groups : Trips Group) → DealtWithTrips N T plate groups → Tabulates N T plate (join_trips (made N T) groups)
  joins plate within groups d =
      let columns = columns_of (stayed groups) in
      tabulates-perm N T columns plate (join_trips (made N T) groups) d.dealt
      (trips-tabulate groups d.tables d.trips (ordered N T plate within columns d.dealt) (as-few N T plate within columns d.dealt))

  takes-held : (plate rest gone : List Column) → length plate ≤ most_columns → Perm plate (rest ++ gone) → (whole group : Told Held)
      → Tabulates N T plate whole → Tabulates N T gone group → Tabulates N T rest (next whole (λ h. next group (λ k. run.take h k)))
  takes-held plate rest gone few p whole group x y =
      let z = takes-rest N T settings rest gone plate x.held y.held p x.right y.right few in
      record {
        held = z.held;
        is = ap (λ (r : Told Held). next r (λ h. next group (λ k. run.take h k))) x.is ∙ ap (λ (r : Told Held). next r (λ k. run.take x.held k)) y.is ∙ z.is;
        right = z.right;
      }

  -- of the columns of a plate that is within limits, those that go are too
  gone-within : (plate rest gone : List Column) → WithinLimits N T plate → Perm plate (rest ++ gone) → WithinLimits N T gone
  gone-within plate rest gone within p = record {
    settings = within.settings;
    columns = (columns-append N rest gone (columns-perm N plate (rest ++ gone) p within.columns)).1;
    few = omega (arith, length-perm plate (rest ++ gone) p, length-append rest gone, within.few);
  }

  takes : (plate rest gone : List Column) → WithinLimits N T plate → Perm plate (rest ++ gone)
      → (whole group : Trips Group) → DealtWithTrips N T plate whole → DealtWithTrips N T gone group
      → Tabulates N T rest (next (join_trips (made N T) whole) (λ h. next (join_trips (made N T) group) (λ k. run.take h k)))
  takes plate rest gone within p whole group x y =
      takes-held plate rest gone within.few p (join_trips (made N T) whole) (join_trips (made N T) group) (joins plate within whole x)
      (joins gone (gone-within plate rest gone within p) group y)

  pub trips-join : TripsJoin N T
  trips-join = record {
    arrives = λ held a out lent room. arrives held out lent room a;
    arrives-plate = arrives-plate;
    joins = joins;
    takes = takes;
    sums = sums;
    as-stayed = as-stayed;
    alike-chosen = λ run other x bound n zs. alike-chosen N T run other x bound n zs;
    alike-none = λ run other x bound n. alike-none N T run other x bound n;
    adds-up = λ tables whole bound zs a. tables-add-up N T settings bound (stayed tables) whole zs a;
  }
