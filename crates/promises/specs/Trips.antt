-- Document 02 c) with demand 3: 'Demand 3 covers a group's table sent so as if it had stayed where it was made.' A trip by the calls' own definitions,
-- joins in an order and a bracketing where any of the tables, and any joined part, is sent once or often, and the sentences of demand 3 on them.
-- Assumes nothing.
use Rattle.std.specs.Prelude.{ℕ, ◌≤◌, ◌<◌, ◌≡◌, ◌↔◌, ℤ, length, get_or, take, drop}
use mathlib.Core.List.{List, ◌++◌, map, Perm}
use Rattle.paper.specs.Limits.{most_columns}
use Rattle.paper.specs.Layer.{Column}
use Rattle.paper.specs.Table.{cells, cell_at, of_table}
use Rattle.paper.specs.Sequence.{count, Admissible, Chosen, None}
use Rattle.paper.specs.Groups.{AddUp}
use Rattle.plate.specs.Call.{left_by}
use Rattle.plate.specs.Head.{Held, held_in, cleared_head}
use Rattle.plate.specs.Refusal.{Told, done, refused}
use Rattle.sent.specs.Written.{file_size}
use Rattle.send.specs.Sending.{sending, write_answer}
use Rattle.receive.specs.Receiving.{receiving}
use Rattle.promises.specs.Runs as run
use Rattle.promises.specs.Runs.{runs, next, join, tabulate, Group, Joins, one, both, columns_of, LentEnough, Tabulates, TableOf, TablesOf, join_held, buffers_of, count_of, Joined}
use Rattle.promises.specs.Ways.{WithinLimits}

-- ---- a trip

-- the reader, of the bytes that the writer answered and left
abbrev pub read_again : Told ℕ → List ℕ → List ℕ → Told Held
read_again (done size) left lent = runs (receiving (take size left) lent)
read_again (refused number place) left lent = refused number place

-- a table is written into a lent output, and what was written is read into a lent table
abbrev pub send_into : Held → List ℕ → List ℕ → Told Held
send_into held out lent = read_again (write_answer held out) (left_by (sending held out)) lent

-- an output and a table with room; the length of a file goes by the settings
pub record RoomForFile (N T : ℕ) (out lent : List ℕ) : Type 0 where
  pub file : file_size (cleared_head N T) ≤ length out
  pub table : cells N T ≤ length lent

-- ---- joins with trips in between

-- a table stays where it was made; or what was joined is sent, through an output into a table that are lent for it; or two are joined
pub data Trips (A : Type 0) : Type 0 where
  here : A → Trips A
  sent : Trips A → List ℕ → List ℕ → Trips A
  met : Trips A → Trips A → Trips A

-- the same joins where all stays where it was made
abbrev pub stayed : {A : Type 0} → Trips A → Joins A
stayed (here x) = one x
stayed (sent j out lent) = stayed j
stayed (met a b) = both (stayed a) (stayed b)

-- the calls, by how each of the tables was made
abbrev pub join_trips : {A : Type 0} → (A → Told Held) → Trips A → Told Held
join_trips made (here x) = made x
join_trips made (sent j out lent) = next (join_trips made j) (λ h. send_into h out lent)
join_trips made (met a b) = next (join_trips made a) (λ h. next (join_trips made b) (λ k. join h k))

-- a group's table, made by clearing and adding
abbrev pub made : ℕ → ℕ → Group → Told Held
made N T g = tabulate N T g.columns g.lent

-- each output and each table that is lent for a trip has room
abbrev pub LentForTrips : {A : Type 0} → ℕ → ℕ → Trips A → Type 0
LentForTrips N T (here x) = Unit {0}
LentForTrips N T (sent j out lent) = LentForTrips N T j × RoomForFile N T out lent
LentForTrips N T (met a b) = LentForTrips N T a × LentForTrips N T b

-- the columns of a plate, each dealt to one group, and the groups' tables joined with trips in between
pub record DealtWithTrips (N T : ℕ) (plate : List Column) (groups : Trips Group) : Type 0 where
  pub dealt : Perm (columns_of (stayed groups)) plate
  pub tables : LentEnough N T (stayed groups)
  pub trips : LentForTrips N T groups

-- tables in bounds, whoever filled them, joined with trips in between, the sum of their counts within the limit
pub record TablesWithTrips (N T : ℕ) (tables : Trips Held) : Type 0 where
  pub bounds : TablesOf N T (stayed tables)
  pub few : count_of (stayed tables) ≤ most_columns
  pub trips : LentForTrips N T tables

-- two runs that were not refused, and hold the same table: what goes with it, and cell for cell
pub record Alike (N T : ℕ) (run other : Told Held) : Type 0 where
  pub held : Held
  pub is : run ≡ done held
  pub same : Held
  pub other-is : other ≡ done same
  pub heads : held.head ≡ same.head
  pub cells_are : (i : ℕ) → i < cells N T → get_or held.buffer i 0 ≡ get_or same.buffer i 0

-- of settings within limits
pub record TripsJoin (N T : ℕ) : Type 0 where
  -- a table in bounds that is sent is never refused: what arrives is what goes with it, its cells, and then what the lent table held
  pub arrives : (held : Held) → TableOf N T held → (out lent : List ℕ) → RoomForFile N T out lent
      → send_into held out lent ≡ done (held_in held.head (take (cells N T) held.buffer ++ drop (cells N T) lent))
  -- a plate's table, however it came to be held, arrives as the plate's table
  pub arrives-plate : (plate : List Column) → length plate ≤ most_columns → (whole : Told Held) → Tabulates N T plate whole
      → (out lent : List ℕ) → RoomForFile N T out lent → Tabulates N T plate (next whole (λ h. send_into h out lent))
  -- 'The groups' tables, joined in any order and bracketing, give the plate's table cell for cell', with trips in between, once or often; and its
  -- column count, never refused within the limit
  pub joins : (plate : List Column) → WithinLimits N T plate → (groups : Trips Group) → DealtWithTrips N T plate groups
      → Tabulates N T plate (join_trips (made N T) groups)
  -- 'taking a joined group off gives the table of the rest', also where the group, or what it is taken off, came by file
  pub takes : (plate rest gone : List Column) → WithinLimits N T plate → Perm plate (rest ++ gone)
      → (whole group : Trips Group) → DealtWithTrips N T plate whole → DealtWithTrips N T gone group
      → Tabulates N T rest (next (join_trips (made N T) whole) (λ h. next (join_trips (made N T) group) (λ k. run.take h k)))
  -- tables in bounds, whoever filled them: joined with trips in between they are the sums, and never refused within the limit
  pub sums : (tables : Trips Held) → TablesWithTrips N T tables → Joined N T (stayed tables) (join_trips done tables)
  -- 'as if it had stayed where it was made'
  pub as-stayed : (tables : Trips Held) → TablesWithTrips N T tables → Alike N T (join_trips done tables) (join_held (stayed tables))
  -- so for every bound and count the chosen sequence is the same, and there is none where there was none
  pub alike-chosen : (run other : Told Held) (x : Alike N T run other) (bound n : ℕ) (zs : List ℤ)
      → Chosen (of_table N T x.held.buffer) bound n zs ↔ Chosen (of_table N T x.same.buffer) bound n zs
  pub alike-none : (run other : Told Held) (x : Alike N T run other) (bound n : ℕ)
      → None (of_table N T x.held.buffer) bound n ↔ None (of_table N T x.same.buffer) bound n
  -- 'there a layer's error is its cell, and demand 3's sentence on least errors holds with the joined table for the plate's'
  pub adds-up : (tables : Trips Held) (whole : Joined N T (stayed tables) (join_trips done tables))
      → (bound : ℕ) (zs : List ℤ) → Admissible (of_table N T whole.held.buffer) bound zs
      → AddUp (of_table N T whole.held.buffer) bound (count zs) (map (cell_at T) (buffers_of (stayed tables)))
