-- THE MISSION is met: each sentence by the theorem that says it. From the columns to the sequence: each way leaves the plate's table, which is in
-- bounds, so that it is planned and read back in the words of the columns. Assumes nothing.
use Prim.Native.Nat.{ℕ, ◌≤◌}
use mathlib.Core.Path.{◌≡◌}
use mathlib.Core.List.{List}
use Rattle.paper.specs.Layer as paper
use Rattle.paper.specs.Layer.{Column, of_columns}
use Rattle.paper.specs.Limits.{most_columns}
use Rattle.paper.specs.Table.{Table}
use Rattle.plate.specs.Head.{Held}
use Rattle.record.specs.Bytes.{Bytes}
use Rattle.promises.specs.Mission.{Mission}
use Rattle.promises.specs.Groups.{GroupsJoin, TablesJoin}
use Rattle.promises.specs.Jobs.{JobDecided}
use Rattle.promises.specs.Plans.{Room, Plans}
use Rattle.promises.specs.Runs.{Joins, Tabulated, Tabulates, count_of, TableOf, TablesOf}
use Rattle.promises.specs.Ways.{WithinLimits, Way, added, dealt, run_of, PlansPlate, PlannedFrom}
use Rattle.promises.proofs.Dealt.{ordered, as-few}
use Rattle.promises.proofs.Errors.{error-counts}
use Rattle.promises.proofs.Files.{first-decides, end-decides, fault-place, file-tabulated}
use Rattle.promises.proofs.Groups.{columns-add-up, joins-sum, tables-add-up}
use Rattle.promises.proofs.Orders.{orders}
use Rattle.promises.proofs.Planned.{columns-plan, plans-table}
use Rattle.promises.proofs.Refusals.{refusals}
use Rattle.promises.proofs.Tables.{tabulated-bounds, tabulates, joins-tabulate, takes-rest}
use Rattle.promises.proofs.Told.{only, unwritten, unmoved}

-- ---- demand 1, of files

job-decided : (most : ℕ) (s : List ℕ) → Bytes s → JobDecided most s
job-decided most s byte = record {
  fault = first-decides most s;
  place = fault-place most s;
  end = end-decides most s;
  read = λ job is lent room. file-tabulated job lent room most s byte is;
}

-- ---- demand 2, from the columns to the sequence

module _ (N T : ℕ) (plate : List Column) (within : WithinLimits N T plate) where
  -- each way leaves the plate's table
  tabulated : (way : Way N T plate) → Tabulates N T plate (run_of N T plate way)
  tabulated (added columns lent p room) = tabulates N T within.settings columns plate lent p (ordered N T plate within columns p) (as-few N T plate within columns p) room
  tabulated (dealt groups p room) = joins-tabulate N T within.settings groups plate p room (ordered N T plate within _ p) (as-few N T plate within _ p)

  -- and it is planned and read back
  held-plans : (held : Held) → Tabulated N T plate held → PlansPlate N T plate held
  held-plans held t bound small lent room =
      go held.head.height held.head.members b.height b.members
      (λ settings room table. columns-plan held bound small lent settings b.bounds room plate table)
    where
      b : TableOf N T held
      b = tabulated-bounds N T plate held within.few t

      go : (height members : ℕ) → height ≡ N → members ≡ T
          → (paper.Settings height members → Room height members lent → Table (of_columns height members plate) held.buffer
          → Plans (of_columns height members plate) held bound lent)
          → Plans (of_columns N T plate) held bound lent
      go height members e f p = (rw (e, f) at p) within.settings room t.table

  planned-from : (way : Way N T plate) → PlannedFrom N T plate (run_of N T plate way)
  planned-from way = let t = tabulated way in record { held = t.held; is = t.is; right = t.right; plans = held-plans t.held t.right }

  -- ---- demand 3

  groups-join : GroupsJoin N T plate
  groups-join = record {
    joins = λ groups p room. joins-tabulate N T within.settings groups plate p room (ordered N T plate within _ p) (as-few N T plate within _ p);
    takes = λ rest gone whole group p a b. takes-rest N T within.settings rest gone plate whole group p a b within.few;
    adds-up = λ groups p bound zs a. columns-add-up N T bound plate groups p zs a;
  }

tables-join : (N T : ℕ) → paper.Settings N T → (tables : Joins Held) → TablesOf N T tables → count_of tables ≤ most_columns → TablesJoin N T tables
tables-join N T settings tables b few =
    let j = joins-sum N T settings tables b few in
    record { joined = j; adds-up = λ bound zs a. tables-add-up N T settings bound tables j zs a }

pub mission : Mission
mission = record {
  answered = orders;
  decided = job-decided;
  told-apart = only;
  refused-exactly = refusals;
  unwritten = unwritten;
  unmoved = unmoved;
  errors = error-counts;
  given = planned-from;
  given-held = held-plans;
  given-table = λ held bound lent bits small. plans-table held bound small lent bits;
  groups = groups-join;
  tables = tables-join;
}
