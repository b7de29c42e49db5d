-- Demand 3 as statements: of a plate's columns dealt into groups, and of any tables in bounds. Assumes nothing.
use Rattle.std.specs.Prelude.{ℕ, ℤ}
use mathlib.Core.List.{List, ◌++◌, map, flatten, Perm}
use Rattle.paper.specs.Layer.{Column, shares, of_columns}
use Rattle.paper.specs.Table.{cell_at, of_table}
use Rattle.paper.specs.Sequence.{count, Admissible}
use Rattle.paper.specs.Groups.{AddUp}
use Rattle.plate.specs.Head.{Held}
use Rattle.promises.specs.Runs.{take, Group, Joins, columns_of, join_all, LentEnough, Tabulated, Tabulates, join_held, buffers_of, Joined}

-- the columns of a plate, each dealt to one group
pub record GroupsJoin (N T : ℕ) (plate : List Column) : Type 0 where
  -- 'The groups' tables, joined in any order and bracketing, give the plate's table cell for cell'
  pub joins : (groups : Joins Group) → Perm (columns_of groups) plate → LentEnough N T groups → Tabulates N T plate (join_all N T groups)
  -- 'taking a joined group off gives the table of the rest'
  pub takes : (rest gone : List Column) (whole group : Held) → Perm plate (rest ++ gone) → Tabulated N T plate whole → Tabulated N T gone group
      → Tabulates N T rest (take whole group)
  -- 'For a count that the plate can be built in, under one bound, the groups' own least errors add up to no more than the plate's, and to exactly
  -- as much when, and only when, one sequence admissible for the plate is least for every group'
  pub adds-up : (groups : List (List Column)) → Perm (flatten groups) plate → (bound : ℕ) (zs : List ℤ) → Admissible (of_columns N T plate) bound zs
      → AddUp (of_columns N T plate) bound (count zs) (map shares groups)

-- tables, whoever filled them: joined they are the sums, and the same sentence holds of their plates
pub record TablesJoin (N T : ℕ) (tables : Joins Held) : Type 0 where
  pub joined : Joined N T tables (join_held tables)
  pub adds-up : (bound : ℕ) (zs : List ℤ) → Admissible (of_table N T joined.held.buffer) bound zs
      → AddUp (of_table N T joined.held.buffer) bound (count zs) (map (cell_at T) (buffers_of tables))
