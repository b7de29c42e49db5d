-- The loop of `heaped_near`: none of the rows before has such a cell.
use Rattle.paper.specs.Layer.{column_of}
use Rattle.adding.specs.Heaped.{NoneHeaped}
use Rattle.adding.proofs.heaped_near.Given as goal

abbrev pub invariant-loop-row : goal.invariant-loop-row
invariant-loop-row l = NoneHeaped l.rows.s.members l.rows.caps.now l.table (column_of l.rows.column.now) l.rows.s.tmax l.row
