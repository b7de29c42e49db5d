-- The loop of `first_heaped`: so far the way has come, and none of the rows below has such a cell.
use Rattle.paper.specs.Layer.{column_of}
use Rattle.near.specs.Facing.{Reached}
use Rattle.adding.specs.Heaped.{NoneHeaped}
use Rattle.adding.proofs.first_heaped.Given as goal

abbrev pub invariant-loop-k : goal.invariant-loop-k
invariant-loop-k l = record {
  reached : Reached l.rows.column.now l.rows.s.tmax l.rows.s.rows l.k l.row;
  none : NoneHeaped l.rows.s.members l.rows.caps.now l.table (column_of l.rows.column.now) l.rows.s.tmax l.row;
}
