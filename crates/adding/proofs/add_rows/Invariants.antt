-- The loop of `add_rows`: so far the way has come, and the rows below are rewritten; a row that is passed over has no share, so that it is
-- rewritten as it stands.
use Rattle.std.proofs.Common.{◌≡◌, ◌+◌, ◌*◌, length}
use Rattle.lists.specs.Rewrite.{Span}
use Rattle.paper.specs.Layer.{column_of}
use Rattle.near.specs.Facing.{Reached}
use Rattle.adding.specs.Adding.{addend}
use Rattle.adding.proofs.add_rows.Given as goal

abbrev pub invariant-loop-passed : goal.invariant-loop-passed
invariant-loop-passed l = record {
  reached : Reached l.rows.column.now l.rows.s.tmax l.rows.s.rows l.passed l.row;
  long : length l.states ≡ 32;
  rewritten : Span 0 0 (l.row * l.rows.s.tmax) (λ i x. x + addend l.rows.s.members (column_of l.rows.column.now) i) l.initial.table l.table;
}
