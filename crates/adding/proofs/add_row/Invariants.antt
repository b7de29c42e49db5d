-- The loop of `add_row`: the cells up to place j are rewritten, and the count is that of the inside voxels of the layer that ends there.
use Rattle.std.proofs.Common.{◌≡◌, ◌+◌, ◌*◌}
use Rattle.lists.specs.Rewrite.{Span}
use Rattle.paper.specs.Layer.{column_of}
use Rattle.plate.specs.Datum.{at_row}
use Rattle.column.specs.Inside.{inside}
use Rattle.adding.specs.Adding.{addend}
use Rattle.adding.proofs.add_row.Given as goal

abbrev pub invariant-loop-j : goal.invariant-loop-j
invariant-loop-j l = record {
  count : l.inside ≡ inside l.rows.column.now (at_row l.rows.s.tmax l.row) l.j;
  rewritten : Span 0 (l.row * l.rows.s.tmax) l.j (λ i x. x + addend l.rows.s.members (column_of l.rows.column.now) (l.row * l.rows.s.tmax + i)) l.initial.table l.table;
}
