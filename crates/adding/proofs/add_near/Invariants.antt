-- The loop of `add_near`: the rows before are rewritten, and those to come are as they were.
use Rattle.std.proofs.Common.{◌+◌, ◌-◌, ◌*◌}
use Rattle.lists.specs.Rewrite.{Span}
use Rattle.paper.specs.Layer.{column_of}
use Rattle.adding.specs.Adding.{addend}
use Rattle.adding.proofs.add_near.Given as goal

abbrev pub invariant-loop-row : goal.invariant-loop-row
invariant-loop-row l =
    Span 0 (l.from * l.rows.s.tmax) (l.row * l.rows.s.tmax - l.from * l.rows.s.tmax) (λ i x. x + addend l.rows.s.members (column_of l.rows.column.now) (l.from * l.rows.s.tmax + i)) l.initial.table l.table
