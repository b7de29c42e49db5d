-- The row is that by last layers thinner than t. Assumes nothing.
use Rattle.std.proofs.Common.{◌+◌, ◌-◌}
use Rattle.plan.specs.Rows.{RowTo}
use Rattle.plan.specs.Working.{rules_of}
use Rattle.plan.proofs.Work.fill_row.Given as goal

abbrev pub invariant-loop-t : goal.invariant-loop-t
invariant-loop-t l =
    let s = l.self.settings in
    RowTo s (rules_of l.self) l.q (l.t - 1) (s.counts + 1) l.initial.errors l.initial.thicknesses l.errors l.thicknesses
