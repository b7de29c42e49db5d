-- The place of the cursor is reached, and the table is that of the columns on the way there. Assumes nothing.
use Rattle.std.proofs.Common.{length, ◌-◌}
use Rattle.load.proofs.Filling.{Filling}
use Rattle.load.proofs.fill.Given as goal

abbrev pub invariant-loop-table : goal.invariant-loop-table
invariant-loop-table l = Filling l.most l.input l.initial.table l.state l.cursor.at l.table

abbrev pub decreases-loop-table : goal.decreases-loop-table
decreases-loop-table l = length l.input - l.cursor.at
