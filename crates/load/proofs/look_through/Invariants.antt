-- The place of the cursor is reached. Each record takes four bytes or more, so the loop ends. Assumes nothing.
use Rattle.std.proofs.Common.{length, ◌-◌}
use Rattle.job.specs.Reached.{Reached}
use Rattle.load.specs.Load.{too_large}
use Rattle.load.proofs.look_through.Given as goal

abbrev pub invariant-loop-heed : goal.invariant-loop-heed
invariant-loop-heed l = Reached (too_large l.most) l.input l.state l.cursor.at

abbrev pub decreases-loop-heed : goal.decreases-loop-heed
decreases-loop-heed l = length l.input - l.cursor.at
