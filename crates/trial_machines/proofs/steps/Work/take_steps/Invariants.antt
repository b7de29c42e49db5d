-- Each step begins behind the one before it, so that the steps end. Assumes nothing.
use Rattle.std.proofs.Common.{length}
use Rattle.trial_machines.proofs.steps.Work.take_steps.Given as goal

abbrev pub decreases-loop-letter : goal.decreases-loop-letter
decreases-loop-letter l = length l.rest
