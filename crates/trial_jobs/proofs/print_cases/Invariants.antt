-- What is left gets shorter with each case, so that there are no more cases than bytes. Assumes the contract of C's `write`, as `libc` states it.
use Rattle.std.proofs.Common.{◌+◌, ◌≤◌, length}
use Rattle.trial_jobs.proofs.print_cases.Given as goal

abbrev pub invariant-loop-file : goal.invariant-loop-file
invariant-loop-file l = l.number + length l.rest ≤ length l.fn.input

abbrev pub decreases-loop-file : goal.decreases-loop-file
decreases-loop-file l = length l.rest
