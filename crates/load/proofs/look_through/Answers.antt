-- `look_through` meets its contract: the first record is at a place that is reached, and so is the one after a record that is read on. Assumes nothing.
use Rattle.std.proofs.Common.{arith}
use Rattle.job.specs.Reached.{start}
use Rattle.load.proofs.Heeding.{read-sane, heeded-as, surveyed-handed, refuses, seen, ahead, onward}
use Rattle.load.proofs.look_through.Goals as goal

pub loop-heed-init : goal.loop-heed-init
loop-heed-init c = rw (c.new-state.ensures, c.new-cursor.ensures) start

pub heed_of-requires : goal.heed_of-requires
heed_of-requires c = read-sane _ _ _ _ c.read-step.ensures

pub returns-in_err-heed : goal.returns-in_err-heed
returns-in_err-heed c =
    surveyed-handed _ _ c.from_residual.ensures.1 _ (refuses _ _ c.loop-heed.invariant _ c.read-step.ensures _ c.in_err-heed.ensures)

pub returns-in-Ended : goal.returns-in-Ended
returns-in-Ended c = seen _ _ c.loop-heed.invariant _ c.read-step.ensures (heeded-as _ _ _ _ _ c.in-Ended.is c.in_ok-heed.ensures)

pub loop-heed-smaller : goal.loop-heed-smaller
loop-heed-smaller c = omega (arith, ahead _ _ c.loop-heed.invariant _ c.read-step.ensures (heeded-as _ _ _ _ _ c.in_default.is c.in_ok-heed.ensures))

pub loop-heed-preserved : goal.loop-heed-preserved
loop-heed-preserved c = onward _ _ c.loop-heed.invariant _ c.read-step.ensures (heeded-as _ _ _ _ _ c.in_default.is c.in_ok-heed.ensures)
