-- `fill_list` meets its contract (`Invariants.antt`). Assumes nothing.
use Rattle.std.proofs.Common.{arith}
use Rattle.lists.proofs.Spans.{span_none, span_set, span-is}
use Rattle.plan.specs.Planning.{planned_list}
use Rattle.plan.proofs.Work.fill_list.Goals as goal

pub loop-i-init : goal.loop-i-init
loop-i-init c = span_none _ _ _

pub loop-i-preserved : goal.loop-i-preserved
loop-i-preserved c = span_set c.loop-i.invariant _ _ (omega arith) (omega (arith, c.loop-i.invariant.long, c.requires.has_room)) c.least_error.ensures

pub returns : goal.returns
unfolding planned_list
returns c = let w = c.args.self.now.ready.sound.counts-are in span-is _ _ c.loop-i.invariant (omega arith) (omega arith)
