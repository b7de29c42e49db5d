-- A turn stores one cap, and the count of columns is capped.
use Rattle.std.proofs.Common.{arith}
use Rattle.lists.proofs.Spans.{span_none, span_set, span-end}
use Rattle.plate.proofs.Heads.{capped-not-over}
use Rattle.near.proofs.fill_caps.Goals as goal

pub loop-j-init : goal.loop-j-init
loop-j-init c = span_none 0 _ _

pub cap_of-requires-clause-head_value : goal.cap_of-requires-clause-head_value
cap_of-requires-clause-head_value c = rw c.capped-within.ensures (capped-not-over c.args.head)

pub loop-j-preserved : goal.loop-j-preserved
loop-j-preserved c = span_set c.loop-j.invariant _ _ (omega arith) (omega arith) c.cap_of.ensures

pub returns : goal.returns
returns c = rw (← c.capped-within.ensures) (span-end _ c.loop-j.invariant (omega arith) (omega arith))
