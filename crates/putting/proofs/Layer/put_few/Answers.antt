-- One count more.
use Rattle.std.proofs.Common.{arith}
use Rattle.putting.proofs.Putting.{put-more, put_as}
use Rattle.putting.proofs.Layer.put_few.Goals as goal

pub loop-m-preserved : goal.loop-m-preserved
loop-m-preserved c = put_as _ (put-more _ 1 (omega arith) c.loop-m.invariant c.put_on.ensures (omega arith)) (omega arith) (omega arith)

pub returns : goal.returns
returns c = put_as _ c.loop-m.invariant (omega arith) (omega arith)
