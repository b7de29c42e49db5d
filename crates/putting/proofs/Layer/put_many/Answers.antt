-- Eight counts more, and then those that remain.
use Rattle.std.proofs.Common.{arith}
use Rattle.putting.proofs.Putting.{put-more, put_as}
use Rattle.putting.proofs.Layer.put_many.Goals as goal

pub loop-i-preserved : goal.loop-i-preserved
loop-i-preserved c = put_as _ (put-more _ 8 (omega arith) c.loop-i.invariant c.put_run.ensures (omega arith)) (omega arith) (omega arith)

pub returns : goal.returns
returns c = put_as _ (put-more _ _ (omega arith) c.loop-i.invariant c.put_few.ensures (omega arith)) (omega arith) (omega arith)
