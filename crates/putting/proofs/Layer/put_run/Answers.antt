-- One count more.
use Rattle.std.proofs.Common.{refl, arith}
use Rattle.putting.proofs.Putting.{put-more}
use Rattle.putting.proofs.Layer.put_run.Goals as goal

pub loop-k-preserved : goal.loop-k-preserved
loop-k-preserved g c = put-more _ 1 refl c.loop-k.invariant c.put_on.ensures (omega arith)
