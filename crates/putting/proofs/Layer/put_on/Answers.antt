-- The sum is taken where it is less.
use Rattle.std.proofs.Common.{arith}
use Rattle.putting.proofs.Putting.{put-less, put-keep}
use Rattle.putting.proofs.Layer.put_on.Goals as goal

pub returns-then-c-errors : goal.returns-then-c-errors
returns-then-c-errors c = put-less _ _ _ _ _ _ _ c.sum_or_none-c.ensures c.if-c-errors.true (omega arith) (omega arith)

pub returns-else-c-errors : goal.returns-else-c-errors
returns-else-c-errors c = put-keep _ _ _ _ _ _ _ c.sum_or_none-c.ensures c.if-c-errors.false
