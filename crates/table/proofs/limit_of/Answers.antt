-- The product is at most the greatest limit, which 32 bits hold.
use Rattle.std.proofs.Common.{arith}
use Rattle.table.proofs.Limits.{limit-product}
use Rattle.table.proofs.limit_of.Goals as goal

pub overflow_mul-result : goal.overflow_mul-result
overflow_mul-result c = omega (arith, limit-product c.args.head c.args.t c.requires.head_value c.requires.t_le_most_thickness)
