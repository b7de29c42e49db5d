-- The count is capped.
use Rattle.plate.proofs.Heads.{capped-not-over}
use Rattle.table.proofs.limits_of.Goals as goal

pub limit_of-requires-clause-head_value : goal.limit_of-requires-clause-head_value
limit_of-requires-clause-head_value c = rw c.capped-within.ensures (capped-not-over c.args.head)
