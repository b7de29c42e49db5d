-- A file that is refused is neither joined in nor taken off, and neither is a table that is refused: the first table stays as it was. Assumes
-- nothing.
use Rattle.joining.specs.Joining.{joining, taking}
use Rattle.trial_machines.proofs.Leaves.{leaves}
use Rattle.trial_machines.proofs.steps.Work.combine.Goals as goal

pub returns-then-letter-eq45 : goal.returns-then-letter-eq45
unfolding taking
returns-then-letter-eq45 c e = leaves _ _ _ c.take_off.ensures (c.answered.ensures e)

pub returns : goal.returns
unfolding joining
returns c e = leaves _ _ _ c.join_tables.ensures (c.answered-2.ensures e)
