-- A file that is refused is not read: the table stays as it was. Assumes nothing.
use Rattle.receive.specs.Receiving.{receiving}
use Rattle.trial_machines.proofs.Leaves.{leaves}
use Rattle.trial_machines.proofs.steps.read.Goals as goal

pub returns : goal.returns
unfolding receiving
returns c e = leaves _ _ _ c.read_table.ensures (c.answered.ensures e)
