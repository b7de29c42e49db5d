-- The loop's invariant is what is known before each layer (`Walk`). Each turn that goes on has read one layer more. Assumes nothing.
use Rattle.std.proofs.Common.{◌-◌, length}
use Rattle.orders.proofs.Walk.{Walked}
use Rattle.orders.proofs.Setup.read_file.Given as goal

abbrev pub invariant-loop-read : goal.invariant-loop-read
invariant-loop-read l = Walked l.self.settings.height l.self.settings.members l.self.step l.self.cure.now l.file l.number l.read l.order

abbrev pub decreases-loop-read : goal.decreases-loop-read
decreases-loop-read l = length l.file - l.read.layers
