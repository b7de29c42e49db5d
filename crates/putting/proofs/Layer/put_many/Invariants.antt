-- The loop of `put_many`: the layer is put on the sequences of the eights before.
use Rattle.std.proofs.Common.{◌*◌}
use Rattle.putting.specs.Putting.{PutOn}
use Rattle.putting.proofs.Layer.put_many.Given as goal

abbrev pub invariant-loop-i : goal.invariant-loop-i
invariant-loop-i l = PutOn l.self.apart 0 l.self.cell l.self.t (l.i * 8) l.initial.errors l.initial.thicknesses l.errors l.thicknesses
