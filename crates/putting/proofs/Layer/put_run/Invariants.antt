-- The loop of `put_run`: the layer is put on the sequences of the first k counts.
use Rattle.putting.specs.Putting.{PutOn}
use Rattle.putting.proofs.Layer.put_run.Given as goal

abbrev pub invariant-loop-k : goal.invariant-loop-k
invariant-loop-k g l = PutOn l.self.apart l.first l.self.cell l.self.t l.k l.initial.errors l.initial.thicknesses l.errors l.thicknesses
