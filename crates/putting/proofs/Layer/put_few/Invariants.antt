-- The loop of `put_few`: the layer is put on the sequences of the counts from `first` up to m.
use Rattle.std.proofs.Common.{◌-◌}
use Rattle.putting.specs.Putting.{PutOn}
use Rattle.putting.proofs.Layer.put_few.Given as goal

abbrev pub invariant-loop-m : goal.invariant-loop-m
invariant-loop-m l = PutOn l.self.apart l.first l.self.cell l.self.t (l.m - l.first) l.initial.errors l.initial.thicknesses l.errors l.thicknesses
