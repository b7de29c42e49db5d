-- The records of the layers below this one are stored. Assumes nothing.
use Rattle.std.proofs.Common.{◌≡◌}
use Rattle.std.proofs.lemmas.List.Edits.{sets}
use Rattle.printed.specs.Paper.{layers_to}
use Rattle.printed.specs.Bytes.{bytes_of}
use Rattle.orders.specs.Written.{record_bytes}
use Rattle.orders.proofs.Rising.write_layers.Given as goal

abbrev pub invariant-loop-k : goal.invariant-loop-k
invariant-loop-k l = l.out ≡ sets l.initial.out 0 (bytes_of (record_bytes l.step) (layers_to l.cure l.self.boundaries.now l.k))
