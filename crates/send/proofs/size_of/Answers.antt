-- The end record stands behind the rows, and is 6 bytes. Assumes nothing.
use Rattle.std.proofs.Common.{arith}
use Rattle.sent.specs.Kinds.{row_length}
use Rattle.sent.specs.File.{row_place}
use Rattle.send.proofs.size_of.Goals as goal

pub returns : goal.returns
unfolding row_place row_length
returns c = rw (← c.requires.greatest) (omega arith)
