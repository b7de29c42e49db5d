-- The first numbers are stored. Assumes nothing.
use Rattle.std.proofs.Common.{◌≡◌, take}
use Rattle.std.proofs.lemmas.List.Edits.{sets}
use Rattle.record.specs.Written.{spelled}
use Rattle.record.proofs.store_all.Given as goal

abbrev pub invariant-loop-i : goal.invariant-loop-i
invariant-loop-i g l = l.out ≡ sets l.fn.out l.at (spelled g.T.Stored.bytes (take l.i l.numbers))
