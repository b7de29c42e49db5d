-- The first numbers are the words so far. Assumes nothing.
use Rattle.std.proofs.Common.{◌≡◌, take}
use Rattle.record.specs.Bytes.{words}
use Rattle.record.proofs.read_words.Given as goal

abbrev pub invariant-loop-i : goal.invariant-loop-i
invariant-loop-i l = take l.i l.out ≡ words l.input l.start l.i
