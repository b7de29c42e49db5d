-- The loop of `put_text`: the bytes that it went over are laid where it began.
use Rattle.std.proofs.Common.{◌≡◌, take}
use Rattle.text.specs.Page.{lay}
use Rattle.text.proofs.Page.put_text.Given as goal

abbrev pub invariant-loop-byte : goal.invariant-loop-byte
invariant-loop-byte l = l.self ≡ lay (take l.byte-index l.text) l.fn.self
