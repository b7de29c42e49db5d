-- The height, the thickness set and the column count stand in the first record's body. Assumes nothing.
use Rattle.std.proofs.Common.{◌∙◌}
use Rattle.sent.specs.File.{head_in}
use Rattle.receive.proofs.head_in.Goals as goal

pub returns : goal.returns
unfolding head_in
returns c = λ i. record { height = (c.from.ensures ∙ c.word.ensures) i; members = c.quad.ensures i; columns = c.quad-2.ensures i }
