-- Numbers of two bytes are spelled by twos. Assumes nothing.
use Rattle.record.specs.Written.{bytes_of}
use Rattle.record.proofs.write_numbers.Goals as goal

pub returns : goal.returns
unfolding bytes_of
returns c = c.write_all.ensures
