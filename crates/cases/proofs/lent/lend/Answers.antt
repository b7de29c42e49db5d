-- What is lent is the front of memory that is filled. Assumes nothing.
use Rattle.std.proofs.Common.{◌≡◌, ◌+◌, min, length, arith}
use Rattle.cases.proofs.lent.lend.Goals as goal

pub returns : goal.returns
returns g c =
    let many : min c.saturating_add.result (length c.args.memory.now) ≡ min (c.args.size + 8) (length c.args.memory.now) = omega arith in
    (c.fill_recurring.new.output, rw many at c.fill_recurring.ensures, c.front.ensures)
