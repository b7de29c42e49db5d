-- `any_misplaced` meets its contract: where each boundary is above the one before, the last is the highest. Assumes nothing.
use Rattle.std.proofs.Common.{◌≤◌, arith}
use borrow.Author.Tests.{ltb-false}
use Rattle.lists.proofs.Checks.{or-false}
use Rattle.column.proofs.Order.{none-by-last}
use Rattle.column.proofs.any_misplaced.Goals as goal

pub returns : goal.returns
returns c z =
    let e = or-false _ _ z in
    let low : c.from.result ≤ c.args.height = ltb-false _ _ e.1 in
    none-by-last _ _ (omega (arith, c.from.ensures, c.in-Some.ensures.item.3.1 0)) (λ k m. c.loop-i.invariant e.0 k (omega arith))
