-- Something was found exactly if one of the first j cells is above its limit. Assumes nothing.
use Rattle.std.proofs.Common.{◌≡◌}
use Rattle.lists.specs.Search.{some_below}
use Rattle.receive.specs.Rows.{over_at}
use Rattle.receive.proofs.any_over.Given as goal

abbrev pub invariant-loop-j : goal.invariant-loop-j
invariant-loop-j l = l.found ≡ some_below (over_at l.limits l.file l.at) l.j
