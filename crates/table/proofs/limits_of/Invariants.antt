-- The loop of `limits_of`: the limits of the first j thicknesses stand.
use Rattle.std.proofs.Common.{◌≡◌, ℕ, ◌+◌, ◌<◌, get_or, length}
use Rattle.plate.specs.Head.{limit_of}
use Rattle.table.proofs.limits_of.Given as goal

abbrev pub invariant-loop-j : goal.invariant-loop-j
invariant-loop-j l = (length l.limit-items ≡ 32) × ((k : ℕ) → k < l.j → get_or l.limit-items k 0 ≡ limit_of l.within (k + 1))
