-- The loop of `first_above`: no cell of the rows before is above its limit.
use Rattle.std.proofs.Common.{◌≡◌, ℕ, ◌*◌, ◌<◌, false}
use Rattle.table.specs.Limits.{above_at}
use Rattle.table.proofs.first_above.Given as goal

abbrev pub invariant-loop-row : goal.invariant-loop-row
invariant-loop-row l = (k : ℕ) → k < l.row * l.s.tmax → above_at l.limits l.table l.s.tmax k ≡ false
