-- The loop of `first_apart`: no difference of the rows before is negative or above its limit.
use Rattle.std.proofs.Common.{◌≡◌, ℕ, ◌*◌, ◌<◌, false}
use Rattle.joining.specs.Parts.{apart_at}
use Rattle.joining.proofs.first_apart.Given as goal

abbrev pub invariant-loop-row : goal.invariant-loop-row
invariant-loop-row l = (k : ℕ) → k < l.row * l.s.tmax → apart_at l.limits l.table l.other l.s.tmax k ≡ false
