-- The loop of `any_out`: where nothing was found, none of the rows of the pairs before has a cell above its limit.
use Rattle.std.proofs.Common.{◌≡◌, ℕ, ◌*◌, ◌<◌, false}
use Rattle.table.specs.Limits.{NoneAbove}
use Rattle.table.proofs.any_out.Given as goal

abbrev pub invariant-loop-pair : goal.invariant-loop-pair
invariant-loop-pair l = l.found ≡ false → (k : ℕ) → k < 2 * l.pair → k < l.s.rows → NoneAbove l.limits l.table (k * l.s.tmax) l.s.tmax
