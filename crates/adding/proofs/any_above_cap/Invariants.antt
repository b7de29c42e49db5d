-- The loop of `any_above_cap`: where nothing was found, none of the cells from the first place up to j is above its cap.
use Rattle.std.proofs.Common.{◌≡◌, ℕ, ◌<◌, ◌≤◌, false}
use Rattle.table.specs.Limits.{above}
use Rattle.adding.proofs.any_above_cap.Given as goal

abbrev pub invariant-loop-j : goal.invariant-loop-j
invariant-loop-j l = l.found ≡ false → (i : ℕ) → i < l.j → l.first ≤ i → above l.caps l.table l.base i ≡ false
