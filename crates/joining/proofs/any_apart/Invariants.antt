-- The loop of `any_apart`: where nothing was found, none of the first j differences is negative or above its limit.
use Rattle.std.proofs.Common.{◌≡◌, ℕ, ◌<◌, false}
use Rattle.joining.specs.Parts.{apart}
use Rattle.joining.proofs.any_apart.Given as goal

abbrev pub invariant-loop-j : goal.invariant-loop-j
invariant-loop-j l = l.found ≡ false → (k : ℕ) → k < l.j → apart l.limits l.table l.other l.base k ≡ false
