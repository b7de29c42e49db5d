-- Where nothing was found, each boundary so far is above the one before. Assumes nothing.
use Rattle.std.proofs.Common.{◌≡◌, false, ℕ, suc, ◌<◌, get_or}
use Rattle.column.proofs.any_misplaced.Given as goal

abbrev pub invariant-loop-i : goal.invariant-loop-i
invariant-loop-i l = l.found ≡ false → (k : ℕ) → suc k < l.i → get_or l.column k 0 < get_or l.column (suc k) 0
