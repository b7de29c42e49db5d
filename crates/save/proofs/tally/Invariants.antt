-- No count before k is wrong, and the sum is theirs. Assumes nothing.
use Rattle.std.proofs.Common.{◌≡◌, ℕ, ◌*◌, ◌<◌, ◌≤◌, false, get_or, take}
use Rattle.column.specs.Order.{wrong_count}
use Rattle.save.specs.Runs.{total}
use Rattle.save.proofs.tally.Given as goal

abbrev pub invariant-loop-k : goal.invariant-loop-k
invariant-loop-k l =
    record {
      sum : l.sum ≡ total (take l.k l.counts);
      low : l.sum ≤ 65535 * l.k;
      right : (j : ℕ) → j < l.k → wrong_count (get_or l.counts j 0) ≡ false;
    }
