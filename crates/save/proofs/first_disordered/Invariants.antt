-- No column before the k-th is out of order, and the k-th begins at `start`. Assumes nothing.
use Rattle.std.proofs.Common.{◌≡◌, ℕ, ◌<◌, false, [], get_or, take}
use Rattle.paper.specs.Layer.{column_of}
use Rattle.column.specs.Order.{disordered}
use Rattle.save.specs.Runs.{total, columns_in}
use Rattle.save.proofs.first_disordered.Given as goal

abbrev pub invariant-loop-k : goal.invariant-loop-k
invariant-loop-k l =
    record {
      start : l.start ≡ total (take l.k l.counts);
      ordered : (j : ℕ) → j < l.k → disordered l.height (get_or (columns_in l.counts l.run) j (column_of [])).boundaries ≡ false;
    }
