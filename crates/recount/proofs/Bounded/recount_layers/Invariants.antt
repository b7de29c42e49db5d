-- None of the k layers so far is out, their errors sum to the sum, and the height reached is the datum height of zk. Heights rise, so k is below that
-- height, and the sum of k 32-bit errors is small. Assumes nothing.
use Rattle.std.proofs.Common.{◌≡◌, ℕ, ◌+◌, ◌*◌, ◌<◌, ◌≤◌, false}
use Rattle.paper.specs.Table.{of_table}
use Rattle.paper.specs.Sequence.{◌!◌, error_under}
use Rattle.plate.specs.Datum.{datum}
use Rattle.recount.specs.Recount.{layer_out}
use Rattle.recount.proofs.Bounded.recount_layers.Given as goal

abbrev pub invariant-loop-k : goal.invariant-loop-k
invariant-loop-k l = record {
  climbs : l.k < l.below;
  over : 32 < l.below + l.self.settings.tmax;
  low : l.below < l.self.settings.height + l.self.settings.tmax + 32;
  small : l.sum ≤ l.k * 4_294_967_296;
  reached : l.below ≡ datum (l.sequence ! l.k);
  fine : (j : ℕ) → j < l.k → layer_out l.self.settings.height l.self.settings.members l.self.table.now l.self.bound l.sequence j ≡ false;
  summed : l.sum ≡ error_under (of_table l.self.settings.height l.self.settings.members l.self.table.now) l.sequence l.k;
}
