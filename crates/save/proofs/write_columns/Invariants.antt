-- The records of the columns before this one are stored, this one goes behind them, and its boundaries begin at `start`. Assumes nothing.
use Rattle.std.proofs.Common.{◌≡◌, ◌+◌, ◌*◌, length, take}
use Rattle.std.proofs.lemmas.List.Edits.{sets}
use Rattle.job.specs.Written.{column_records}
use Rattle.save.specs.Runs.{total, columns_in}
use Rattle.save.proofs.write_columns.Given as goal

abbrev pub invariant-loop-count : goal.invariant-loop-count
invariant-loop-count l =
    record {
      start : l.start ≡ total (take l.count-index l.counts);
      next : l.next ≡ l.at + 4 * l.count-index + 2 * l.start;
      behind : l.next ≡ l.at + length (column_records (take l.count-index (columns_in l.counts l.run)));
      stored : l.out ≡ sets l.fn.out l.at (column_records (take l.count-index (columns_in l.counts l.run)));
    }
