-- The records of the rows before this one are stored, this one goes behind them, and its cells begin at `base`. Assumes nothing.
use Rattle.std.proofs.Common.{◌≡◌, ◌*◌}
use Rattle.std.proofs.lemmas.List.Edits.{sets}
use Rattle.sent.specs.File.{row_place}
use Rattle.sent.specs.Written.{row_records}
use Rattle.send.proofs.write_rows.Given as goal

abbrev pub invariant-loop-row : goal.invariant-loop-row
invariant-loop-row l =
    record {
      from : l.base ≡ l.row * l.s.tmax;
      at : l.next ≡ row_place l.s.members l.row;
      stored : l.out ≡ sets l.fn.out 14 (row_records l.s.members l.row 0 l.table);
    }
