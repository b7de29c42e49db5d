-- The cells of the rows before this one stand in the table, and this row's record begins at `at`. Assumes nothing.
use Rattle.std.proofs.Common.{◌≡◌}
use Rattle.std.proofs.lemmas.List.Edits.{sets}
use Rattle.sent.specs.File.{head_in, row_place, cells_from}
use Rattle.receive.proofs.fill_rows.Given as goal

abbrev pub invariant-loop-row : goal.invariant-loop-row
invariant-loop-row l =
    record {
      place : l.at ≡ row_place (head_in l.file).members l.row;
      stored : l.table ≡ sets l.fn.table 0 (cells_from l.file (head_in l.file).members l.row 0);
    }
