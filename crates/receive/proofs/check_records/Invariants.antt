-- The records before this one passed, so that what is left of the checks decides. Assumes nothing.
use Rattle.std.proofs.Common.{◌≡◌, ◌-◌}
use Rattle.lists.specs.Checks.{first}
use Rattle.sent.specs.File.{head_in, row_place, rows_checks}
use Rattle.receive.proofs.check_records.Given as goal

abbrev pub invariant-loop-row : goal.invariant-loop-row
invariant-loop-row l =
    record {
      place : l.at ≡ row_place (head_in l.file).members l.row;
      decides : first (rows_checks l.file (head_in l.file) (l.s.rows - l.row) l.row) ≡ first (rows_checks l.file (head_in l.file) l.s.rows 0);
    }
