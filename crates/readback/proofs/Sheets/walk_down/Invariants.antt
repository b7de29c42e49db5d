-- What is left of the walk ends as the whole does, its boundaries under those that are noted are those of the whole, and the row is still one of the
-- sheet's. The layers left are those under k. Assumes nothing.
use Rattle.std.proofs.Common.{◌≡◌, ◌-◌, ◌≤◌, []}
use Rattle.plate.specs.Datum.{at_row}
use Rattle.sequence.specs.Sheets.{entry, fault_under, boundaries_under}
use Rattle.readback.specs.Walking.{noted_from}
use Rattle.readback.proofs.Sheets.walk_down.Given as goal

abbrev pub invariant-loop-k : goal.invariant-loop-k
invariant-loop-k l =
    let s = l.self.settings in
    let look = entry s.height s.members l.self.thicknesses.now in
    record {
      some : 1 ≤ l.k;
      in_sheet : l.row ≤ l.top;
      ends : fault_under look s.height s.members l.self.layers l.self.layers (at_row s.tmax l.top)
          ≡ fault_under look s.height s.members l.self.layers (l.k - 1) (at_row s.tmax l.row);
      notes : boundaries_under look (l.k - 1) (at_row s.tmax l.row) (noted_from l.k l.self.layers l.heights)
          ≡ boundaries_under look l.self.layers (at_row s.tmax l.top) [];
    }
