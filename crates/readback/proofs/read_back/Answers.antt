-- `read_back` meets its contract: the refusals of `check_room`, and then what `read_entries` does over the settings that were made.
-- Assumes nothing.
use Rattle.std.proofs.Common.{arith, refl}
use Rattle.plate.proofs.Calls.{handed-is}
use Rattle.sheets.proofs.Places.{entries-is}
use Rattle.readback.proofs.Answers.{room-passed, read-bad, room-left, read-good}
use Rattle.readback.proofs.read_back.Goals as goal

pub returns-in_err-settings : goal.returns-in_err-settings
returns-in_err-settings c = rw (handed-is _ _ c.from_residual.ensures.1) (read-bad _ _ _ _ c.in_err-settings.ensures _ refl)

pub invariant_of-sheets : goal.invariant_of-sheets
invariant_of-sheets c =
    let a = c.args in
    let j = c.in_ok-settings.ensures in
    let k = (j.good _ refl).1 in
    let size = entries-is c.in_ok-settings.settings k in
    let room = room-passed _ _ _ _ _ _ (room-left a.errors.now a.thicknesses.now a.count a.out.now j _ refl) in
    record {
      sound = k;
      errors_whole = omega (arith, size, room.errors-whole);
      thicknesses_whole = omega (arith, size, room.thicknesses-whole);
      few = omega (arith, k.counts-are, room.few-layers);
    }

pub read_entries-requires : goal.read_entries-requires
read_entries-requires c =
    let a = c.args in
    room-left a.errors.now a.thicknesses.now a.count a.out.now c.in_ok-settings.ensures _ refl

pub returns : goal.returns
returns c = read-good _ _ _ _ c.in_ok-settings.ensures _ refl _ _ c.read_entries.ensures
