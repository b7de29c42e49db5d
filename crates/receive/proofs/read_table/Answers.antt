-- The refusals of the first record, and then what is left to ask and to write. Assumes nothing.
use Rattle.std.proofs.Common.{refl}
use Rattle.plate.proofs.Calls.{handed-does}
use Rattle.receive.specs.Receiving.{receiving}
use Rattle.receive.proofs.Answers.{opening-stop}
use Rattle.receive.proofs.read_table.Goals as goal

pub returns-in_err-s : goal.returns-in_err-s
unfolding receiving
returns-in_err-s c =
    let a = c.args in
    handed-does _ _ c.from_residual.ensures.1 (receiving a.file.now a.table.now) (opening-stop a.file.now a.table.now _ c.in_err-s.ensures.says)

pub read_records-requires : goal.read_records-requires
read_records-requires c =
    let g = c.in_ok-s.ensures.good _ refl in
    record { none_value = c.in_ok-s.ensures.says; settings_for = record { is = g.0; sound = g.1 } }
