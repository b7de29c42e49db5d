-- The refusals 1, 2, 3, 7, 6 of the table, and then what is left to ask and to write. Assumes nothing.
use Rattle.std.proofs.Common.{refl}
use Rattle.plate.specs.Head.{Held, held_in}
use Rattle.plate.proofs.Calls.{handed-does}
use Rattle.send.specs.Sending.{sending}
use Rattle.send.proofs.Answers.{table-stop}
use Rattle.send.proofs.write_table.Goals as goal

pub returns-in_err-s : goal.returns-in_err-s
unfolding sending
returns-in_err-s c =
    let a = c.args in
    let held : Held = held_in a.head a.table.now in
    handed-does _ _ c.from_residual.ensures.1 (sending held a.out.now) (table-stop held a.out.now _ c.in_err-s.ensures.says)

pub write_checked-requires : goal.write_checked-requires
write_checked-requires c =
    let g = c.in_ok-s.ensures.good _ refl in
    record { settings_for = record { is = g.0; sound = g.1 }; none_value = c.in_ok-s.ensures.says }
