-- `read_order` meets its contract: what was lent is judged, and behind it the file. Assumes nothing.
use Rattle.std.proofs.Common.{refl, sym, subst}
use Rattle.plate.specs.Call.{Does}
use Rattle.plate.specs.Refusal.{Told}
use Rattle.plate.proofs.Calls.{handed-told}
use Rattle.orders.specs.Reading.{reading_order}
use Rattle.orders.specs.declared.Order.{Order}
use Rattle.orders.proofs.Lent.{stepped}
use Rattle.orders.proofs.Readings.{unlent, read_of}
use Rattle.orders.proofs.read_order.Goals as goal

pub returns-in_err-settings : goal.returns-in_err-settings
returns-in_err-settings c =
    let a = c.args in
    subst (λ (t : Told Order). Does (reading_order a.height a.members a.step a.cure.now a.file.now a.number) t tt) (sym (handed-told _ _ c.from_residual.ensures.1))
    (unlent _ _ _ _ a.file.now a.number _ c.in_err-settings.ensures.says)

pub invariant_of-setup : goal.invariant_of-setup
invariant_of-setup c = let j = c.in_ok-settings.ensures in record { sound = (j.good _ refl).1; steps = stepped _ _ _ _ j.says }

pub returns : goal.returns
returns c = let j = c.in_ok-settings.ensures in read_of _ _ _ _ _ _ j.says _ (j.good _ refl).0 _ c.read_file.ensures
