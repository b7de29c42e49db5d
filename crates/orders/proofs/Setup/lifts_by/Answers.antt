-- `lifts_by` meets its contract: a usable thickness is at least 1. Assumes nothing.
use Rattle.std.proofs.Common.{sym, ◌∙◌}
use Rattle.printed.proofs.Layers.{usable-from}
use Rattle.orders.proofs.Setup.lifts_by.Goals as goal

pub entry_of-requires : goal.entry_of-requires
entry_of-requires c = usable-from _ _ _ (sym c.is_usable.ensures ∙ c.if-is_usable.true)
