-- `is_usable` meets its contract: both of its tests. Assumes nothing.
use Rattle.std.proofs.Common.{sym, ap, ◌∙◌, ltb}
use Rattle.paper.proofs.Thicknesses.{allowed-from}
use Rattle.printed.specs.Possible.{usable}
use Rattle.orders.proofs.is_usable.Goals as goal

pub entry_of-requires : goal.entry_of-requires
entry_of-requires c = allowed-from _ _ (sym c.is_allowed.ensures ∙ c.if-is_allowed.true)

pub returns-then-is_allowed : goal.returns-then-is_allowed
unfolding usable
returns-then-is_allowed c = simp (sym c.is_allowed.ensures ∙ c.if-is_allowed.true) (ap (ltb 0) c.entry_of.ensures)

pub returns-else-is_allowed : goal.returns-else-is_allowed
unfolding usable
returns-else-is_allowed c = c.if-is_allowed.false ∙ simp (sym c.is_allowed.ensures ∙ c.if-is_allowed.false)
