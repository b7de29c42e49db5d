-- `heed_of` meets its contract: the arm that is taken says what was read. Assumes nothing.
use Rattle.std.proofs.Common.{sym, ◌∙◌}
use Rattle.load.proofs.Heeding.{too_large_lem, small}
use Rattle.load.proofs.heed_of.Goals as goal

pub returns-then-is_large : goal.returns-then-is_large
returns-then-is_large c = too_large_lem _ _ _ _ _ c.in-Settings.is (sym c.is_large.ensures ∙ c.if-is_large.true) c.refusal_at-then-is_large.ensures

pub returns-else-is_large : goal.returns-else-is_large
returns-else-is_large c = small _ _ _ _ c.in-Settings.is (sym c.is_large.ensures ∙ c.if-is_large.false)
