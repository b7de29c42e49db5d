-- `shagorent_counts` meets its contract: settings that were made have this size. Assumes nothing.
use Rattle.std.proofs.Common.{ap, ◌∙◌}
use Rattle.plate.specs.declared.settings.Settings.{Settings}
use Rattle.replies.specs.Replies.{reply}
use Rattle.shagorent.proofs.Sizes.{sized}
use Rattle.shagorent.proofs.shagorent_counts.Goals as goal

pub returns-in-Ok : goal.returns-in-Ok
returns-in-Ok c = c.from.ensures ∙ ap reply (sized _ _ (λ (s : Settings). s.counts) _ c.in-Ok.ensures)
