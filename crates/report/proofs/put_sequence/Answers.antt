-- `put_sequence` meets its contract: five texts, one after another. Assumes nothing.
use Rattle.text.proofs.Pages.{laid-onto}
use Rattle.report.specs.Lines.{space, line_end, sequence_line}
use Rattle.report.proofs.put_sequence.Goals as goal

pub returns : goal.returns
unfolding sequence_line space line_end
returns c =
    laid-onto _ _ _ _ _ c.put_number.ensures
    (laid-onto _ _ _ _ _ c.put_text.ensures
    (laid-onto _ _ _ _ _ c.put_number-2.ensures
    (laid-onto _ _ _ _ _ c.put_boundaries.ensures c.put_text-2.ensures)))
