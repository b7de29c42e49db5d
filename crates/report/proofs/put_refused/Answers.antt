-- `put_refused` meets its contract: five texts, one after another. Assumes nothing.
use Rattle.text.proofs.Pages.{laid-onto}
use Rattle.report.specs.Lines.{refused_word, at_word, line_end, refused_line}
use Rattle.report.proofs.put_refused.Goals as goal

pub returns : goal.returns
unfolding refused_line refused_word at_word line_end
returns c =
    laid-onto _ _ _ _ _ c.put_text.ensures
    (laid-onto _ _ _ _ _ c.put_number.ensures
    (laid-onto _ _ _ _ _ c.put_text-2.ensures
    (laid-onto _ _ _ _ _ c.put_number-2.ensures c.put_text-3.ensures)))
