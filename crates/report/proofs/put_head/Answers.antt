-- `put_head` meets its contract: seven texts, one after another. Assumes nothing.
use Rattle.text.proofs.Pages.{laid-onto}
use Rattle.report.specs.Lines.{height_word, columns_word, counts_word, line_end, head_line}
use Rattle.report.proofs.put_head.Goals as goal

pub returns : goal.returns
unfolding head_line height_word columns_word counts_word line_end
returns c =
    laid-onto _ _ _ _ _ c.put_text.ensures
    (laid-onto _ _ _ _ _ c.put_number.ensures
    (laid-onto _ _ _ _ _ c.put_text-2.ensures
    (laid-onto _ _ _ _ _ c.put_number-2.ensures
    (laid-onto _ _ _ _ _ c.put_text-3.ensures
    (laid-onto _ _ _ _ _ c.put_number-3.ensures c.put_text-4.ensures)))))
