-- `put_sheets` meets its contract: the first line, and those of the counts. Assumes nothing.
use Rattle.text.proofs.Pages.{laid-onto}
use Rattle.report.specs.Work.{sheets_text}
use Rattle.report.proofs.put_sheets.Goals as goal

pub returns : goal.returns
unfolding sheets_text
returns c = laid-onto _ _ _ _ _ c.put_head.ensures c.put_counts.ensures
