-- `put_none` meets its contract: two texts, one after another. Assumes nothing.
use Rattle.text.proofs.Pages.{laid-onto}
use Rattle.report.specs.Lines.{none_word, none_line}
use Rattle.report.proofs.put_none.Goals as goal

pub returns : goal.returns
unfolding none_line none_word
returns c = laid-onto _ _ _ _ _ c.put_number.ensures c.put_text.ensures
