-- Two texts, one after the other. Assumes nothing.
use Rattle.text.proofs.Pages.{laid-onto}
use Rattle.cases.specs.Shown.{done_word, done_text}
use Rattle.cases.proofs.show.done.Goals as goal

pub returns : goal.returns
unfolding done_text done_word
returns c = laid-onto _ _ _ _ _ c.put_text.ensures c.next.ensures
