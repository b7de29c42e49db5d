-- Four texts, one after the other. Assumes nothing.
use Rattle.text.proofs.Pages.{laid-onto}
use Rattle.cases.specs.Shown.{first_word, last_word, ends_text}
use Rattle.cases.proofs.show.ends.Goals as goal

pub returns : goal.returns
unfolding ends_text first_word last_word
returns g c =
    laid-onto _ _ _ _ _ c.put_text.ensures
    (laid-onto _ _ _ _ _ (rw c.first.ensures at c.put.ensures)
    (laid-onto _ _ _ _ _ c.put_text-2.ensures (rw c.last.ensures at c.put-2.ensures)))
