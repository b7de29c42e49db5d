-- Four texts, one after the other. Assumes nothing.
use Rattle.text.proofs.Pages.{laid-onto}
use Rattle.cases.specs.Shown.{refused_word, at_word, refused_text}
use Rattle.cases.proofs.show.refused.Goals as goal

pub returns : goal.returns
unfolding refused_text refused_word at_word
returns c =
    laid-onto _ _ _ _ _ c.put_text.ensures
    (laid-onto _ _ _ _ _ (rw c.number.ensures at c.next.ensures)
    (laid-onto _ _ _ _ _ c.put_text-2.ensures c.next-2.ensures))
