-- Six texts, one after the other. Assumes nothing.
use Rattle.text.proofs.Pages.{laid-onto}
use Rattle.cases.specs.Shown.{height_word, members_word, columns_word, head_text}
use Rattle.cases.proofs.show.head.Goals as goal

pub returns : goal.returns
unfolding head_text height_word members_word columns_word
returns c =
    laid-onto _ _ _ _ _ c.put_text.ensures
    (laid-onto _ _ _ _ _ c.next.ensures
    (laid-onto _ _ _ _ _ c.put_text-2.ensures
    (laid-onto _ _ _ _ _ c.next-2.ensures
    (laid-onto _ _ _ _ _ c.put_text-3.ensures c.next-3.ensures))))
