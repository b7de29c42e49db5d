-- The end that was found, and four texts, one after the other. Assumes nothing.
use Rattle.text.proofs.Pages.{laid-onto}
use Rattle.cases.specs.Shown.{kept_word, to_word, kept_text}
use Rattle.cases.proofs.show.kept.Goals as goal

pub returns : goal.returns
unfolding kept_text kept_word to_word
returns g c =
    let end = c.end_of_recurring in (
      end.result,
      record { within = end.ensures.lower_bound; marks = end.ensures.by_index; other = end.ensures.fact },
      laid-onto _ _ _ _ _ c.put_text.ensures
          (laid-onto _ _ _ _ _ c.next.ensures
          (laid-onto _ _ _ _ _ c.put_text-2.ensures c.next-2.ensures)),
    )
