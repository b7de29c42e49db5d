-- A space, and the number. Assumes nothing.
use Rattle.text.proofs.Pages.{laid-onto}
use Rattle.cases.specs.Shown.{space, next_text}
use Rattle.cases.proofs.show.next.Goals as goal

pub returns : goal.returns
unfolding next_text space
returns g c = laid-onto _ _ _ _ _ c.put_text.ensures (rw c.wide.ensures at c.put_number.ensures)
