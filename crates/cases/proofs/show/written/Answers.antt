-- What they are called, and then each number, or the digest and the ends. Assumes nothing.
use Rattle.std.proofs.Common.{◌≡◌, leb, true, false, le-leb}
use Rattle.std.proofs.lemmas.Bool.{lt-leb}
use Rattle.text.proofs.Pages.{laid-onto}
use Rattle.cases.specs.Shown.{digest_word, written_text}
use Rattle.cases.proofs.show.written.Goals as goal

pub returns-then-size-le-FEW : goal.returns-then-size-le-FEW
unfolding written_text
returns-then-size-le-FEW g c =
    let few : leb c.args.size 1000 ≡ true = le-leb _ _ c.if-size-le-FEW.true in
    rw few
    (laid-onto _ _ _ _ _ (rw c.name.ensures at c.put_text.ensures) (rw c.first.ensures at c.put.ensures))

pub returns : goal.returns
unfolding written_text digest_word
returns g c =
    let many : leb c.args.size 1000 ≡ false = lt-leb _ _ c.if-size-le-FEW.false in
    rw many
    (laid-onto _ _ _ _ _ (rw c.name.ensures at c.put_text.ensures)
    (laid-onto _ _ _ _ _ c.put_text-2.ensures
    (laid-onto _ _ _ _ _ (rw c.digest.ensures at c.next.ensures) c.ends.ensures)))
