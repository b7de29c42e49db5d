-- The marks that are left, and then what the call wrote. Assumes nothing.
use Rattle.std.proofs.Common.{◌≡◌, ◌+◌, min, length, arith}
use Rattle.text.proofs.Pages.{laid-onto}
use Rattle.cases.specs.Shown.{left_text}
use Rattle.cases.proofs.Marks.{end-within}
use Rattle.cases.proofs.show.left.Goals as goal

pub returns-in-Some : goal.returns-in-Some
unfolding left_text
returns-in-Some g c =
    let many : min c.saturating_add.result (length c.args.memory.now) ≡ min (c.args.lent + 8) (length c.args.memory.now) = omega arith in
    let end = c.kept.ensures in
    let from = rw c.in-Some.is at c.unwrap_or.ensures in
    rw c.in-Some.is (end.0, end-within _ _ _ _ _ _ _ _ from many end.1, laid-onto _ _ _ _ _ (rw from at end.2) c.written.ensures)

pub returns-in_default : goal.returns-in_default
unfolding left_text
returns-in_default g c =
    let many : min c.saturating_add.result (length c.args.memory.now) ≡ min (c.args.lent + 8) (length c.args.memory.now) = omega arith in
    let end = c.kept.ensures in
    let from = rw c.in_default.is at c.unwrap_or.ensures in
    rw c.in_default.is (end.0, end-within _ _ _ _ _ _ _ _ from many end.1, rw from at end.2)
