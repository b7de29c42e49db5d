-- The refusals of the settings, and then 3.
use Rattle.std.proofs.Common.{◌≡◌, ◌<◌, ◌≤◌, [], ◌∷◌, length, refl, ap, ◌∙◌, Err, arith}
use mathlib.Core.Option.{none, some}
use borrow.Author.Tests.{lt-ltb, le-ltb}
use Rattle.lists.specs.Checks.{first}
use Rattle.paper.specs.Table.{cells}
use Rattle.plate.specs.Head.{Held, cells_of}
use Rattle.plate.specs.declared.settings.Settings.{Settings}
use Rattle.plate.proofs.Calls.{judges-bad, judges-good, handed-judges, stopped, passed}
use Rattle.table.specs.Table.{short, clearing}
use Rattle.table.proofs.check_room.Goals as goal

module _ (held : Held) where
  is-short : length held.buffer < cells_of held.head → some (record { number = 3; place = 1 }) ≡ first (short held 1 ∷ [])
  unfolding short
  is-short h = simp (lt-ltb _ _ h)

  is-long : cells_of held.head ≤ length held.buffer → none ≡ first (short held 1 ∷ [])
  unfolding short
  is-long h = simp (le-ltb _ _ h)

pub returns-in_err-s : goal.returns-in_err-s
unfolding clearing
returns-in_err-s c = handed-judges _ _ c.from_residual.ensures.1 _ _ _ (stopped c.in_err-s.ensures _ _ refl)

pub returns-then-table-s : goal.returns-then-table-s
unfolding clearing
returns-then-table-s c =
    let a = c.args in
    let e = ap (λ (s : Settings). s.cells) (c.in_ok-s.ensures.good _ refl).0 in
    let h : length a.table.now < cells a.height a.members = omega arith in
    judges-bad _ _ _ _ _ (ap Err c.refusal_at.ensures) (is-short _ h ∙ passed c.in_ok-s.ensures _ _ refl)

pub returns : goal.returns
unfolding clearing
returns c =
    let a = c.args in
    let k = c.in_ok-s.ensures.good _ refl in
    let e = ap (λ (s : Settings). s.cells) k.0 in
    let h : cells a.height a.members ≤ length a.table.now = omega arith in
    judges-good _ _ _ _ _ refl k (is-long _ h ∙ passed c.in_ok-s.ensures _ _ refl)
