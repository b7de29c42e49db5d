-- 9 at place 0, 9 at the lowest cell, or none.
use Rattle.std.proofs.Common.{◌≡◌, ℕ, ◌<◌, ◌≤◌, true, false, sym, refl, ap, ◌∙◌, arith, le-ltb, lt-ltb, Err}
use mathlib.Core.Option.{none, some}
use Rattle.lists.specs.Checks.{first}
use Rattle.plate.specs.Head.{Held, is_less, cells_of}
use Rattle.plate.proofs.Calls.{judges-bad, judges-good}
use Rattle.joining.specs.Parts.{first_not_part}
use Rattle.joining.specs.Joining.{part_checks}
use Rattle.joining.proofs.check_part.Goals as goal

module _ (held other : Held) where
  part-greater : is_less held.head other.head ≡ true → some (record { number = 9; place = 0 }) ≡ first (part_checks held other)
  unfolding part_checks
  part-greater e = simp e

  module _ (fewer : is_less held.head other.head ≡ false) (at : ℕ) (e : first_not_part held other ≡ at) where
    part-not : at < cells_of held.head → some (record { number = 9; place = at }) ≡ first (part_checks held other)
    unfolding part_checks
    part-not h = rw e (simp (fewer, lt-ltb _ _ h))

    part-done : cells_of held.head ≤ at → none ≡ first (part_checks held other)
    unfolding part_checks
    part-done h = rw e (simp (fewer, le-ltb _ _ h))

pub returns-then-is_less : goal.returns-then-is_less
returns-then-is_less c = judges-bad _ _ _ _ _ (ap Err c.refusal_at.ensures) (part-greater _ _ (sym c.is_less.ensures ∙ c.if-is_less.true))

pub returns-in-Some : goal.returns-in-Some
unfolding first_not_part
returns-in-Some c =
    judges-bad _ _ _ _ _ (ap Err c.refusal_at-in-Some.ensures)
    (part-not _ _ (sym c.is_less.ensures ∙ c.if-is_less.false) _ c.in-Some.ensures.0 c.in-Some.ensures.1)

pub returns : goal.returns
unfolding first_not_part
returns c =
    let k = c.requires.settings_for in
    judges-good _ _ _ _ _ refl (k.is, k.sound) (part-done _ _ (sym c.is_less.ensures ∙ c.if-is_less.false) _ c.in_default.ensures (omega arith))
