-- The first settings' checks, the second's, and that they are the same.
use Rattle.std.proofs.Common.{◌≡◌, [], ◌∷◌, refl, ap, ◌∙◌, eq-eqb, ne_eqb, Ok, Err}
use mathlib.Core.Option.{none, some}
use Rattle.lists.specs.Checks.{first}
use Rattle.plate.specs.Head.{head_checks}
use Rattle.plate.specs.Settings.{Judges}
use Rattle.plate.specs.declared.head.Head.{Head}
use Rattle.plate.specs.declared.settings.Settings.{Settings}
use Rattle.plate.proofs.Calls.{judges-bad, judges-good, handed-judges, stopped, passed}
use Rattle.joining.specs.Joining.{differ, pair_checks}
use Rattle.joining.proofs.pair_of.Goals as goal
use Rattle.joining.proofs.pair_of.Goals.{then-head-other-via-then-head-other, then-head-other-via-else-head-other+then-head-other-2}

module _ (head other : Head) where
  differ-height : (head.height ≡ other.height → ⊥) → some (record { number = 8; place = 0 }) ≡ first (differ head other ∷ [])
  unfolding differ
  differ-height n = simp (ne_eqb head.height other.height n)

  differ-members : head.height ≡ other.height → (head.members ≡ other.members → ⊥) → some (record { number = 8; place = 0 }) ≡ first (differ head other ∷ [])
  unfolding differ
  differ-members e n = simp (eq-eqb head.height other.height e, ne_eqb head.members other.members n)

  differ-not : head.height ≡ other.height → head.members ≡ other.members → none ≡ first (differ head other ∷ [])
  unfolding differ
  differ-not e q = simp (eq-eqb head.height other.height e, eq-eqb head.members other.members q)

  -- past 1 and 2 of both, what is left of the checks
  left : {s t : Settings} → Judges (Ok s) (head_checks head) head.height head.members → Judges (Ok t) (head_checks other) other.height other.members
      → first (differ head other ∷ []) ≡ first (pair_checks head other)
  unfolding pair_checks
  left j k = passed k _ _ refl ∙ passed j _ _ refl

pub returns-in_err-s : goal.returns-in_err-s
unfolding pair_checks
returns-in_err-s c = handed-judges _ _ c.from_residual.ensures.1 _ _ _ (stopped c.in_err-s.ensures _ _ refl)

pub returns-in_err-new : goal.returns-in_err-new
unfolding pair_checks
returns-in_err-new c = handed-judges _ _ c.from_residual-in_err-new.ensures.1 _ _ _ (stopped c.in_err-new.ensures _ _ refl ∙ passed c.in_ok-s.ensures _ _ refl)

pub returns-then-head-other : goal.returns-then-head-other
returns-then-head-other c =
    let a = c.args in
    let l = left a.head a.other c.in_ok-s.ensures c.in_ok-new.ensures in
    judges-bad _ _ _ _ _ (ap Err c.refusal_at.ensures)
    (elim c.then-head-other.branch [
      | then-head-other-via-then-head-other w ↦ differ-height _ _ w.if-head-other.true ∙ l
      | then-head-other-via-else-head-other+then-head-other-2 w ↦ differ-members _ _ w.if-head-other.false w.if-head-other-2.true ∙ l
    ])

pub returns : goal.returns
returns c =
    judges-good _ _ _ _ _ refl (c.in_ok-s.ensures.good _ refl)
    (differ-not _ _ c.if-head-other.false c.if-head-other-2.false ∙ left _ _ c.in_ok-s.ensures c.in_ok-new.ensures)
