-- What each kind's own checks say. Assumes nothing.
use mathlib.Core.Path.{◌≡◌, refl}
use mathlib.Core.Bool.{Bool, true, false, ◌||◌}
use mathlib.Core.List.{List}
use mathlib.Core.Option.{none, some}
use Prim.Native.Nat.{ℕ, ◌<◌}
use borrow.Author.Tests.{lt-ltb, eq-eqb, ne_eqb}
use Rattle.lists.specs.Checks.{first}
use Rattle.paper.specs.Limits.{most_boundaries}
use Rattle.plate.specs.Refusal.{Numbered}
use Rattle.plate.specs.Settings.{settings_checks}
use Rattle.plate.specs.Head.{is_full}
use Rattle.column.specs.Order.{column_checks}
use Rattle.record.specs.Frame.{body_at}
use Rattle.record.specs.Faults as fault
use Rattle.record.proofs.Bytes.{length-words}
use Rattle.record.proofs.Places.{placed-none, placed-some}
use Rattle.job.specs.Record.{asked_at, count_at, boundaries_at, columns_at, body_checks}
use Rattle.job.specs.declared.State.{State}
use Rattle.job.specs.declared.Kind.TheVariants as kind

module _ (s : List ℕ) (st : State) (at : ℕ) where
  -- an end
  pub unequal : (columns_at s at ≡ st.head.columns → ⊥) → first (body_checks s st at kind.End) ≡ some (fault.unequal (columns_at s at) st.head.columns at).says
  unfolding body_checks
  unequal n = simp (ne_eqb _ _ n)

  pub equal : columns_at s at ≡ st.head.columns → first (body_checks s st at kind.End) ≡ none
  unfolding body_checks
  equal e = simp (eq-eqb _ _ e)

  -- settings
  pub settings-refused : (r : Numbered) → first (settings_checks (asked_at s at).height (asked_at s at).members) ≡ some r
      → first (body_checks s st at kind.Settings) ≡ some (record { number = r.number; place = at })
  unfolding body_checks
  settings-refused r e = placed-some at (settings_checks (asked_at s at).height (asked_at s at).members) r e

  pub settings-passed : first (settings_checks (asked_at s at).height (asked_at s at).members) ≡ none → first (body_checks s st at kind.Settings) ≡ none
  unfolding body_checks
  settings-passed e = placed-none at (settings_checks (asked_at s at).height (asked_at s at).members) e

  -- a column
  pub full : is_full st.head ≡ true → first (body_checks s st at kind.Column) ≡ some (record { number = 7; place = at })
  unfolding body_checks
  full e = simp e

  pub column-refused : is_full st.head ≡ false → (r : Numbered) → first (column_checks st.head.height (boundaries_at s at)) ≡ some r
      → first (body_checks s st at kind.Column) ≡ some (record { number = r.number; place = at })
  unfolding body_checks
  column-refused l r e = rw l (placed-some at (column_checks st.head.height (boundaries_at s at)) r e)

  pub column-passed : is_full st.head ≡ false → first (column_checks st.head.height (boundaries_at s at)) ≡ none → first (body_checks s st at kind.Column) ≡ none
  unfolding body_checks
  column-passed l e = rw l (placed-none at (column_checks st.head.height (boundaries_at s at)) e)

or-true : (b : Bool) → b || true ≡ true
or-true true = refl
or-true false = refl

-- more boundaries than a column can have
pub too_long : (height : ℕ) (s : List ℕ) (at : ℕ) → most_boundaries < count_at s at
    → first (column_checks height (boundaries_at s at)) ≡ some (record { number = 4; place = count_at s at })
unfolding column_checks boundaries_at
too_long height s at l = simp (length-words s (body_at at) (count_at s at), lt-ltb most_boundaries (count_at s at) l, or-true)
