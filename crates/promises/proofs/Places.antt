-- 'In a file each place is the record's first byte': every check of a record has that place, so the first that holds has it. Assumes nothing.
use mathlib.Core.Path.{◌≡◌, refl, sym, ◌∙◌}
use mathlib.Core.Bool.{Bool, true, false, cond}
use mathlib.Core.List.{List, [], ◌∷◌}
use Prim.Native.Nat.{ℕ}
use Rattle.plate.specs.Refusal.{refused}
use Rattle.plate.specs.Settings.{settings_checks}
use Rattle.plate.proofs.Decided.{refused-first}
use Rattle.column.specs.Order.{column_checks}
use Rattle.record.specs.Frame.{length_at}
use Rattle.record.specs.Faults.{tail, frame_checks}
use Rattle.record.specs.Places.{At}
use Rattle.record.proofs.Frames.{frame_at}
use Rattle.record.proofs.Places.{placed_at, both_at, at_place}
use Rattle.job.specs.Kinds.{allowed_here, fits}
use Rattle.job.specs.Record.{asked_at, boundaries_at, body_checks, kind_checks, record_kind, record_checks, reading_at, read_record}
use Rattle.job.specs.declared.State.{State}
use Rattle.job.specs.declared.Kind.{Kind}
use Rattle.job.specs.declared.Kind.TheVariants as kind
use Rattle.promises.proofs.Refusals.{record-told}

module _ (s : List ℕ) (st : State) (at : ℕ) where
  body_at : (k : Kind) → At at (body_checks s st at k)
  unfolding body_checks
  body_at kind.Settings = placed_at at (settings_checks (asked_at s at).height (asked_at s at).members)
  body_at kind.Column = (refl, placed_at at (column_checks st.head.height (boundaries_at s at)))
  body_at kind.End = (refl, tt)
  body_at kind.Remark = tt
  body_at kind.Refused = tt

  kind-at : (k : Kind) → At at (kind_checks s st at k)
  unfolding kind_checks
  kind-at k =
      both_at at (frame_checks s at (allowed_here st k) (fits k (length_at s at))) (body_checks s st at k) (frame_at s at (allowed_here st k) (fits k (length_at s at))) (body_at k)

  record-at : At at (record_checks s st at)
  unfolding record_checks
  record-at = go st.ended
    where
      go : (b : Bool) → At at (cond b (tail s at ∷ []) (kind_checks s st at (record_kind s at)))
      go true = (refl, tt)
      go false = kind-at (record_kind s at)

  pub record-place : (number place : ℕ) → (read_record s st at).told ≡ refused number place → place ≡ at
  record-place number place e =
      at_place at (record_checks s st at) (record { number = number; place = place }) record-at
      (refused-first (record_checks s st at) (reading_at s st at).what number place (sym (record-told s st at) ∙ e))
