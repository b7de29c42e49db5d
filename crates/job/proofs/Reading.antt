-- One record by its checks. After the end record only what is left is asked; otherwise the frame is judged, by the record's kind, and where it
-- passes the body decides. A refusal says its number at the record's first byte. Assumes nothing.
use mathlib.Core.Path.{◌≡◌, refl, sym, ap, ◌∙◌}
use mathlib.Core.Bool.{Bool, true, false, cond}
use mathlib.Core.List.{List, [], ◌∷◌}
use mathlib.Core.Option.{Option, none, some}
use Prim.Native.Nat.{ℕ}
use Rattle.lists.specs.Checks.{Check, first}
use Rattle.lists.proofs.Checks.{first-passed, first-stopped}
use Rattle.plate.specs.Refusal.{done, refused, Numbered, numbered, number_of, told_by, decided}
use Rattle.plate.specs.declared.refusal.Refusal.{Refusal}
use Rattle.record.specs.Frame.{length_at}
use Rattle.record.specs.Faults.{tail, frame_checks}
use Rattle.record.specs.Places.{At}
use Rattle.record.proofs.Frames.{frame_at}
use Rattle.record.proofs.Places.{at_place}
use Rattle.job.specs.Kinds.{allowed_here, fits}
use Rattle.job.specs.Record.{body_checks, kind_checks, record_kind, record_checks, Reading, reading_of, again, moved, read_record, read_body, told_or}
use Rattle.std.specs.Prelude.{Result, IsErrAnd}
use Rattle.plate.proofs.Calls.{handed-is}
use Rattle.job.specs.declared.Step.{Step}
use Rattle.job.specs.declared.State.{State}
use Rattle.job.specs.declared.Kind.{Kind}

-- the first check of a list that says a refusal says it at the place that all of them have
says_at : (st : State) (at : ℕ) (cs : List (Check Numbered)) (x : Reading) → At at cs → (r : Refusal) → some (numbered r) ≡ first cs
    → moved st at (refused (number_of r.reason) at) ≡ moved st at (decided cs x)
says_at st at cs x a r e =
    ap (λ (p : ℕ). moved st at (refused (number_of r.reason) p)) (sym (at_place at cs (numbered r) a (sym e)))
    ∙ ap (λ (o : Option Numbered). moved st at (told_by o x)) e

-- a refusal that a `?` hands on
pub handed : (st : State) (at : ℕ) (result : Result Step Refusal) (r : Refusal) → IsErrAnd result (λ e. e ≡ r) → told_or st at result ≡ moved st at (refused (number_of r.reason) at)
handed st at result r h = ap (told_or st at) (handed-is result r h)

module _ (s : List ℕ) (st : State) (at : ℕ) where
  -- after the end record
  pub after-end : st.ended ≡ true → moved st at (decided (tail s at ∷ []) (again st at)) ≡ read_record s st at
  unfolding read_record record_checks
  after-end e =
      ap (λ (b : Bool). moved st at (decided (cond b (tail s at ∷ []) (kind_checks s st at (record_kind s at))) (cond b (again st at) (reading_of s st at (record_kind s at))))) (sym e)

  pub tail-refused : (r : Refusal) → some (numbered r) ≡ first (tail s at ∷ []) → moved st at (refused (number_of r.reason) at) ≡ moved st at (decided (tail s at ∷ []) (again st at))
  tail-refused r e = says_at st at (tail s at ∷ []) (again st at) (refl, tt) r e

  -- before it, by the kind
  module _ (before : st.ended ≡ false) (k : Kind) (is : k ≡ record_kind s at) where
    by_kind : moved st at (decided (kind_checks s st at k) (reading_of s st at k)) ≡ read_record s st at
    unfolding read_record record_checks
    by_kind =
        ap (λ (k : Kind). moved st at (decided (kind_checks s st at k) (reading_of s st at k))) is
        ∙ ap (λ (b : Bool). moved st at (decided (cond b (tail s at ∷ []) (kind_checks s st at (record_kind s at))) (cond b (again st at) (reading_of s st at (record_kind s at))))) (sym before)

    abbrev frame : List (Check Numbered)
    frame = frame_checks s at (allowed_here st k) (fits k (length_at s at))

    pub frame_refused : (r : Refusal) → some (numbered r) ≡ first frame → moved st at (refused (number_of r.reason) at) ≡ read_record s st at
    unfolding kind_checks
    frame_refused r e =
        says_at st at frame (reading_of s st at k) (frame_at s at (allowed_here st k) (fits k (length_at s at))) r e
        ∙ ap (λ (o : Option Numbered). moved st at (told_by o (reading_of s st at k))) (sym e ∙ sym (first-stopped frame (body_checks s st at k) (numbered r) (sym e)))
        ∙ by_kind

    pub frame-passed : none ≡ first frame → read_body s st at k ≡ read_record s st at
    unfolding kind_checks read_body
    frame-passed e = ap (λ (o : Option Numbered). moved st at (told_by o (reading_of s st at k))) (sym (first-passed frame (body_checks s st at k) (sym e))) ∙ by_kind

  -- ---- the body of a record of this kind

  module _ (k : Kind) where
    pub body_refused : (number : ℕ) → first (body_checks s st at k) ≡ some (record { number = number; place = at }) → moved st at (refused number at) ≡ read_body s st at k
    unfolding read_body
    body_refused number e = ap (λ (o : Option Numbered). moved st at (told_by o (reading_of s st at k))) (sym e)

    pub body-passed : first (body_checks s st at k) ≡ none → moved st at (done (reading_of s st at k)) ≡ read_body s st at k
    unfolding read_body
    body-passed e = ap (λ (o : Option Numbered). moved st at (told_by o (reading_of s st at k))) (sym e)
