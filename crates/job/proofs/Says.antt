-- What is known of a record that was read: its checks passed. A record that is not a fault takes four bytes or more and ends in the input,
-- so that a file has an end; only the end answered again takes none. Assumes nothing.
use mathlib.Core.Path.{◌≡◌, refl, sym, subst}
use mathlib.Core.Bool.{Bool, true, false, cond}
use mathlib.Core.List.{List, [], ◌∷◌}
use mathlib.Core.Option.{Option, none, some}
use Prim.Native.Nat.{ℕ, ◌+◌, ◌*◌, ◌≤◌}
use native.Mathlib.Omega.{arith}
use borrow.Author.Tests.{eqb-true, not-true, not-false}
use lib.Dec.{eqb}
use lib.ListN.{length}
use Rattle.lists.specs.Checks.{first}
use Rattle.lists.proofs.Checks.{first-none, first-later, first-earlier}
use Rattle.plate.specs.Refusal.{Told, done, refused, Numbered, told_by}
use Rattle.plate.specs.Settings.{settings_checks}
use Rattle.plate.specs.Head.{is_full}
use Rattle.column.specs.Order.{column_checks}
use Rattle.record.specs.Bytes.{words}
use Rattle.record.specs.Frame.{length_at}
use Rattle.record.specs.Faults.{tail, frame_checks}
use Rattle.record.specs.Places.{placed}
use Rattle.record.proofs.Frames.{frame-passed}
use Rattle.record.proofs.Places.{placed-passed}
use Rattle.job.specs.State.{begin, counted}
use Rattle.job.specs.Kinds.{allowed_here, fits}
use Rattle.job.specs.Record.{asked_at, columns_at, boundaries_at, body_checks, Ready, kind_checks, record_kind, record_checks, What, settings, column, ended, remark, reading_of, again, Moved, moved, read_record}
use Rattle.job.specs.declared.Asked.{Asked}
use Rattle.job.specs.declared.State.{State}
use Rattle.job.specs.declared.Kind.{Kind}
use Rattle.job.specs.declared.Kind.TheVariants as kind

-- between a place and the end of the file, four bytes or more on
pub record Ahead (s : List ℕ) (at next : ℕ) : Type 0 where
  pub on : at + 4 ≤ next
  pub within : next ≤ length s

pub record SettingsRead (s : List ℕ) (st : State) (at : ℕ) (m : Moved) (a : Asked) : Type 0 where
  pub ahead : Ahead s at m.next
  pub first-of-all : st.begun ≡ false
  pub state : m.state ≡ begin st a
  pub fine : first (settings_checks a.height a.members) ≡ none
  pub asked : a ≡ asked_at s at

pub record ColumnRead (s : List ℕ) (st : State) (at : ℕ) (m : Moved) (start count : ℕ) : Type 0 where
  pub ahead : Ahead s at m.next
  pub begun : st.begun ≡ true
  pub state : m.state ≡ counted st
  pub room : is_full st.head ≡ false
  pub order : first (column_checks st.head.height (words s start count)) ≡ none
  pub within : start + 2 * count ≤ length s

pub record EndRead (s : List ℕ) (st : State) (at : ℕ) (m : Moved) (columns : ℕ) : Type 0 where
  pub head : m.state.head ≡ st.head
  pub bound : m.state.bound ≡ st.bound
  pub counts : columns ≡ st.head.columns
  -- where it was not read before
  pub begun : st.ended ≡ false → st.begun ≡ true
  pub ahead : st.ended ≡ false → Ahead s at m.next

pub record RemarkRead (s : List ℕ) (st : State) (at : ℕ) (m : Moved) : Type 0 where
  pub ahead : Ahead s at m.next
  pub state : m.state ≡ st

abbrev pub SaysBy : List ℕ → State → ℕ → Moved → Told What → Type 0
SaysBy s st at m (done (settings a)) = SettingsRead s st at m a
SaysBy s st at m (done (column start count)) = ColumnRead s st at m start count
SaysBy s st at m (done (ended columns)) = EndRead s st at m columns
SaysBy s st at m (done remark) = RemarkRead s st at m
SaysBy s st at m (refused number place) = Unit {0}

pub record Says (s : List ℕ) (st : State) (at : ℕ) (m : Moved) : Type 0 where
  pub by : SaysBy s st at m m.told

module _ (s : List ℕ) (st : State) (at : ℕ) where
  -- the frame passed, and the body's own checks
  module _ (k : Kind) (e : first (kind_checks s st at k) ≡ none) where
    framed : Ready s st at k
    unfolding kind_checks
    framed = frame-passed s at (allowed_here st k) (fits k (length_at s at)) (first-earlier (frame_checks s at (allowed_here st k) (fits k (length_at s at))) (body_checks s st at k) e)

    body : first (body_checks s st at k) ≡ none
    unfolding kind_checks
    body = first-later (frame_checks s at (allowed_here st k) (fits k (length_at s at))) (body_checks s st at k) e

  reading-says : (k : Kind) → first (kind_checks s st at k) ≡ none → Says s st at (moved st at (done (reading_of s st at k)))
  unfolding body_checks boundaries_at
  reading-says kind.Settings e =
      let f = framed kind.Settings e in
      record {
        by = record {
          ahead = record { on = omega arith; within = f.within };
          first-of-all = not-true st.begun f.allows;
          state = refl;
          fine = placed-passed at (settings_checks (asked_at s at).height (asked_at s at).members) (body kind.Settings e);
          asked = refl;
        };
      }
  reading-says kind.Column e =
      let f = framed kind.Column e in
      let q = (first-none (body_checks s st at kind.Column)).0 (body kind.Column e) in
      let order = column_checks st.head.height (boundaries_at s at) in
      record {
        by = record {
          ahead = record { on = omega arith; within = f.within };
          begun = f.allows;
          state = refl;
          room = q.0;
          order = placed-passed at order ((first-none (placed at order)).1 q.1);
          within = omega (arith, f.within);
        };
      }
  reading-says kind.End e =
      let f = framed kind.End e in
      let q = (first-none (body_checks s st at kind.End)).0 (body kind.End e) in
      record {
        by = record {
          head = refl;
          bound = refl;
          counts = eqb-true (columns_at s at) st.head.columns (not-false (eqb (columns_at s at) st.head.columns) q.0);
          begun = λ _. f.allows;
          ahead = λ _. record { on = omega arith; within = f.within };
        };
      }
  reading-says kind.Remark e = record { by = record { ahead = record { on = omega arith; within = (framed kind.Remark e).within }; state = refl } }
  reading-says kind.Refused e = absurd (let a = (framed kind.Refused e).allows in let z : ◌≡◌ {A = ℕ} 0 1 = cc in omega arith)

  kind-says : (k : Kind) → Says s st at (moved st at (told_by (first (kind_checks s st at k)) (reading_of s st at k)))
  kind-says k = go (first (kind_checks s st at k)) refl
    where
      go : (o : Option Numbered) → first (kind_checks s st at k) ≡ o → Says s st at (moved st at (told_by o (reading_of s st at k)))
      go none e = reading-says k e
      go (some r) e = record { by = tt }

  again-says : st.ended ≡ true → (o : Option Numbered) → Says s st at (moved st at (told_by o (again st at)))
  again-says e none = record {
    by = record {
      head = refl;
      bound = refl;
      counts = refl;
      begun = λ f. absurd (let z : ◌≡◌ {A = ℕ} 0 1 = cc in omega arith);
      ahead = λ f. absurd (let z : ◌≡◌ {A = ℕ} 0 1 = cc in omega arith);
    };
  }
  again-says e (some r) = record { by = tt }

  pub read-says : Says s st at (read_record s st at)
  unfolding read_record record_checks
  read-says = go st.ended refl
    where
      go : (b : Bool) → st.ended ≡ b
          → Says s st at (moved st at (told_by (first (cond b (tail s at ∷ []) (kind_checks s st at (record_kind s at)))) (cond b (again st at) (reading_of s st at (record_kind s at)))))
      go true e = again-says e (first (tail s at ∷ []))
      go false e = kind-says (record_kind s at)

pub says_of : (s : List ℕ) (st : State) (at : ℕ) (m : Moved) → m ≡ read_record s st at → SaysBy s st at m m.told
says_of s st at m e = (subst (Says s st at) (sym e) (read-says s st at)).by
