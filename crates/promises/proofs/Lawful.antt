-- What is asked of a format so that the numbers of its faults tell which way a file is broken: its own checks have no number of a frame's; bytes behind a
-- whole record change nothing of what is said of it, but that nothing may stand behind the end; and its kind test is its grammar's. A record passes exactly
-- where its frame and its own checks do. Assumes nothing.
use Prim.Native.Nat.{ℕ, ◌≤◌, ◌<◌}
use mathlib.Core.Path.{◌≡◌, ◌∙◌}
use mathlib.Core.Bool.{Bool, false}
use mathlib.Core.List.{List, ◌++◌}
use mathlib.Core.Option.{none, some}
use lib.ListN.{length}
use Rattle.lists.specs.Checks.{Check, first}
use Rattle.lists.proofs.Checks.{first-passed, first-earlier, first-later}
use Rattle.plate.specs.Refusal.{Numbered}
use Rattle.record.specs.Frame.{past_at}
use Rattle.record.specs.Faults.{frame_checks, Framed}
use Rattle.record.proofs.Frames.{frame-passed, frame-passes}
use Rattle.promises.specs.Reader.{Reader, allowed_next, right_next, asks, Reached}

-- the number is none of a frame's
pub record NotOfFrame (number : ℕ) : Type 0 where
  pub not_16 : number ≡ 16 → ⊥
  pub not-19 : number ≡ 19 → ⊥
  pub not-20 : number ≡ 20 → ⊥

module _ {Known : Type 0} (reader : Reader Known) where
  -- the frame of the record that comes next passes
  abbrev pub FramedNext : List ℕ → Known → Type 0
  FramedNext file known = Framed file (reader.place known) (allowed_next reader file known) (right_next reader file known)

  -- it passes, and another comes
  pub record GoesOn (file : List ℕ) (known next : Known) : Type 0 where
    pub quiet : first (reader.own file known) ≡ none
    pub onward : reader.onward file known ≡ some next

  pub record Lawful (grammar : List ℕ → ℕ → Bool) : Type 0 where
    pub own-numbers : (file : List ℕ) (known : Known) (r : Numbered) → first (reader.own file known) ≡ some r → NotOfFrame r.number
    pub same-fault : (file more : List ℕ) (known : Known) → FramedNext file known → (r : Numbered) → first (reader.own file known) ≡ some r
        → first (reader.own (file ++ more) known) ≡ some r
    pub same-onward : (file more : List ℕ) (known next : Known) → FramedNext file known → GoesOn file known next → GoesOn (file ++ more) known next
    -- the next record stands behind it
    pub next_place : (file : List ℕ) (known next : Known) → FramedNext file known → GoesOn file known next → reader.place next ≡ past_at file (reader.place known)
    -- behind the end stands nothing
    pub last : (file : List ℕ) (known : Known) → FramedNext file known → first (reader.own file known) ≡ none → reader.onward file known ≡ none
        → length file ≤ past_at file (reader.place known)
    -- there are kinds that no format has
    pub unknown : (known : Known) (kind : ℕ) → 256 ≤ kind → kind < 512 → reader.allows known kind ≡ false
    pub kind-test : (file : List ℕ) {known : Known} {kinds : List ℕ} → Reached reader file known kinds → (kind : ℕ) → reader.allows known kind ≡ grammar kinds kind

  -- ---- a record passes exactly where its frame and its own checks do

  module _ (file : List ℕ) (known : Known) where
    abbrev frame : List (Check Numbered)
    frame = frame_checks file (reader.place known) (allowed_next reader file known) (right_next reader file known)

    pub passed-frame : first (asks reader file known) ≡ none → FramedNext file known
    passed-frame e =
        frame-passed file (reader.place known) (allowed_next reader file known) (right_next reader file known) (first-earlier frame (reader.own file known) e)

    pub passed-own : first (asks reader file known) ≡ none → first (reader.own file known) ≡ none
    passed-own e = first-later frame (reader.own file known) e

    pub whole-passes : FramedNext file known → first (reader.own file known) ≡ none → first (asks reader file known) ≡ none
    whole-passes f e =
        first-passed frame (reader.own file known) (frame-passes file (reader.place known) (allowed_next reader file known) (right_next reader file known) f) ∙ e
