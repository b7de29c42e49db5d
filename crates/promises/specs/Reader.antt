-- A file that is read record by record, whatever its format: 'the first record at fault decides'. What is asked of a record that comes next is its
-- frame, by what is known from the records before it, and then what is its own; and behind it more is known, or nothing comes. Assumes nothing.
use Rattle.std.specs.Prelude.{ℕ, ◌≤◌, ◌<◌, ◌≡◌, ◌⊎◌, Bool, true, false, List, [], ◌∷◌, ◌++◌}
use Rattle.std.proofs.Math.Option.{Option, none, some}
use Rattle.lists.specs.Checks.{Check, first}
use Rattle.plate.specs.Refusal.{Numbered}
use Rattle.record.specs.Frame.{left, length_at, kind_at, body_at}
use Rattle.record.specs.Faults.{frame_checks, Framed}

-- ---- a format

pub record Reader (Known : Type 0) : Type 0 where
  -- before the first record
  pub start : Known
  -- the first byte of the record that comes next
  pub place : Known → ℕ
  -- its kind may come now; its length is right for its kind
  pub allows : Known → ℕ → Bool
  pub fits : Known → ℕ → ℕ → Bool
  -- what is asked of it behind its frame
  pub own : List ℕ → Known → List (Check Numbered)
  -- what is known behind it; behind the end nothing comes
  pub onward : List ℕ → Known → Option Known

module _ {Known : Type 0} (reader : Reader Known) (file : List ℕ) where
  -- whether the kind of the record that comes next may come, and whether its length is right
  abbrev pub allowed_next : Known → Bool
  allowed_next known = reader.allows known (kind_at file (reader.place known))

  abbrev pub right_next : Known → Bool
  right_next known = reader.fits known (kind_at file (reader.place known)) (length_at file (reader.place known))

  -- all that is asked of it, in its order
  abbrev pub asks : Known → List (Check Numbered)
  asks known = frame_checks file (reader.place known) (allowed_next known) (right_next known) ++ reader.own file known

  -- a record is reached, behind records of these kinds, the latest first: none of them is at fault, and none is the end
  pub data Reached : Known → List ℕ → Type 0 where
    starts : Reached reader.start []
    further : {known next : Known} {kinds : List ℕ} → Reached known kinds → first (asks known) ≡ none → reader.onward file known ≡ some next
        → Reached next (kind_at file (reader.place known) ∷ kinds)

  -- a record that is reached, and of which this holds
  pub record Stops (Fault : Known → List ℕ → Type 0) : Type 0 where
    pub known : Known
    pub kinds : List ℕ
    pub reached : Reached known kinds
    pub fault : Fault known kinds

-- ---- the ways in which a record is broken, by whether its kind is allowed and its length right

module _ (file : List ℕ) (at : ℕ) (allowed : Bool) where
  -- there is a head, and its kind is not known or not allowed here
  abbrev pub KindBarred : Type 0
  KindBarred = (4 ≤ left file at) × (allowed ≡ false)

  module _ (right : Bool) where
    -- bytes run out: fewer than 4 are left for a head; or the head is one that may come, and the body is past the input
    abbrev pub RunsOut : Type 0
    RunsOut = (left file at < 4) ⊎ ((4 ≤ left file at) × (allowed ≡ true) × (right ≡ true) × (left file (body_at at) < length_at file at))

    -- there is a head of a kind that is allowed, and its length is wrong
    abbrev pub LengthWrong : Type 0
    LengthWrong = (4 ≤ left file at) × (allowed ≡ true) × (right ≡ false)

    -- the frame passes, and the first check behind it that holds is one of contents that disagree
    abbrev pub Contradicts : List (Check Numbered) → ℕ → Type 0
    Contradicts own place = Framed file at allowed right × (first own ≡ some (record { number = 21; place = place }))
