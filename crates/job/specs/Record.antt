-- Document 01, 'Job file': what reading one record finds, by the reading state handed in. Its checks are one list in the document's order, and
-- each place is the record's first byte. Assumes nothing.
use Rattle.std.specs.Prelude.{ℕ, ◌+◌, ◌/◌, cond, List, [], ◌∷◌, ◌++◌, Result, Ok, Err}
use Rattle.lists.specs.Checks.{Check}
use Rattle.plate.specs.Refusal.{Told, done, refused, number_of, Numbered, check, decided}
use Rattle.plate.specs.declared.refusal.Refusal.{Refusal}
use Rattle.plate.specs.Settings.{settings_checks}
use Rattle.plate.specs.Head.{is_full}
use Rattle.column.specs.Order.{column_checks}
use Rattle.record.specs.Bytes.{le16, le32, words}
use Rattle.record.specs.Frame.{length_at, kind_at, body_at, past_at}
use Rattle.record.specs.Faults.{unequal, tail, frame_checks, Framed}
use Rattle.record.specs.Places.{placed}
use Rattle.job.specs.State.{begin, counted, finish}
use Rattle.job.specs.Kinds.{kind_of, allowed_here, fits}
use Rattle.job.specs.declared.Asked.{Asked}
use Rattle.job.specs.declared.State.{State}
use Rattle.job.specs.declared.Kind.{Kind}
use Rattle.job.specs.declared.Kind.TheVariants as kind
use Rattle.job.specs.declared.Read.{Read}
use Rattle.job.specs.declared.Read.TheVariants as read
use Rattle.job.specs.declared.Step.{Step}

-- ---- what a body holds

-- settings: N (2), T (4), bound (4)
abbrev pub asked_at : List ℕ → ℕ → Asked
asked_at s at = record { height = le16 s (body_at at); members = le32 s (body_at at + 2); bound = le32 s (body_at at + 6) }

-- a column: its boundaries, two bytes each
abbrev pub count_at : List ℕ → ℕ → ℕ
count_at s at = length_at s at / 2

unfoldable pub boundaries_at : List ℕ → ℕ → List ℕ
boundaries_at s at = words s (body_at at) (count_at s at)

-- an end: the number of columns
abbrev pub columns_at : List ℕ → ℕ → ℕ
columns_at s at = le32 s (body_at at)

-- ---- what is asked of a record

-- 1, 2 at settings only; 7, 4, 5 at a column only, judged by the state's count and height as they stand; end count unequal
unfoldable pub body_checks : List ℕ → State → ℕ → Kind → List (Check Numbered)
body_checks s st at kind.Settings = placed at (settings_checks (asked_at s at).height (asked_at s at).members)
body_checks s st at kind.Column = check 7 (is_full st.head) at ∷ placed at (column_checks st.head.height (boundaries_at s at))
body_checks s st at kind.End = unequal (columns_at s at) st.head.columns at ∷ []
body_checks s st at kind.Remark = []
body_checks s st at kind.Refused = []

-- a record whose frame passes as one of this kind
abbrev pub Ready : List ℕ → State → ℕ → Kind → Type 0
Ready s st at k = Framed s at (allowed_here st k) (fits k (length_at s at))

-- of a record of this kind: its frame, and then its body
unfoldable pub kind_checks : List ℕ → State → ℕ → Kind → List (Check Numbered)
kind_checks s st at k = frame_checks s at (allowed_here st k) (fits k (length_at s at)) ++ body_checks s st at k

-- the kind that the record at a place has
abbrev pub record_kind : List ℕ → ℕ → Kind
record_kind s at = kind_of (kind_at s at)

-- after the end record, nothing may be left
unfoldable pub record_checks : List ℕ → State → ℕ → List (Check Numbered)
record_checks s st at = cond st.ended (tail s at ∷ []) (kind_checks s st at (record_kind s at))

-- ---- what is read where no check holds

-- 'settings, a column with its place, an end, a remark'
pub data What : Type 0 where
  settings : Asked → What
  -- where the boundaries stand, and how many they are
  column : ℕ → ℕ → What
  ended : ℕ → What
  remark : What

-- what was read, and where and in which state the reading goes on
pub record Reading : Type 0 where
  pub what : What
  pub next : ℕ
  pub state : State

abbrev pub what_of : List ℕ → ℕ → Kind → What
what_of s at kind.Settings = settings (asked_at s at)
what_of s at kind.Column = column (body_at at) (count_at s at)
what_of s at kind.End = ended (columns_at s at)
what_of s at kind.Remark = remark
what_of s at kind.Refused = remark

abbrev pub state_after : List ℕ → State → ℕ → Kind → State
state_after s st at kind.Settings = begin st (asked_at s at)
state_after s st at kind.Column = counted st
state_after s st at kind.End = finish st
state_after s st at kind.Remark = st
state_after s st at kind.Refused = st

abbrev pub reading_of : List ℕ → State → ℕ → Kind → Reading
reading_of s st at k = record { what = what_of s at k; next = past_at s at; state = state_after s st at k }

-- 'after the end record, nothing being left, the end is answered again'
abbrev pub again : State → ℕ → Reading
again st at = record { what = ended st.head.columns; next = at; state = st }

abbrev pub reading_at : List ℕ → State → ℕ → Reading
reading_at s st at = cond st.ended (again st at) (reading_of s st at (record_kind s at))

-- ---- a read

-- what a read tells; where it is refused nothing moves
pub record Moved : Type 0 where
  pub told : Told What
  pub next : ℕ
  pub state : State

abbrev pub moved : State → ℕ → Told Reading → Moved
moved st at (done r) = record { told = done r.what; next = r.next; state = r.state }
moved st at (refused number place) = record { told = refused number place; next = at; state = st }

-- THE READ of the record at a place
unfoldable pub read_record : List ℕ → State → ℕ → Moved
read_record s st at = moved st at (decided (record_checks s st at) (reading_at s st at))

-- its part that looks at the body of a record of this kind
unfoldable pub read_body : List ℕ → State → ℕ → Kind → Moved
read_body s st at k = moved st at (decided (body_checks s st at k) (reading_of s st at k))

-- ---- what a step tells, in document 01's numbers

abbrev pub told_read : Read → Told What
told_read (read.Settings a) = done (settings a)
told_read (read.Column start count) = done (column start count)
told_read (read.End columns) = done (ended columns)
told_read read.Remark = done remark
told_read (read.Fault reason place) = refused (number_of reason) place

abbrev pub told_step : Step → Moved
told_step step = record { told = told_read step.read; next = step.cursor.at; state = step.state }

-- or the refusal of one of its checks: its number is told, and the record's first byte, whatever place it had where it was found
abbrev pub told_or : State → ℕ → Result Step Refusal → Moved
told_or st at (Ok step) = told_step step
told_or st at (Err r) = moved st at (refused (number_of r.reason) at)
