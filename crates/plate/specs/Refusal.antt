-- Document 01, 'What comes back': the number of each reason, and what an answer tells in the document's numbers. Assumes nothing.
use Rattle.std.specs.Prelude.{ℕ, Bool, List, Result, Ok, Err}
use Rattle.std.proofs.Math.Option.{Option, none, some}
use Rattle.lists.specs.Checks.{Check, first}
use Rattle.plate.specs.declared.refusal.Reason.{Reason}
use Rattle.plate.specs.declared.refusal.Reason.TheVariants as reason
use Rattle.plate.specs.declared.refusal.Refusal.{Refusal}

abbrev pub number_of : Reason → ℕ
number_of reason.Height = 1
number_of reason.NoThickness = 2
number_of reason.ShortBuffer = 3
number_of reason.BoundaryCount = 4
number_of reason.Boundary = 5
number_of reason.Cell = 6
number_of reason.Columns = 7
number_of reason.Settings = 8
number_of reason.NotAPart = 9
number_of reason.Count = 10
number_of reason.NoSequence = 11
number_of reason.Unreadable = 12
number_of reason.NotAdmissible = 13
number_of reason.Step = 14
number_of reason.MotorBoundary = 15
number_of reason.RanOut = 16
number_of reason.TooLarge = 17
number_of reason.NoCure = 18
number_of reason.WrongKind = 19
number_of reason.WrongLength = 20
number_of reason.Disagrees = 21

-- what a call tells: a value, or a refusal's number and place
pub data Told (X : Type 0) : Type 0 where
  done : X → Told X
  refused : ℕ → ℕ → Told X

abbrev pub refusal : {X : Type 0} → Refusal → Told X
refusal r = refused (number_of r.reason) r.place

abbrev pub told : {X : Type 0} → Result X Refusal → Told X
told (Ok x) = done x
told (Err r) = refusal r

-- a number of the document's table, and its place
pub record Numbered : Type 0 where
  pub number : ℕ
  pub place : ℕ

abbrev pub numbered : Refusal → Numbered
numbered r = record { number = number_of r.reason; place = r.place }

-- what a function that asks some checks of a call found: nothing, or the refusal of the first that holds
abbrev pub said_by : {X : Type 0} → Result X Refusal → Option Numbered
said_by (Ok x) = none
said_by (Err r) = some (numbered r)

-- the refusal of this number and place, when it is given
abbrev pub check : ℕ → Bool → ℕ → Check Numbered
check number when place = record { holds = when; says = record { number = number; place = place } }

-- a call's answer: the first of its checks that holds, or else its value
abbrev pub told_by : {X : Type 0} → Option Numbered → X → Told X
told_by none x = done x
told_by (some r) x = refused r.number r.place

abbrev pub decided : {X : Type 0} → List (Check Numbered) → X → Told X
decided checks x = told_by (first checks) x

-- what a lent buffer holds then: what the call writes, and on a refusal what it held
abbrev pub after : {X B : Type 0} → Told X → B → B → B
after (done x) written held = written
after (refused number place) written held = held
