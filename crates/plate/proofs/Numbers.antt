-- A refusal's number says its reason: the reason that stands there in document 01's table is the reason again. Assumes nothing.
use Prim.Native.Nat.{ℕ, ◌-◌}
use mathlib.Core.Path.{◌≡◌, refl, sym, ap, ◌∙◌}
use mathlib.Core.List.{List, [], ◌∷◌}
use lib.ListN.{get_or}
use Rattle.plate.specs.Refusal.{number_of}
use Rattle.plate.specs.declared.refusal.Reason.{Reason}
use Rattle.plate.specs.declared.refusal.Reason.TheVariants as reason

-- the reasons in the order of document 01's table
abbrev reasons : List Reason
reasons =
    reason.Height
    ∷ reason.NoThickness
    ∷ reason.ShortBuffer
    ∷ reason.BoundaryCount
    ∷ reason.Boundary
    ∷ reason.Cell
    ∷ reason.Columns
    ∷ reason.Settings
    ∷ reason.NotAPart
    ∷ reason.Count
    ∷ reason.NoSequence
    ∷ reason.Unreadable
    ∷ reason.NotAdmissible
    ∷ reason.Step
    ∷ reason.MotorBoundary
    ∷ reason.RanOut
    ∷ reason.TooLarge
    ∷ reason.NoCure
    ∷ reason.WrongKind
    ∷ reason.WrongLength
    ∷ reason.Disagrees
    ∷ []

-- what stands there at a number, counted from 1
abbrev pub reason_of : ℕ → Reason
reason_of n = get_or reasons (n - 1) reason.Height

pub reason-back : (r : Reason) → reason_of (number_of r) ≡ r
reason-back reason.Height = refl
reason-back reason.NoThickness = refl
reason-back reason.ShortBuffer = refl
reason-back reason.BoundaryCount = refl
reason-back reason.Boundary = refl
reason-back reason.Cell = refl
reason-back reason.Columns = refl
reason-back reason.Settings = refl
reason-back reason.NotAPart = refl
reason-back reason.Count = refl
reason-back reason.NoSequence = refl
reason-back reason.Unreadable = refl
reason-back reason.NotAdmissible = refl
reason-back reason.Step = refl
reason-back reason.MotorBoundary = refl
reason-back reason.RanOut = refl
reason-back reason.TooLarge = refl
reason-back reason.NoCure = refl
reason-back reason.WrongKind = refl
reason-back reason.WrongLength = refl
reason-back reason.Disagrees = refl

pub number-only : (a b : Reason) → number_of a ≡ number_of b → a ≡ b
number-only a b e = sym (reason-back a) ∙ ap reason_of e ∙ reason-back b
