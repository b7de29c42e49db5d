-- Document 01, 'In a record: fewer than 4 bytes left; kind not allowed here; wrong length for the kind; body past the input', and the two other ways in
-- which a file is broken: a name for each, and its number by document 02 f), '16 now means only that bytes run out; 19 a kind not known or, by the kinds
-- before it alone, not allowed here; 20 a length wrong for the kind; 21 contents that disagree with the file'. Assumes nothing.
use Rattle.std.specs.Prelude.{ℕ, ◌≤◌, ◌≡◌, Bool, true, not, List, [], ◌∷◌, ltb, eqb, length}
use Rattle.lists.specs.Checks.{Check}
use Rattle.plate.specs.Refusal.{Numbered, check}
use Rattle.record.specs.Frame.{left, length_at, body_at, past_at}
use Rattle.record.specs.declared.Fault.{Fault}
use Rattle.record.specs.declared.Fault.TheVariants as fault

-- the number of each way
abbrev pub fault_number : Fault → ℕ
fault_number fault.Cut = 16
fault_number fault.KindHere = 19
fault_number fault.WrongLength = 20
fault_number fault.BodyCut = 16
fault_number fault.Disagrees = 21
fault_number fault.Tail = 21

-- fewer than 4 bytes left
abbrev pub cut : List ℕ → ℕ → Check Numbered
cut s at = check (fault_number fault.Cut) (ltb (left s at) 4) at

-- kind not allowed here
abbrev pub kind_here : Bool → ℕ → Check Numbered
kind_here allowed at = check (fault_number fault.KindHere) (not allowed) at

-- wrong length for the kind
abbrev pub wrong_length : Bool → ℕ → Check Numbered
wrong_length right at = check (fault_number fault.WrongLength) (not right) at

-- body past the input
abbrev pub body_cut : List ℕ → ℕ → Check Numbered
body_cut s at = check (fault_number fault.BodyCut) (ltb (left s (body_at at)) (length_at s at)) at

-- contents that disagree with the file: by some test, or a number that the record gives and what the file has
abbrev pub disagrees : Bool → ℕ → Check Numbered
disagrees when at = check (fault_number fault.Disagrees) when at

abbrev pub unequal : ℕ → ℕ → ℕ → Check Numbered
unequal given counted at = disagrees (not (eqb given counted)) at

-- bytes after the end, at the first of them
abbrev pub tail : List ℕ → ℕ → Check Numbered
tail s end = disagrees (ltb end (length s)) end

-- what is asked of the record at a place before its body is looked at
unfoldable pub frame_checks : List ℕ → ℕ → Bool → Bool → List (Check Numbered)
frame_checks s at allowed right = cut s at ∷ kind_here allowed at ∷ wrong_length right at ∷ body_cut s at ∷ []

-- a record whose frame passes: its kind is allowed, its length is right, and it ends in the input
pub record Framed (s : List ℕ) (at : ℕ) (allowed right : Bool) : Type 0 where
  pub allows : allowed ≡ true
  pub fits : right ≡ true
  pub within : past_at s at ≤ length s
