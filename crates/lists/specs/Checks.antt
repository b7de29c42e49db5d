-- A call's refusals as one list of checks, in the order in which they are asked. Assumes nothing.
use Rattle.std.specs.Prelude.{◌≡◌, Bool, true, false, cond, List, [], ◌∷◌, ◌++◌}
use Rattle.std.proofs.Math.Option.{Option, none, some}

-- a test, and what is said where it holds
pub record Check (R : Type 0) : Type 0 where
  pub holds : Bool
  pub says : R

-- what the first check that holds says
abbrev pub first : {R : Type 0} → List (Check R) → Option R
first [] = none
first (c ∷ cs) = cond c.holds (some c.says) (first cs)

-- none of the checks holds
abbrev pub Quiet : {R : Type 0} → List (Check R) → Type 0
Quiet [] = Unit {0}
Quiet (c ∷ cs) = (c.holds ≡ false) × Quiet cs

-- one of the checks says r: its test holds, and nothing earlier in the list does
pub record Given {R : Type 0} (checks : List (Check R)) (r : R) : Type 0 where
  pub earlier : List (Check R)
  pub it : Check R
  pub later : List (Check R)
  pub order : checks ≡ earlier ++ (it ∷ later)
  pub quiet : Quiet earlier
  pub holds : it.holds ≡ true
  pub says : it.says ≡ r
