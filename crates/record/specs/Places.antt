-- Document 01, 'In a file each place is the record's first byte'. Assumes nothing.
use Rattle.std.specs.Prelude.{ℕ, ◌≡◌, List, [], ◌∷◌}
use Rattle.lists.specs.Checks.{Check}
use Rattle.plate.specs.Refusal.{Numbered, check}

-- checks whose place is the record's first byte, whatever place they have elsewhere
abbrev pub placed : ℕ → List (Check Numbered) → List (Check Numbered)
placed at [] = []
placed at (c ∷ cs) = check c.says.number c.holds at ∷ placed at cs

-- checks whose places are all this one
abbrev pub At : ℕ → List (Check Numbered) → Type 0
At at [] = Unit {0}
At at (c ∷ cs) = (c.says.place ≡ at) × At at cs
