-- Document 01, 'Picture of a column in a layer': its refusals 1, 2, 4, 5, 13, and what it returns, with document 02 g)'s difference. Assumes nothing.
use Rattle.std.specs.Prelude.{ℕ, ◌+◌, ◌-◌, Bool, not, ◌||◌, List, [], ◌∷◌, ◌++◌, ℤ, pos, neg_ℤ}
use Rattle.std.specs.Int.Signed.{lt_z}
use Rattle.lists.specs.Checks.{Check}
use Rattle.paper.specs.Layer.{allowed, tmax, share, filled, difference}
use Rattle.plate.specs.Refusal.{Told, Numbered, check, decided}
use Rattle.plate.specs.Settings.{settings_checks}
use Rattle.column.specs.Order.{column_checks}
use Rattle.column.specs.declared.Judged.{Judged}

-- z is not a start of the table, -(tmax - 1) to N + tmax - 2
unfoldable pub start_outside : ℕ → ℕ → ℤ → Bool
start_outside N T z = lt_z z (neg_ℤ (pos (tmax T - 1))) || lt_z (pos (N + tmax T - 2)) z

-- 13: at 0, start outside the table's; at 1, thickness not in T
unfoldable pub layer_checks : ℕ → ℕ → ℤ → ℕ → List (Check Numbered)
layer_checks N T z t = check 13 (start_outside N T z) 0 ∷ check 13 (not (allowed T t)) 1 ∷ []

unfoldable pub picture_checks : ℕ → ℕ → List ℕ → ℤ → ℕ → List (Check Numbered)
picture_checks N T bs z t = settings_checks N T ++ (column_checks N bs ++ layer_checks N T z t)

-- filled or not, the share, and the difference
abbrev pub judgement : List ℕ → ℤ → ℕ → Judged
judgement bs z t = record { filled = filled bs z t; share = share bs z t; difference = difference bs z t }

-- THE ANSWER
unfoldable pub picture_answer : ℕ → ℕ → List ℕ → ℤ → ℕ → Told Judged
picture_answer N T bs z t = decided (picture_checks N T bs z t) (judgement bs z t)
