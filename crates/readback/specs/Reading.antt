-- Document 01, 'Read a sequence back from two sheets': its refusals 1, 2, 3, 10, 3, 11, 12, what it returns, and what the output holds
-- then. Sheets may hold anything. Assumes nothing.
use Rattle.std.specs.Prelude.{ℕ, ◌+◌, Bool, true, false, ◌||◌, List, [], ◌∷◌, ◌++◌, ltb, eqb, ℤ, length, drop}
use Rattle.std.proofs.Math.Option.{Option, none, some}
use Rattle.lists.specs.Checks.{Check}
use Rattle.lists.specs.Best.{Best, nothing, found, value, place}
use Rattle.paper.specs.Sequence.{M}
use Rattle.paper.specs.Sheets.{entries}
use Rattle.plate.specs.Call.{Call}
use Rattle.plate.specs.Refusal.{Numbered, check}
use Rattle.plate.specs.Settings.{settings_checks}
use Rattle.sequence.specs.Sheets.{mark, entry, end_of, fault_under, boundaries_under}

-- 3 for the sheets; 10; 3 for the output, which takes n + 1 numbers: by the buffers' lengths
unfoldable pub size_checks : ℕ → ℕ → ℕ → ℕ → ℕ → ℕ → List (Check Numbered)
size_checks N T errors thicknesses n room =
    check 3 (ltb errors (entries N T)) 1
    ∷ check 3 (ltb thicknesses (entries N T)) 2
    ∷ check 10 (eqb n 0 || ltb (M N T) n) 0
    ∷ check 3 (ltb room (n + 1)) 3
    ∷ []

-- 1, 2, 3, 10, 3
abbrev pub room_checks : ℕ → ℕ → ℕ → ℕ → ℕ → ℕ → List (Check Numbered)
room_checks N T errors thicknesses n room = settings_checks N T ++ size_checks N T errors thicknesses n room

-- 11: every entry of count n from N to N + tmax - 1 is 2^64 - 1
abbrev pub is_nothing : Best → Bool
is_nothing nothing = true
is_nothing (found e h) = false

-- 12: the walk down from the chosen end has a fault, at this layer
abbrev pub is_fault : Option ℕ → Bool
is_fault none = false
is_fault (some layer) = true

abbrev pub layer_of : Option ℕ → ℕ
layer_of none = 0
layer_of (some layer) = layer

abbrev pub walk_fault : ℕ → ℕ → List ℕ → List ℕ → ℕ → Option ℕ
walk_fault N T errors thicknesses n = fault_under (entry N T thicknesses) N T n n (place (end_of N T errors n))

unfoldable pub entry_checks : ℕ → ℕ → List ℕ → List ℕ → ℕ → List (Check Numbered)
entry_checks N T errors thicknesses n =
    check 11 (is_nothing (end_of N T errors n)) 0
    ∷ check 12 (is_fault (walk_fault N T errors thicknesses n)) (layer_of (walk_fault N T errors thicknesses n))
    ∷ []

-- THE CALL: where nothing is refused it answers the least of those entries, and writes the boundaries of the walk down from the lowest height
-- that has it, from the lowest up, over what the output held
unfoldable pub reading : ℕ → ℕ → List ℕ → List ℕ → ℕ → List ℤ → Call ℕ (List ℤ)
reading N T errors thicknesses n out = record {
  checks = room_checks N T (length errors) (length thicknesses) n (length out) ++ entry_checks N T errors thicknesses n;
  value = mark (value (end_of N T errors n));
  writes = boundaries_under (entry N T thicknesses) n (place (end_of N T errors n)) (drop (n + 1) out);
  held = out;
}
