-- Document 02 e), the writer of order files: 'Refusals: 1, 2, 14, 3 for the list, 13, 18 (cure time 0, at the first such layer from 1), 3 for the
-- output'; and what is written. Assumes nothing.
use Rattle.std.specs.Prelude.{ℕ, ◌+◌, List, [], ◌∷◌, ◌++◌, ltb, eqb, ℤ, length, drop}
use Rattle.lists.specs.Checks.{Check}
use Rattle.lists.specs.Search.{lowest}
use Rattle.paper.specs.Sequence.{count, thickness}
use Rattle.plate.specs.Call.{Call, behind}
use Rattle.plate.specs.Refusal.{Numbered, check}
use Rattle.recount.specs.Recount.{unbounded_checks}
use Rattle.printed.specs.Possible.{cure_of}
use Rattle.orders.specs.Lent.{lent_checks}
use Rattle.orders.specs.Written.{order_bytes, file_size}

-- the first layer, from 0, whose cure time is 0, and their number where there is none
unfoldable pub first_uncured : List ℕ → List ℤ → ℕ
first_uncured cures zs = lowest (λ k. eqb (cure_of cures (thickness zs k)) 0) (count zs)

-- 18, and 3 for the output
unfoldable pub file_wanted : List ℕ → List ℤ → ℕ → List (Check Numbered)
file_wanted cures zs room =
    check 18 (ltb (first_uncured cures zs) (count zs)) (first_uncured cures zs + 1) ∷ check 3 (ltb room (file_size (count zs))) 2 ∷ []

-- where the sequence is one to be ordered
unfoldable pub filing : ℕ → List ℕ → List ℤ → List ℕ → Call ℕ (List ℕ)
filing step cures zs out = record {
  checks = file_wanted cures zs (length out);
  value = file_size (count zs);
  writes = order_bytes step cures zs ++ drop (file_size (count zs)) out;
  held = out;
}

-- THE CALL: where nothing is refused it answers the file's length, and writes the file over what the output held
unfoldable pub writing_orders : ℕ → ℕ → ℕ → List ℕ → List ℤ → List ℕ → Call ℕ (List ℕ)
writing_orders N T step cures zs out = behind (lent_checks N T step cures ++ unbounded_checks N T zs) (filing step cures zs out)
