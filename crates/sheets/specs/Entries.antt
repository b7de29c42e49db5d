-- The least of entries that stand evenly apart in a sheet, and of those at the end heights. Assumes nothing.
use Rattle.std.specs.Prelude.{ℕ, ◌+◌, ◌-◌, ◌*◌, List, get_or}
use Rattle.lists.specs.Best.{Best, best_of}
use Rattle.paper.specs.Sheets.{entry_index, missing}
use Rattle.sequence.specs.Sheets.{unmark}

-- the least of the `many` entries at `from`, `from` + `apart` and so on, and the lowest place among them that has it. Past its end a sheet
-- has none
unfoldable pub least_from : List ℕ → ℕ → ℕ → ℕ → Best
least_from errors from apart many = best_of (λ k. unmark (get_or errors (from + k * apart) missing)) 0 many

-- the least entry of the count n at the end heights, N to N + tmax - 1, whose rows are the last tmax; the greatest count is `most`
abbrev pub least_end : List ℕ → ℕ → ℕ → ℕ → ℕ → Best
least_end errors N tmax most n = least_from errors (entry_index most (N + tmax - 1) n) (most + 1) tmax
