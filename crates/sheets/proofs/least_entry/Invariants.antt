-- The loop of `least_entry`: the least of the entries that it went over, the k-th of which stands k times `apart` after the first.
use Rattle.std.proofs.Common.{ℕ, ◌+◌, ◌*◌, List, get_or}
use Rattle.std.proofs.Math.Option.{Option}
use Rattle.lists.specs.Best.{best_of}
use Rattle.paper.specs.Sheets.{missing}
use Rattle.sequence.specs.Sheets.{unmark}
use Rattle.sheets.specs.Least.{IsLeast}
use Rattle.sheets.proofs.least_entry.Given as goal

abbrev pub entry : List ℕ → ℕ → ℕ → ℕ → Option ℕ
entry errors from apart k = unmark (get_or errors (from + k * apart) missing)

abbrev pub invariant-loop-place : goal.invariant-loop-place
invariant-loop-place l = IsLeast l.least (best_of (entry l.errors l.from l.apart) 0 l.place)
