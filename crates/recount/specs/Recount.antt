-- Document 01, 'Recount a sequence over a table', with document 02 b): its refusals 1, 2, 3, 7, 6, 13, and what it returns. The boundaries are any whole
-- numbers, taken as heights counted from the datum: every z of -32 or less is none that a sequence has. Assumes nothing.
use Rattle.std.specs.Prelude.{ℕ, suc, ◌+◌, ◌-◌, Bool, not, ◌&&◌, ◌||◌, List, [], ◌∷◌, ◌++◌, leb, ltb, eqb, ℤ, length}
use Rattle.lists.specs.Checks.{Check}
use Rattle.lists.specs.Search.{lowest}
use Rattle.paper.specs.Limits.{largest_bound}
use Rattle.paper.specs.Layer.{allowed, tmax}
use Rattle.paper.specs.Table.{of_table}
use Rattle.paper.specs.Sequence.{◌!◌, count, error}
use Rattle.plate.specs.Call.{Call}
use Rattle.plate.specs.Datum.{datum}
use Rattle.plate.specs.Head.{Held}
use Rattle.plate.specs.Refusal.{Numbered, check}
use Rattle.sequence.specs.Sequence.{starts, lowest_end}
use Rattle.table.specs.Cells.{cell_from}
use Rattle.table.specs.Table.{table_checks}

-- the layer between two heights is by itself no layer of an admissible sequence: its thickness isn't in T, it ends above N + tmax - 1, or it is over
-- the bound
unfoldable pub out_between : ℕ → ℕ → List ℕ → ℕ → ℕ → ℕ → Bool
out_between N T table bound below above =
    not (allowed T (above - below)) || (ltb (N + tmax T + 31) above || ltb bound (cell_from T table below (above - below)))

-- the layer from zk up
unfoldable pub layer_out : ℕ → ℕ → List ℕ → ℕ → List ℤ → ℕ → Bool
layer_out N T table bound zs k = out_between N T table bound (datum (zs ! k)) (datum (zs ! suc k))

-- the last layer does not end the sequence: z(n - 1) isn't below N (document 02 b), or zn is below N
abbrev pub last_out : ℕ → ℕ → ℕ → Bool
last_out N below above = leb (lowest_end N) below || ltb above (lowest_end N)

-- the index k + 1 is at fault: the layer from zk up is out; or it is index 1, and z1 isn't above 0 (document 02 b); or it is index n, and the
-- last layer does not end the sequence
unfoldable pub fault_at : ℕ → ℕ → List ℕ → ℕ → List ℤ → ℕ → Bool
fault_at N T table bound zs k =
    layer_out N T table bound zs k
    || ((eqb k 0 && leb (datum (zs ! suc k)) 32) || (eqb (suc k) (count zs) && last_out N (datum (zs ! k)) (datum (zs ! suc k))))

-- the first such k, and the number of layers where there is none
unfoldable pub first_fault : ℕ → ℕ → List ℕ → ℕ → List ℤ → ℕ
first_fault N T table bound zs = lowest (fault_at N T table bound zs) (count zs)

-- 13: fewer than two boundaries, or z0 no start, at 0; then the lowest index from 1 at fault
unfoldable pub sequence_checks : ℕ → ℕ → List ℕ → ℕ → List ℤ → List (Check Numbered)
sequence_checks N T table bound zs =
    check 13 (ltb (length zs) 2 || not (starts (tmax T) (datum (zs ! 0)))) 0
    ∷ check 13 (ltb (first_fault N T table bound zs) (count zs)) (first_fault N T table bound zs + 1)
    ∷ []

-- the same where there is no bound: over no columns, whose layers have no error, with the largest one
abbrev pub unbounded_checks : ℕ → ℕ → List ℤ → List (Check Numbered)
unbounded_checks N T zs = sequence_checks N T [] largest_bound zs

-- THE CALL: it answers the sequence's error, and writes nothing
unfoldable pub recounting : Held → ℕ → List ℤ → Call ℕ (Unit {0})
recounting held bound zs = record {
  checks = table_checks held ++ sequence_checks held.head.height held.head.members held.buffer bound zs;
  value = error (of_table held.head.height held.head.members held.buffer) zs;
  writes = tt;
  held = tt;
}
