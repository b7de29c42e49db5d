-- The sheets of a plan as lists of numbers, and reading a sequence back from two sheets, which may hold anything. Heights are counted from
-- the datum: h stands for z = h - 32. Assumes nothing.
use Rattle.std.specs.Prelude.{ℕ, zero, suc, ◌+◌, ◌-◌, Bool, cond, not, ◌&&◌, ◌||◌, List, ◌∷◌, eqb, ltb, ℤ, get_or}
use Rattle.std.proofs.Math.Option.{Option, none, some}
use Rattle.lists.specs.Best.{Best, best_of}
use Rattle.lists.specs.Grid.{flat}
use Rattle.paper.specs.Layer.{allowed, tmax}
use Rattle.paper.specs.Sequence.{M}
use Rattle.paper.specs.Sheets.{entry_index, missing}
use Rattle.plate.specs.Datum.{height_of, row_of, at_row}
use Rattle.sequence.specs.Sequence.{Rules, starts, lowest_end}
use Rattle.sequence.specs.Least.{least, last}

-- an entry: the number itself, and 2^64 - 1 where there is none
abbrev pub mark : Option ℕ → ℕ
mark none = missing
mark (some e) = e

unfoldable pub unmark : ℕ → Option ℕ
unmark x = cond (eqb x missing) none (some x)

-- the entries of the two sheets by their flat index: heights outer, counts inner
unfoldable pub error_entry : ℕ → ℕ → Rules → ℕ → ℕ
error_entry N T p = flat (M N T + 1) (λ row m. mark (least p m (at_row (tmax T) row)))

unfoldable pub thickness_entry : ℕ → ℕ → Rules → ℕ → ℕ
thickness_entry N T p = flat (M N T + 1) (λ row m. last p m (at_row (tmax T) row))

-- what a sheet holds at the count m and the height h
unfoldable pub entry : ℕ → ℕ → List ℕ → ℕ → ℕ → ℕ
entry N T sheet m h = get_or sheet (entry_index (M N T) (row_of (tmax T) h) m) 0

-- the least entry of count n at the heights from N to N + tmax - 1, and the lowest of them that has it
unfoldable pub end_of : ℕ → ℕ → List ℕ → ℕ → Best
end_of N T errors n = best_of (λ h. unmark (entry N T errors n h)) (lowest_end N) (tmax T)

-- whether layer k of n, of thickness t and with its end at h, reads back: a thickness in T and a step not below -(tmax - 1); by document 02 b)
-- layer n also starts below N, and layer 1 also ends above 0
unfoldable pub reads_back : ℕ → ℕ → ℕ → ℕ → ℕ → ℕ → Bool
reads_back N T n k h t =
    (allowed T t && ltb 32 (h - t + tmax T)) && ((not (eqb k n) || ltb (h - t) (lowest_end N)) && (not (eqb k 1) || ltb 32 h))

-- walking down from h through the m lowest of n layers, whose thicknesses `look` tells: the first layer met that does not read back; or 0 for
-- an end that is no start, as it is above 0
unfoldable pub fault_under : (ℕ → ℕ → ℕ) → ℕ → ℕ → ℕ → ℕ → ℕ → Option ℕ
fault_under look N T n zero h = cond (starts (tmax T) h) none (some 0)
fault_under look N T n (suc m) h =
    cond (reads_back N T n (suc m) h (look (suc m) h))
    (fault_under look N T n m (h - look (suc m) h))
    (some (suc m))

-- the boundaries of that walk, from the lowest up, and then `above`
unfoldable pub boundaries_under : (ℕ → ℕ → ℕ) → ℕ → ℕ → List ℤ → List ℤ
boundaries_under look zero h above = height_of h ∷ above
boundaries_under look (suc m) h above = boundaries_under look m (h - look (suc m) h) (height_of h ∷ above)
