-- Document 02 c), the table file as it is read: 'Refusals of the reader: 16 by record as in the job file', which f) splits, 'then 1, 2, 7 and 6 as
-- they apply, at the record'. What is asked of each record in its order, record after record, so that the first record at fault decides. All rows are as long, so
-- that row r has its place by its number. Assumes nothing.
use Rattle.std.specs.Prelude.{ℕ, zero, suc, ◌+◌, ◌*◌, Bool, not, cond, ◌||◌, List, [], ◌∷◌, ◌++◌, ltb, eqb, get_or}
use Rattle.lists.specs.Checks.{Check}
use Rattle.lists.specs.Search.{some_below}
use Rattle.paper.specs.Layer.{tmax}
use Rattle.plate.specs.Refusal.{Told, Numbered, check, decided}
use Rattle.plate.specs.Head.{Held, held_in, limit_of, head_checks, over_check}
use Rattle.plate.specs.declared.head.Head.{Head}
use Rattle.record.specs.Bytes.{le16, le32, quads}
use Rattle.record.specs.Frame.{length_at, kind_at, body_at}
use Rattle.record.specs.Faults.{disagrees, tail, frame_checks}
use Rattle.sent.specs.Kinds.{head_kind, end_kind, head_length, row_length, end_length, allowed_after, fits}
use Rattle.sent.specs.Start.{row_start, twos16}
use Rattle.sent.specs.Written.{rows_of}

-- ---- kind 16, which stands at 0: 1, 2, 7

unfoldable pub head_in : List ℕ → Head
head_in s = record { height = le16 s 4; members = le32 s 6; columns = le32 s 10 }

unfoldable pub opening_checks : List ℕ → List (Check Numbered)
opening_checks s = frame_checks s 0 (eqb (kind_at s 0) head_kind) (eqb (length_at s 0) head_length) ++ (head_checks (head_in s) ++ (over_check (head_in s) ∷ []))

-- ---- kind 17: the start is the next one, and then 6

-- the first byte of row r, from 0, or of what stands there
unfoldable pub row_place : ℕ → ℕ → ℕ
row_place T r = 4 + head_length + r * (4 + row_length T)

-- its cells
abbrev pub row_at : List ℕ → ℕ → ℕ → List ℕ
row_at s T r = quads s (body_at (row_place T r) + 2) (tmax T)

-- the start is not the next one, or past the last: no row is left
abbrev pub start_wrong : List ℕ → ℕ → ℕ → ℕ → Bool
start_wrong s T left r = eqb left 0 || not (eqb (le16 s (body_at (row_place T r))) (twos16 (row_start T r)))

-- a cell of a row, from 0, is out of bounds: above count · (t / 2), or not 0 where t isn't allowed
unfoldable pub over : Head → List ℕ → ℕ → Bool
over head row j = ltb (limit_of head (j + 1)) (get_or row j 0)

abbrev pub some_over : Head → List ℕ → Bool
some_over head row = some_below (over head row) (tmax head.members)

unfoldable pub row_checks : List ℕ → Head → ℕ → ℕ → List (Check Numbered)
row_checks s head left r =
    disagrees (start_wrong s head.members left r) (row_place head.members r)
    ∷ check 6 (some_over head (row_at s head.members r)) (row_place head.members r)
    ∷ []

-- ---- kind 18: the number of rows, and that none is missing; then nothing, at the first byte there is

abbrev pub rows_wrong : List ℕ → Head → ℕ → ℕ → Bool
rows_wrong s head left r = not (eqb left 0) || not (eqb (le16 s (body_at (row_place head.members r))) (rows_of head))

unfoldable pub end_checks : List ℕ → Head → ℕ → ℕ → List (Check Numbered)
end_checks s head left r =
    disagrees (rows_wrong s head left r) (row_place head.members r) ∷ tail s (body_at (row_place head.members r) + end_length) ∷ []

-- ---- record after record

-- the record that stands where row r goes, so many rows being left
unfoldable pub record_checks : List ℕ → Head → ℕ → ℕ → List (Check Numbered)
record_checks s head left r =
    let T = head.members in
    let at = row_place T r in
    frame_checks s at (allowed_after r (kind_at s at)) (fits T (kind_at s at) (length_at s at))
    ++ cond (eqb (kind_at s at) end_kind) (end_checks s head left r) (row_checks s head left r)

-- all of them from there on; where no row is left a row is refused, and where one is left an end
unfoldable pub rows_checks : List ℕ → Head → ℕ → ℕ → List (Check Numbered)
rows_checks s head zero r = record_checks s head 0 r
rows_checks s head (suc left) r = record_checks s head (suc left) r ++ rows_checks s head left (suc r)

unfoldable pub file_checks : List ℕ → List (Check Numbered)
file_checks s = opening_checks s ++ rows_checks s (head_in s) (rows_of (head_in s)) 0

-- ---- what is read

-- the cells of so many rows, from row r on
unfoldable pub cells_from : List ℕ → ℕ → ℕ → ℕ → List ℕ
cells_from s T zero r = []
cells_from s T (suc left) r = row_at s T r ++ cells_from s T left (suc r)

unfoldable pub cells_in : List ℕ → List ℕ
cells_in s = cells_from s (head_in s).members (rows_of (head_in s)) 0

-- THE TABLE that a file holds, or the refusal of the first record at fault
unfoldable pub table_file : List ℕ → Told Held
table_file s = decided (file_checks s) (held_in (head_in s) (cells_in s))
