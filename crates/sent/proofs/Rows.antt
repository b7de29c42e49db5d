-- A table by its rows, and the places in them, so that no index is divided elsewhere: it is in bounds exactly if each place of each row is within the
-- limit of its thickness. The cell that is read for a row and a place is the number in four bytes that stands there, by induction on the rows.
-- Assumes nothing.
use mathlib.Core.Path.{◌≡◌, refl, ap, ◌∙◌}
use mathlib.Core.List.{List, ◌++◌}
use Prim.Native.Nat.{ℕ, zero, suc, ◌+◌, ◌*◌, ◌/◌, ◌%◌, ◌≤◌, ◌<◌}
use native.Mathlib.Nat.{add-zero, mod-lt, div-add-mod', div-lt_iff_lt-mul}
use native.Mathlib.Omega.{arith}
use lib.Arith.{digits_lt}
use lib.ListN.{length, get_or, get_or-append}
use lib.Seq.{get_or-append-add}
use Rattle.paper.specs.Layer as paper
use Rattle.paper.specs.Layer.{tmax}
use Rattle.paper.specs.Table.{rows, cells, thickness_at}
use Rattle.paper.proofs.Thicknesses.{tmax-le}
use Rattle.plate.specs.Head.{held_in, limit_of}
use Rattle.plate.specs.declared.head.Head.{Head}
use Rattle.record.specs.Bytes.{le32}
use Rattle.record.specs.Frame.{body_at}
use Rattle.record.proofs.Bytes.{length-quads, quad_at}
use Rattle.table.specs.Table.{Bounded}
use Rattle.table.proofs.Cells.{thickness-row}
use Rattle.sent.specs.Kinds.{row_length}
use Rattle.sent.specs.Written.{rows_of}
use Rattle.sent.specs.File.{row_place, row_at, cells_from}

-- settings within limits have so many rows
pub few-rows : (N T : ℕ) → paper.Settings N T → (1 ≤ rows N T) × (rows N T ≤ 574)
unfolding rows
few-rows N T p = let w = tmax-le T in (omega (arith, p.least-height, p.some-thickness), omega (arith, p.greatest-height))

-- ---- bounds

-- each place of the first n rows is within the limit of its thickness
abbrev pub InRows : Head → ℕ → List ℕ → Type 0
InRows head n cells = (r j : ℕ) → r < n → j < tmax head.members → get_or cells (r * tmax head.members + j) 0 ≤ limit_of head (j + 1)

pub rows-bounded : (head : Head) (cells : List ℕ) → Bounded (held_in head cells) → InRows head (rows_of head) cells
unfolding limit_of cells
rows-bounded head cells b r j l m = let T = head.members in rw (← thickness-row T (tmax T) r j refl m) (b.bounded (r * tmax T + j) (digits_lt l m))

pub bounded-rows : (head : Head) (n : ℕ) (cells : List ℕ) → 1 ≤ tmax head.members → InRows head n cells
    → (i : ℕ) → i < n * tmax head.members → get_or cells i 0 ≤ limit_of head (thickness_at head.members i)
unfolding thickness_at
bounded-rows head n cells some b i l =
    let w = tmax head.members in
    rw (div-add-mod' i w) at (b (i / w) (i % w) ((div-lt_iff_lt-mul {x = i} {y = n} some).1 l) (mod-lt i some))

-- ---- where the cells stand

-- the first row stands behind the head, and each row behind the one before
pub place-first : (T : ℕ) → row_place T 0 ≡ 14
unfolding row_place
place-first T = omega arith

pub place-next : (T r : ℕ) → body_at (row_place T r) + row_length T ≡ row_place T (suc r)
unfolding row_place
place-next T r = omega arith

-- the cell at the place j of row r + k, where the cells are read from row r on
pub cell-place : (s : List ℕ) (T n r k j : ℕ) → k < n → j < tmax T → get_or (cells_from s T n r) (k * tmax T + j) 0 ≡ le32 s (body_at (row_place T (r + k)) + 2 + 4 * j)
unfolding cells_from
cell-place s T zero r k j l m = absurd (omega arith)
cell-place s T (suc n) r zero j l m =
    let row = row_at s T r in
    let z : 0 * tmax T + j ≡ j = omega arith in
    let long = length-quads s (body_at (row_place T r) + 2) (tmax T) in
    rw (z, add-zero r) (get_or-append row (cells_from s T n (suc r)) 0 j (omega arith) ∙ quad_at s (body_at (row_place T r) + 2) (tmax T) j m)
cell-place s T (suc n) r (suc k) j l m =
    let row = row_at s T r in
    let more = cells_from s T n (suc r) in
    let long = length-quads s (body_at (row_place T r) + 2) (tmax T) in
    let z : suc k * tmax T + j ≡ length row + (k * tmax T + j) = omega arith in
    let w : suc r + k ≡ r + suc k = omega arith in
    ap (λ (i : ℕ). get_or (row ++ more) i 0) z
    ∙ get_or-append-add row more (k * tmax T + j) 0
    ∙ cell-place s T n (suc r) k j (omega arith) m
    ∙ ap (λ (i : ℕ). le32 s (body_at (row_place T i) + 2 + 4 * j)) w
