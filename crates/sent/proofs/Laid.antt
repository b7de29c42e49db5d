-- What is written of a table, laid out: it is bytes, so many of them, and row by row; by induction on the rows, from what is known of each record.
-- A row more can be put at the end as well as in front, for loops that go up; the same of the cells that are read. Assumes nothing.
use mathlib.Core.Path.{◌≡◌, refl, sym, ap, ◌∙◌}
use mathlib.Core.List.{List, ◌++◌, append_assoc, append-nil}
use Prim.Native.Nat.{ℕ, zero, suc, ◌+◌, ◌*◌, ◌≤◌}
use native.Mathlib.Nat.{add-zero}
use native.Mathlib.Omega.{arith}
use lib.ListN.{length, take, drop, length-append, length-drop}
use lib.Seq.{length-take-le, drop-drop}
use Rattle.paper.specs.Layer.{tmax}
use Rattle.paper.specs.Table.{cells}
use Rattle.plate.specs.Head.{cells_of}
use Rattle.plate.specs.declared.head.Head.{Head}
use Rattle.record.specs.Bytes.{Bytes}
use Rattle.record.specs.Frame.{body_at}
use Rattle.record.specs.Written.{bytes16, bytes32, quad_bytes_of}
use Rattle.record.proofs.Bytes.{length-quads}
use Rattle.record.proofs.Spelled.{length-quad_bytes_of, length-framed, bytes-none, bytes-append, bytes-16, bytes-of-quads, bytes-framed, bytes-opening}
use Rattle.sent.specs.Kinds.{head_kind, row_kind, end_kind, row_length}
use Rattle.sent.specs.Start.{row_start, twos16}
use Rattle.sent.specs.Written.{rows_of, head_record, row_record, end_record, row_records, table_bytes, file_size}
use Rattle.sent.specs.File.{row_place, row_at, cells_from}

-- ---- they are bytes

bytes-head : (head : Head) → Bytes (head_record head)
unfolding head_record
bytes-head head = bytes-opening head_kind head.height head.members head.columns

bytes-row : (T r : ℕ) (row : List ℕ) → Bytes (row_record T r row)
unfolding row_record
bytes-row T r row =
    let start = twos16 (row_start T r) in
    bytes-framed row_kind (bytes16 start ++ quad_bytes_of row) (bytes-append (bytes16 start) (quad_bytes_of row) (bytes-16 start) (bytes-of-quads row))

bytes-rows : (T left r : ℕ) (cells : List ℕ) → Bytes (row_records T left r cells)
unfolding row_records
bytes-rows T zero r cells = bytes-none
bytes-rows T (suc left) r cells =
    let row = take (tmax T) cells in
    let more = drop (tmax T) cells in
    bytes-append (row_record T r row) (row_records T left (suc r) more) (bytes-row T r row) (bytes-rows T left (suc r) more)

bytes-end : (n : ℕ) → Bytes (end_record n)
unfolding end_record
bytes-end n = bytes-framed end_kind (bytes16 n) (bytes-16 n)

pub bytes-table : (head : Head) (cells : List ℕ) → Bytes (table_bytes head cells)
unfolding table_bytes
bytes-table head cells =
    let rows = row_records head.members (rows_of head) 0 cells in
    let end = end_record (rows_of head) in
    bytes-append (head_record head) (rows ++ end) (bytes-head head) (bytes-append rows end (bytes-rows head.members (rows_of head) 0 cells) (bytes-end (rows_of head)))

-- ---- how many bytes

pub length-head : (head : Head) → length (head_record head) ≡ 14
unfolding head_record bytes32 bytes16
length-head head = length-framed head_kind (bytes16 head.height ++ (bytes32 head.members ++ bytes32 head.columns))

pub length-row : (T r : ℕ) (row : List ℕ) → length (row_record T r row) ≡ 6 + 4 * length row
unfolding row_record bytes16
length-row T r row = omega (arith, length-framed row_kind (bytes16 (twos16 (row_start T r)) ++ quad_bytes_of row), length-quad_bytes_of row)

pub length-end : (n : ℕ) → length (end_record n) ≡ 6
unfolding end_record bytes16
length-end n = length-framed end_kind (bytes16 n)

pub length-rows : (T left r : ℕ) (cells : List ℕ) → left * tmax T ≤ length cells → length (row_records T left r cells) ≡ left * (6 + 4 * tmax T)
unfolding row_records
length-rows T zero r cells l = omega arith
length-rows T (suc left) r cells l =
    let row = take (tmax T) cells in
    let more = drop (tmax T) cells in
    let n = length-take-le (tmax T) cells (omega arith) in
    let later = length-rows T left (suc r) more (omega (arith, length-drop (tmax T) cells)) in
    omega (arith, length-append (row_record T r row) (row_records T left (suc r) more), length-row T r row)

pub length-table : (head : Head) (cells : List ℕ) → cells_of head ≤ length cells → length (table_bytes head cells) ≡ file_size head
unfolding table_bytes file_size row_length cells
length-table head cells l =
    let rows = row_records head.members (rows_of head) 0 cells in
    let end = end_record (rows_of head) in
    let all = length-rows head.members (rows_of head) 0 cells l in
    let six : 4 + (2 + 4 * tmax head.members) ≡ 6 + 4 * tmax head.members = omega arith in
    rw six (omega (arith, length-append (head_record head) (rows ++ end), length-append rows end, length-head head, length-end (rows_of head)))

-- ---- one more row

-- of those that are written
pub rows_more : (T n r : ℕ) (cells : List ℕ) → row_records T (suc n) r cells ≡ row_records T n r cells ++ row_record T (r + n) (take (tmax T) (drop (n * tmax T) cells))
unfolding row_records
rows_more T zero r cells = let e : 0 * tmax T ≡ 0 = omega arith in rw (e, add-zero) (append-nil (row_record T r (take (tmax T) cells)))
rows_more T (suc n) r cells =
    let w = tmax T in
    let e : w + n * w ≡ suc n * w = omega arith in
    let f : suc r + n ≡ r + suc n = omega arith in
    let row = row_record T r (take w cells) in
    ap (λ (l : List ℕ). row ++ l) (rows_more T n (suc r) (drop w cells) ∙ rw (drop-drop (n * w) w cells, e, f) refl)
    ∙ sym (append_assoc row (row_records T n (suc r) (drop w cells)) (row_record T (r + suc n) (take w (drop (suc n * w) cells))))

-- and of those that are read
pub cells-more : (s : List ℕ) (T n r : ℕ) → cells_from s T (suc n) r ≡ cells_from s T n r ++ row_at s T (r + n)
unfolding cells_from
cells-more s T zero r = rw add-zero (append-nil (row_at s T r))
cells-more s T (suc n) r =
    let f : suc r + n ≡ r + suc n = omega arith in
    ap (λ (l : List ℕ). row_at s T r ++ l) (cells-more s T n (suc r) ∙ rw f refl) ∙ sym (append_assoc (row_at s T r) (cells_from s T n (suc r)) (row_at s T (r + suc n)))

pub length-cells : (s : List ℕ) (T n r : ℕ) → length (cells_from s T n r) ≡ n * tmax T
unfolding cells_from
length-cells s T zero r = omega arith
length-cells s T (suc n) r =
    let first = length-quads s (body_at (row_place T r) + 2) (tmax T) in
    omega (arith, length-append (row_at s T r) (cells_from s T n (suc r)), length-cells s T n (suc r))
