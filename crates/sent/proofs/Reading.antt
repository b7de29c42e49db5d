-- Written, then read. Where a record as it is written stands at its place, and what it holds is in order, its checks pass and what it was written
-- from is read there; so, row by row, every check of the file passes, and the cells are read back. Assumes nothing.
use mathlib.Core.Path.{◌≡◌, refl, sym, ap, ◌∙◌}
use mathlib.Core.Bool.{Bool, true, false}
use mathlib.Core.List.{List, [], ◌∷◌, ◌++◌, append_assoc, append-nil}
use mathlib.Core.Option.{Option, none}
use Prim.Native.Nat.{ℕ, zero, suc, ◌+◌, ◌*◌, ◌<◌, ◌≤◌}
use native.Mathlib.Omega.{arith}
use borrow.Author.Tests.{le-ltb, lt-ltb, eq-eqb, ne_eqb}
use lib.Dec.{ltb, eqb}
use lib.ListN.{length, get_or, take, drop, length-drop}
use lib.Seq.{length-take-le, get_or-take, get_or-drop, take-add}
use Rattle.lists.specs.Checks.{first}
use Rattle.lists.proofs.Checks.{first-passed}
use Rattle.lists.proofs.Search.{none_passes}
use Rattle.paper.specs.Layer as paper
use Rattle.paper.specs.Layer.{tmax}
use Rattle.paper.specs.Table.{cells}
use Rattle.paper.specs.Limits.{most_columns}
use Rattle.paper.proofs.Thicknesses.{tmax-le}
use Rattle.plate.specs.Refusal.{done, Numbered, told_by}
use Rattle.plate.specs.Head.{held_in, is_over, cells_of, limit_of, head_checks, over_check}
use Rattle.plate.specs.declared.head.Head.{Head}
use Rattle.plate.proofs.Heads.{few-not-over}
use Rattle.column.proofs.Fine.{settings-fine}
use Rattle.record.specs.Bytes.{le16, quads}
use Rattle.record.specs.Frame.{length_at, kind_at, body_at}
use Rattle.record.specs.Faults.{frame_checks}
use Rattle.record.specs.Written.{bytes16, bytes32, quad_bytes_of}
use Rattle.record.proofs.Frames.{frame-passes}
use Rattle.record.proofs.Spelled.{length-quad_bytes_of, behind, read16, read32, read_quads, Stands, read_frame}
use Rattle.table.specs.Table.{Bounded}
use Rattle.table.proofs.Limits.{limit-le}
use Rattle.sent.specs.Kinds.{head_kind, row_kind, end_kind, head_length, row_length, end_length, allowed_after, fits}
use Rattle.sent.specs.Start.{row_start, twos16}
use Rattle.sent.specs.Written.{rows_of, head_record, row_record, end_record, row_records, table_bytes}
use Rattle.sent.specs.File.{head_in, opening_checks, row_place, row_at, over, some_over, row_checks, end_checks, record_checks, rows_checks, file_checks, cells_from, cells_in, table_file}
use Rattle.sent.proofs.Starts.{twos_small}
use Rattle.sent.proofs.Rows.{few-rows, place-first, place-next, InRows, rows-bounded}

-- ---- one record

-- no cell of a row is out of bounds
none_over : (head : Head) (row : List ℕ) → ((j : ℕ) → j < tmax head.members → get_or row j 0 ≤ limit_of head (j + 1)) → some_over head row ≡ false
unfolding over
none_over head row b = none_passes (over head row) (tmax head.members) (λ j l. le-ltb (limit_of head (j + 1)) (get_or row j 0) (b j l))

-- the frame of a record that stands there, as long as it should be
frame-fine : {s : List ℕ} {at kind : ℕ} {body rest : List ℕ} → Stands s at kind body rest → (allowed : Bool) (long : ℕ) → allowed ≡ true → length body ≡ long
    → first (frame_checks s at allowed (eqb (length_at s at) long)) ≡ none
frame-fine {s} {at} f allowed long a l =
    frame-passes s at allowed (eqb (length_at s at) long) (record { allows = a; fits = eq-eqb (length_at s at) long (f.long ∙ l); within = omega (arith, f.long, f.room) })

module _ (s rest : List ℕ) where
  read_head : (head : Head) → paper.Settings head.height head.members → head.columns ≤ most_columns → s ≡ head_record head ++ rest
      → (first (opening_checks s) ≡ none) × (head_in s ≡ head) × (drop 14 s ≡ rest)
  unfolding head_record opening_checks head_in bytes32 bytes16
  read_head head p few e =
      let N = head.height in
      let T = head.members in
      let c = head.columns in
      let body = bytes16 N ++ (bytes32 T ++ bytes32 c) in
      let f = read_frame s 0 head_kind body rest (omega arith) (omega arith) e in
      let w = read16 s 4 N (bytes32 T ++ (bytes32 c ++ rest)) f.body_is in
      let x : le16 s 4 ≡ N = omega (arith, p.greatest-height) in
      let y = read32 s 6 T (bytes32 c ++ rest) p.bits (behind s 4 (bytes16 N) (bytes32 T ++ (bytes32 c ++ rest)) f.body_is) in
      let z = read32 s 10 c rest (omega arith) (behind s 4 (bytes16 N ++ bytes32 T) (bytes32 c ++ rest) f.body_is) in
      let q : head_in s ≡ head = (λ i. record { height = x i; members = y i; columns = z i }) in
      let allowed = eqb (kind_at s 0) head_kind in
      let frame = frame-fine f allowed head_length (eq-eqb (kind_at s 0) head_kind f.kind-is) refl in
      let fine : first (head_checks head ++ (over_check head ∷ [])) ≡ none = first-passed (head_checks head) (over_check head ∷ []) (settings-fine N T p) ∙ simp (few-not-over head few) in (
        first-passed (frame_checks s 0 allowed (eqb (length_at s 0) head_length)) (head_checks (head_in s) ++ (over_check (head_in s) ∷ [])) frame
            ∙ ap (λ (h : Head). first (head_checks h ++ (over_check h ∷ []))) q ∙ fine,
        q,
        behind s 4 body rest f.body_is,
      )

  module _ (head : Head) where
    read-row : (left r : ℕ) (row : List ℕ) → is_over head ≡ false → length row ≡ tmax head.members
        → ((j : ℕ) → j < tmax head.members → get_or row j 0 ≤ limit_of head (j + 1)) → drop (row_place head.members r) s ≡ row_record head.members r row ++ rest
        → (first (record_checks s head (suc left) r) ≡ none) × (row_at s head.members r ≡ row) × (drop (row_place head.members (suc r)) s ≡ rest)
    unfolding row_record record_checks row_checks allowed_after fits row_length bytes16
    read-row left r row few n b e =
        let T = head.members in
        let at = row_place T r in
        let start = twos16 (row_start T r) in
        let body = bytes16 start ++ quad_bytes_of row in
        let w = tmax-le T in
        let l = length-quad_bytes_of row in
        let k : length body ≡ 2 + 4 * tmax T = omega arith in
        let f = read_frame s at row_kind body rest (omega arith) (omega arith) e in
        let d = read16 s (body_at at) start (quad_bytes_of row ++ rest) f.body_is in
        let x : le16 s (body_at at) ≡ start = omega (arith, twos_small (row_start T r)) in
        let small : (j : ℕ) → j < length row → get_or row j 0 < 4_294_967_296 = (λ j i. omega (arith, b j (omega arith), limit-le head (j + 1) few (omega arith))) in
        let stand = behind s (body_at at) (bytes16 start) (quad_bytes_of row ++ rest) f.body_is in
        let y : row_at s T r ≡ row = ap (λ (m : ℕ). quads s (body_at at + 2) m) (sym n) ∙ read_quads s (body_at at + 2) row rest small stand in
        let allowed = eqb (kind_at s at) row_kind in
        let frame = frame-fine f allowed (2 + 4 * tmax T) (eq-eqb (kind_at s at) row_kind f.kind-is) k in (
          rw (ne_eqb (kind_at s at) end_kind (λ o. omega (arith, f.kind-is)))
              (first-passed (frame_checks s at allowed (eqb (length_at s at) (2 + 4 * tmax T))) (row_checks s head (suc left) r) frame
              ∙ rw y (simp (ne_eqb (suc left) 0 (λ o. omega arith), eq-eqb (le16 s (body_at at)) start x, none_over head row b))),
          y,
          rw (k, place-next T r) at (behind s (body_at at) body rest f.body_is),
        )

    read-end : (r : ℕ) → 0 < r → rows_of head < 65_536 → drop (row_place head.members r) s ≡ end_record (rows_of head) ++ [] → first (record_checks s head 0 r) ≡ none
    unfolding end_record record_checks end_checks allowed_after fits bytes16
    read-end r some small e =
        let T = head.members in
        let at = row_place T r in
        let n = rows_of head in
        let f = read_frame s at end_kind (bytes16 n) [] (omega arith) (omega arith) e in
        let d = read16 s (body_at at) n [] f.body_is in
        let x : le16 s (body_at at) ≡ n = omega arith in
        let frame = frame-fine f (ltb 0 r) end_length (lt-ltb 0 r some) refl in
        rw (eq-eqb (kind_at s at) end_kind f.kind-is)
        (first-passed (frame_checks s at (ltb 0 r) (eqb (length_at s at) end_length)) (end_checks s head 0 r) frame
        ∙ simp (eq-eqb (le16 s (body_at at)) n x, le-ltb (body_at at + end_length) (length s) (omega (arith, f.room))))

-- ---- row by row

module _ (s : List ℕ) (head : Head) (few : is_over head ≡ false) (small : rows_of head < 65_536) where
  rows_back : (left r : ℕ) (cells : List ℕ) → 0 < r + left → left * tmax head.members ≤ length cells → InRows head left cells
      → drop (row_place head.members r) s ≡ row_records head.members left r cells ++ end_record (rows_of head)
      → (first (rows_checks s head left r) ≡ none) × (cells_from s head.members left r ≡ take (left * tmax head.members) cells)
  unfolding row_records rows_checks cells_from
  rows_back zero r cells some long b e = (
    read-end s [] head r (omega arith) small (e ∙ sym (append-nil (end_record (rows_of head)))),
    ap (λ (n : ℕ). take n cells) (let z : 0 ≡ 0 * tmax head.members = omega arith in z),
  )
  rows_back (suc left) r cells some long b e =
      let T = head.members in
      let w = tmax T in
      let row = take w cells in
      let more = drop w cells in
      let end = end_record (rows_of head) in
      let here : (j : ℕ) → j < w → get_or row j 0 ≤ limit_of head (j + 1) = (λ j l.
      let z : 0 * w + j ≡ j = omega arith in
      rw (get_or-take w cells j 0 l) (rw z at (b 0 j (omega arith) l))) in
      let later : InRows head left more = (λ k j l m.
      let z : suc k * w + j ≡ w + (k * w + j) = omega arith in
      rw (get_or-drop w cells (k * w + j) 0) (rw z at (b (suc k) j (omega arith) m))) in
      let q = read-row s (row_records T left (suc r) more ++ end) head left r row few (length-take-le w cells (omega arith)) here
      (e ∙ append_assoc (row_record T r row) (row_records T left (suc r) more) end) in
      let k = rows_back left (suc r) more (omega arith) (omega (arith, length-drop w cells)) later q.2 in
      let z : w + left * w ≡ suc left * w = omega arith in (
        first-passed (record_checks s head (suc left) r) (rows_checks s head left (suc r)) q.0 ∙ k.0,
        (λ i. q.1 i ++ k.1 i) ∙ sym (take-add w (left * w) cells) ∙ ap (λ (n : ℕ). take n cells) z,
      )

-- READ AFTER WRITE
pub read_back : (head : Head) (cells : List ℕ) → paper.Settings head.height head.members → Bounded (held_in head cells)
    → table_file (table_bytes head cells) ≡ done (held_in head (take (cells_of head) cells))
unfolding table_file file_checks cells_in table_bytes cells
read_back head cells p b =
    let rest = row_records head.members (rows_of head) 0 cells ++ end_record (rows_of head) in
    let s = head_record head ++ rest in
    let q = read_head s rest head p b.columns refl in
    let n = few-rows head.height head.members p in
    let stand = ap (λ (at : ℕ). drop at s) (place-first head.members) ∙ q.2 in
    let k = rows_back s head (few-not-over head b.columns) (omega arith) (rows_of head) 0 cells (omega arith) b.size (rows-bounded head cells b) stand in
    let passed = first-passed (opening_checks s) (rows_checks s (head_in s) (rows_of (head_in s)) 0) q.0 ∙ ap (λ (h : Head). first (rows_checks s h (rows_of h) 0)) q.1 ∙ k.0 in
    ap (λ (o : Option Numbered). told_by o (held_in (head_in s) (cells_in s))) passed
    ∙ ap (λ (h : Head). done (held_in h (cells_from s h.members (rows_of h) 0))) q.1
    ∙ ap (λ (l : List ℕ). done (held_in head l)) k.1
