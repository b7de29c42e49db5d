-- Read, then written. A record whose checks pass has the very bytes that are written of what is read in it; so, row by row, an accepted file is
-- what is written of the table that is read, and that is of settings within limits, whole and in bounds. Assumes nothing.
use mathlib.Core.Path.{◌≡◌, refl, sym, ap, subst, ◌∙◌}
use mathlib.Core.Bool.{Bool, true, false, not, cond}
use mathlib.Core.List.{List, [], ◌∷◌, ◌++◌, append_assoc, append-nil}
use mathlib.Core.Option.{none}
use Prim.Native.Nat.{ℕ, zero, suc, ◌+◌, ◌*◌, ◌<◌, ◌≤◌}
use native.Mathlib.Nat.{add-zero}
use native.Mathlib.Omega.{arith}
use borrow.Author.Tests.{ltb-false, eqb-true, not-false}
use lib.Dec.{ltb, eqb}
use lib.ListN.{length, get_or, drop, drop_of_length-le}
use lib.Seq.{take_at, drop_at}
use Rattle.lists.specs.Checks.{Check, first}
use Rattle.lists.proofs.Checks.{or-false, first-none, first-later, first-earlier}
use Rattle.lists.proofs.Search.{none_passed}
use Rattle.paper.specs.Layer.{tmax}
use Rattle.paper.specs.Table.{cells}
use Rattle.plate.specs.Refusal.{done, Numbered}
use Rattle.plate.specs.Head.{Held, held_in, is_over, limit_of, head_checks, over_check}
use Rattle.plate.specs.declared.head.Head.{Head}
use Rattle.plate.proofs.Decided.{told-done}
use Rattle.plate.proofs.Heads.{not-over}
use Rattle.column.proofs.Fine.{settings-passed}
use Rattle.record.specs.Bytes.{Bytes, le16, le32}
use Rattle.record.specs.Frame.{length_at, kind_at, body_at, past_at}
use Rattle.record.specs.Faults.{frame_checks}
use Rattle.record.specs.Written.{bytes16, bytes32, quad_bytes_of}
use Rattle.record.proofs.Bytes.{length-quads, quad-small, quad_at}
use Rattle.record.proofs.Frames.{frame-passed}
use Rattle.record.proofs.Spelled.{joined, write16, write32, write_quads, write_frame}
use Rattle.sent.specs.Kinds.{head_kind, row_kind, end_kind, head_length, row_length, end_length, allowed_after, fits}
use Rattle.sent.specs.Start.{row_start, twos16}
use Rattle.sent.specs.Written.{rows_of, head_record, row_record, end_record, row_records, table_bytes, file_of, Sendable}
use Rattle.sent.specs.File.{head_in, opening_checks, row_place, row_at, over, row_checks, end_checks, record_checks, rows_checks, file_checks, cells_from, cells_in, table_file}
use Rattle.sent.proofs.Laid.{length-cells}
use Rattle.sent.proofs.Rows.{place-first, place-next, InRows, bounded-rows, cell-place}

module _ (s : List ℕ) (byte : Bytes s) where
  -- ---- one record

  -- its frame passes, and what is asked of its body
  record Whole (at : ℕ) (allowed : Bool) (long : ℕ) (body : List (Check Numbered)) : Type 0 where
    allows : allowed ≡ true
    length-is : length_at s at ≡ long
    within : past_at s at ≤ length s
    fine : first body ≡ none

  whole : (at : ℕ) (allowed : Bool) (long : ℕ) (body : List (Check Numbered)) → first (frame_checks s at allowed (eqb (length_at s at) long) ++ body) ≡ none → Whole at allowed long body
  whole at allowed long body e =
      let right = eqb (length_at s at) long in
      let frame = frame_checks s at allowed right in
      let f = frame-passed s at allowed right (first-earlier frame body e) in
      record { allows = f.allows; length-is = eqb-true (length_at s at) long f.fits; within = f.within; fine = first-later frame body e }

  head-spelt : first (opening_checks s) ≡ none → (s ≡ head_record (head_in s) ++ drop 14 s) × (first (head_checks (head_in s)) ≡ none) × (is_over (head_in s) ≡ false)
  unfolding opening_checks head_in head_record
  head-spelt e =
      let head = head_in s in
      let allowed = eqb (kind_at s 0) head_kind in
      let f = whole 0 allowed head_length (head_checks head ++ (over_check head ∷ [])) e in
      let past : 14 ≡ past_at s 0 = omega (arith, f.length-is) in
      let b = write16 s byte 4 (omega (arith, f.within)) in
      let c = write32 s byte 6 (omega (arith, f.within)) in
      let d = write32 s byte 10 (omega (arith, f.within)) ∙ ap (λ (n : ℕ). bytes32 head.columns ++ drop n s) past in (
        write_frame s byte 0 head_kind (bytes16 head.height ++ (bytes32 head.members ++ bytes32 head.columns)) f.within (eqb-true (kind_at s 0) head_kind f.allows)
            (joined s (bytes16 head.height) (bytes32 head.members ++ bytes32 head.columns) 4 6 (past_at s 0) b
            (joined s (bytes32 head.members) (bytes32 head.columns) 6 10 (past_at s 0) c d))
            ∙ ap (λ (n : ℕ). head_record head ++ drop n s) (sym past),
        first-earlier (head_checks head) (over_check head ∷ []) f.fine,
        ((first-none (over_check head ∷ [])).0 (first-later (head_checks head) (over_check head ∷ []) f.fine)).0,
      )

  module _ (head : Head) where
    -- what is asked of the record where row r goes, by whether it is the end
    abbrev asked : Bool → ℕ → ℕ → List (Check Numbered)
    asked end left r =
        let at = row_place head.members r in
        frame_checks s at (cond end (ltb 0 r) (eqb (kind_at s at) row_kind)) (cond end (eqb (length_at s at) end_length) (eqb (length_at s at) (row_length head.members)))
        ++ cond end (end_checks s head left r) (row_checks s head left r)

    -- where a row is left, an end does not pass
    is_row : (left r : ℕ) → first (record_checks s head (suc left) r) ≡ none → first (asked false (suc left) r) ≡ none
    unfolding record_checks allowed_after fits end_checks
    is_row left r e = go (eqb (kind_at s (row_place head.members r)) end_kind) e
      where
        go : (end : Bool) → first (asked end (suc left) r) ≡ none → first (asked false (suc left) r) ≡ none
        go true e =
            let at = row_place head.members r in
            let p = (first-none (end_checks s head (suc left) r)).0 (whole at (ltb 0 r) end_length (end_checks s head (suc left) r) e).fine in
            let o = or-false (not (eqb (suc left) 0)) (not (eqb (le16 s (body_at at)) (rows_of head))) p.0 in
            let z = eqb-true (suc left) 0 (not-false (eqb (suc left) 0) o.0) in
            absurd (omega arith)
        go false e = e

    -- and where none is left, a row does not
    is-end : (r : ℕ) → first (record_checks s head 0 r) ≡ none → (kind_at s (row_place head.members r) ≡ end_kind) × (first (asked true 0 r) ≡ none)
    unfolding record_checks allowed_after fits row_checks
    is-end r e = go (eqb (kind_at s (row_place head.members r)) end_kind) refl e
      where
        go : (end : Bool) → eqb (kind_at s (row_place head.members r)) end_kind ≡ end → first (asked end 0 r) ≡ none
            → (kind_at s (row_place head.members r) ≡ end_kind) × (first (asked true 0 r) ≡ none)
        go true k e = (eqb-true (kind_at s (row_place head.members r)) end_kind k, e)
        go false k e =
            let at = row_place head.members r in
            let p = (first-none (row_checks s head 0 r)).0 (whole at (eqb (kind_at s at) row_kind) (row_length head.members) (row_checks s head 0 r) e).fine in
            let o : true ≡ false = p.0 in
            absurd (let z : ◌≡◌ {A = ℕ} 0 1 = cc in omega arith)

    -- a row that was read
    pub record Row (r : ℕ) : Type 0 where
      pub bytes : drop (row_place head.members r) s ≡ row_record head.members r (row_at s head.members r) ++ drop (row_place head.members (suc r)) s
      pub start : le16 s (body_at (row_place head.members r)) ≡ twos16 (row_start head.members r)
      pub bounded : (j : ℕ) → j < tmax head.members → le32 s (body_at (row_place head.members r) + 2 + 4 * j) ≤ limit_of head (j + 1)

    row-spelt : (left r : ℕ) → first (record_checks s head (suc left) r) ≡ none → Row r
    unfolding row_checks over row_record row_length
    row-spelt left r e =
        let T = head.members in
        let at = row_place T r in
        let row = row_at s T r in
        let given = le16 s (body_at at) in
        let start = twos16 (row_start T r) in
        let body = row_checks s head (suc left) r in
        let f = whole at (eqb (kind_at s at) row_kind) (row_length T) body (is_row left r e) in
        let l : length_at s at ≡ 2 + 4 * tmax T = f.length-is in
        let p = (first-none body).0 f.fine in
        let z = eqb-true given start (not-false (eqb given start) (or-false (eqb (suc left) 0) (not (eqb given start)) p.0).1) in
        let past : body_at at + 2 + 4 * tmax T ≡ past_at s at = omega arith in
        let next : past_at s at ≡ row_place T (suc r) = ap (λ (n : ℕ). body_at at + n) l ∙ place-next T r in
        let b = rw z at (write16 s byte (body_at at) (omega (arith, f.within))) in
        let c = rw past at (write_quads s byte (tmax T) (body_at at + 2) (omega (arith, f.within))) in
        record {
          bytes = write_frame s byte at row_kind (bytes16 start ++ quad_bytes_of row) f.within (eqb-true (kind_at s at) row_kind f.allows)
              (joined s (bytes16 start) (quad_bytes_of row) (body_at at) (body_at at + 2) (past_at s at) b c)
              ∙ ap (λ (n : ℕ). row_record T r row ++ drop n s) next;
          start = z;
          bounded = λ j m. rw (quad_at s (body_at at + 2) (tmax T) j m) at (ltb-false (limit_of head (j + 1)) (get_or row j 0) (none_passed (over head row) (tmax T) p.1.0 j m));
        }

    end-spelt : (r : ℕ) → first (record_checks s head 0 r) ≡ none → drop (row_place head.members r) s ≡ end_record (rows_of head)
    unfolding end_checks end_record
    end-spelt r e =
        let at = row_place head.members r in
        let n = rows_of head in
        let a = is-end r e in
        let f = whole at (ltb 0 r) end_length (end_checks s head 0 r) a.1 in
        let p = (first-none (end_checks s head 0 r)).0 f.fine in
        let z = eqb-true (le16 s (body_at at)) n (not-false (eqb (le16 s (body_at at)) n) p.0) in
        let past : body_at at + 2 ≡ past_at s at = omega (arith, f.length-is) in
        let v = ltb-false (body_at at + end_length) (length s) p.1.0 in
        let b = rw (z, past) at (write16 s byte (body_at at) (omega (arith, f.within))) in
        write_frame s byte at end_kind (bytes16 n) f.within a.0 b
        ∙ ap (λ (l : List ℕ). end_record n ++ l) (drop_of_length-le s {i = past_at s at} (omega arith))
        ∙ append-nil (end_record n)

    -- ---- row by row

    -- each row that passes, from row r on
    pub each_row : (left r k : ℕ) → k < left → first (rows_checks s head left r) ≡ none → Row (r + k)
    unfolding rows_checks
    each_row zero r k l e = absurd (omega arith)
    each_row (suc left) r zero l e = rw (add-zero r) (row-spelt left r (first-earlier (record_checks s head (suc left) r) (rows_checks s head left (suc r)) e))
    each_row (suc left) r (suc k) l e =
        let z : suc r + k ≡ r + suc k = omega arith in
        subst Row z (each_row left (suc r) k (omega arith) (first-later (record_checks s head (suc left) r) (rows_checks s head left (suc r)) e))

    rows-within : (left r : ℕ) → first (rows_checks s head left r) ≡ none → InRows head left (cells_from s head.members left r)
    rows-within left r e k j l m = rw (cell-place s head.members left r k j l m) ((each_row left r k l e).bounded j m)

    -- what is left of the file is what is written of the rows that are read there
    rows-spelt : (left r : ℕ) → first (rows_checks s head left r) ≡ none
        → drop (row_place head.members r) s ≡ row_records head.members left r (cells_from s head.members left r) ++ end_record (rows_of head)
    unfolding rows_checks row_records cells_from
    rows-spelt zero r e = end-spelt r e
    rows-spelt (suc left) r e =
        let T = head.members in
        let row = row_at s T r in
        let more = cells_from s T left (suc r) in
        let n = length-quads s (body_at (row_place T r) + 2) (tmax T) in
        let q = row-spelt left r (first-earlier (record_checks s head (suc left) r) (rows_checks s head left (suc r)) e) in
        let k = rows-spelt left (suc r) (first-later (record_checks s head (suc left) r) (rows_checks s head left (suc r)) e) in
        rw (take_at row more (tmax T) n, drop_at row more (tmax T) n)
        (q.bytes ∙ ap (λ (l : List ℕ). row_record T r row ++ l) k ∙ sym (append_assoc (row_record T r row) (row_records T left (suc r) more) (end_record (rows_of head))))

  -- ---- the whole file

  module _ (passed : first (file_checks s) ≡ none) where
    head_passed : first (opening_checks s) ≡ none
    unfolding file_checks
    head_passed = first-earlier (opening_checks s) (rows_checks s (head_in s) (rows_of (head_in s)) 0) passed

    pub rows-passed : first (rows_checks s (head_in s) (rows_of (head_in s)) 0) ≡ none
    unfolding file_checks
    rows-passed = first-later (opening_checks s) (rows_checks s (head_in s) (rows_of (head_in s)) 0) passed

    file-spelt : table_bytes (head_in s) (cells_in s) ≡ s
    unfolding table_bytes cells_in
    file-spelt =
        let head = head_in s in
        let rest = ap (λ (at : ℕ). drop at s) (sym (place-first head.members)) ∙ rows-spelt head (rows_of head) 0 rows-passed in
        sym ((head-spelt head_passed).0 ∙ ap (λ (l : List ℕ). head_record head ++ l) rest)

    file-sendable : Sendable (held_in (head_in s) (cells_in s))
    unfolding cells cells_in limit_of head_in
    file-sendable =
        let head = head_in s in
        let q = head-spelt head_passed in
        let fine = settings-passed head.height head.members (quad-small s byte 6) q.1 in
        let long = length-cells s head.members (rows_of head) 0 in
        record {
          settings = fine;
          whole = long;
          bounds = record {
            size = omega arith;
            columns = not-over head q.2;
            bounded = bounded-rows head (rows_of head) (cells_in s) fine.some-thickness (rows-within head (rows_of head) 0 rows-passed);
          };
        }

  module _ (held : Held) (e : table_file s ≡ done held) where
    pub accepted : (first (file_checks s) ≡ none) × (held_in (head_in s) (cells_in s) ≡ held)
    unfolding table_file
    accepted = told-done (first (file_checks s)) (held_in (head_in s) (cells_in s)) held e

    -- WRITE AFTER READ
    pub written_back : file_of held ≡ s
    written_back = ap file_of (sym accepted.1) ∙ file-spelt accepted.0

    -- and what is read can be sent
    pub read-sendable : Sendable held
    read-sendable = subst Sendable accepted.1 (file-sendable accepted.0)
