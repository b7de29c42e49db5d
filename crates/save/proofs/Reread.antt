-- Written, then read. Where a record as it is written stands at a place, in a state that allows it and with a body that its checks pass, the
-- reader finds what it was written from and goes on right behind it; so, column by column, the whole file is read back, and no remark is
-- found on the way. Assumes nothing.
use mathlib.Core.Path.{◌≡◌, refl, sym, ap, ◌∙◌}
use mathlib.Core.Bool.{true, false}
use mathlib.Core.List.{List, [], ◌∷◌, ◌++◌, append_assoc, append-nil}
use mathlib.Core.Option.{none}
use Prim.Native.Nat.{ℕ, zero, suc, ◌+◌, ◌-◌, ◌*◌, ◌/◌, ◌%◌, ◌<◌, ◌≤◌}
use native.Mathlib.Omega.{arith}
use borrow.Author.Tests.{le-ltb, eq-eqb}
use lib.ListN.{length, drop, length-drop}
use Rattle.lists.specs.Checks.{first}
use Rattle.paper.specs.Limits.{most_columns, greatest_height, sets, largest_bound}
use Rattle.paper.specs.Layer.{Column, IsColumn}
use Rattle.plate.specs.Refusal.{done}
use Rattle.plate.specs.Settings.{settings_checks}
use Rattle.plate.proofs.Heads.{few-not-full}
use Rattle.column.specs.Order.{column_checks}
use Rattle.column.proofs.Fine as fine
use Rattle.record.specs.Bytes.{le16, words}
use Rattle.record.specs.Frame.{length_at, body_at}
use Rattle.record.specs.Faults.{tail}
use Rattle.record.specs.Written.{bytes16, bytes32, bytes_of}
use Rattle.record.proofs.Frames.{frame-passes}
use Rattle.record.proofs.Spelled.{length-bytes_of, behind, read16, read32, read_words, Stands, read_frame}
use Rattle.job.specs.State.{start_state, begin, counted, finish, asked_of}
use Rattle.job.specs.Kinds.{settings_kind, column_kind, end_kind, kind_of, allowed_here, fits}
use Rattle.job.specs.Record.{asked_at, boundaries_at, body_checks, settings, column, ended, reading_of, Moved, moved, read_record}
use Rattle.job.specs.Fold.{Over, fold_from, fold_of}
use Rattle.job.specs.File.{Job, Asking, job_over, endless, job_from, whole_by, whole_file}
use Rattle.job.specs.Reached.{ColumnsInOrder, Ordered}
use Rattle.job.specs.Written.{settings_record, column_record, end_record, column_records, written}
use Rattle.job.specs.Remarks.{remark_over, remarks_in}
use Rattle.job.specs.declared.Asked.{Asked}
use Rattle.job.specs.declared.State.{State}
use Rattle.job.proofs.Reading.{frame-passed, body-passed}
use Rattle.job.proofs.Bodies.{settings-passed, column-passed, equal}
use Rattle.job.proofs.Says.{says_of}
use Rattle.job.proofs.Folding.{job_ending}

-- ---- one record

module _ (s : List ℕ) (st : State) (at : ℕ) (running : st.ended ≡ false) where
  -- a record that stands there, by its kind
  module _ {number : ℕ} {body rest : List ℕ} (f : Stands s at number body rest) where
    reads : allowed_here st (kind_of number) ≡ true → fits (kind_of number) (length body) ≡ true → first (body_checks s st at (kind_of number)) ≡ none
        → read_record s st at ≡ moved st at (done (reading_of s st at (kind_of number)))
    reads a l c =
        let k = kind_of number in
        let frame = frame-passes s at (allowed_here st k) (fits k (length_at s at)) (record { allows = a; fits = rw f.long l; within = omega (arith, f.long, f.room) }) in
        sym (body-passed s st at k c ∙ frame-passed s st at running k (sym (ap kind_of f.kind-is)) (sym frame))

  module _ (rest : List ℕ) where
    read-settings : (a : Asked) → st.begun ≡ false → a.height ≤ greatest_height → a.members < sets → a.bound ≤ largest_bound
        → first (settings_checks a.height a.members) ≡ none → drop at s ≡ settings_record a ++ rest
        → (read_record s st at ≡ record { told = done (settings a); next = body_at at + 10; state = begin st a }) × (drop (body_at at + 10) s ≡ rest)
    unfolding settings_record bytes32 bytes16
    read-settings a b h t u c e =
        let body = bytes16 a.height ++ (bytes32 a.members ++ bytes32 a.bound) in
        let f = read_frame s at settings_kind body rest (omega arith) (omega arith) e in
        let p = read16 s (body_at at) a.height (bytes32 a.members ++ (bytes32 a.bound ++ rest)) f.body_is in
        let x : le16 s (body_at at) ≡ a.height = omega arith in
        let y = read32 s (body_at at + 2) a.members (bytes32 a.bound ++ rest) t (behind s (body_at at) (bytes16 a.height) (bytes32 a.members ++ (bytes32 a.bound ++ rest)) f.body_is) in
        let z = read32 s (body_at at + 6) a.bound rest (omega arith) (behind s (body_at at) (bytes16 a.height ++ bytes32 a.members) (bytes32 a.bound ++ rest) f.body_is) in
        let q : asked_at s at ≡ a = (λ i. record { height = x i; members = y i; bound = z i }) in (
          reads f (rw b refl) refl (settings-passed s st at (rw (x, y) c)) ∙ (λ i. record { told = done (settings (q i)); next = body_at at + f.long i; state = begin st (q i) }),
          behind s (body_at at) body rest f.body_is,
        )

    read-column : (c : Column) → st.begun ≡ true → st.head.columns < most_columns → st.head.height ≤ greatest_height → IsColumn st.head.height c
        → first (column_checks st.head.height c.boundaries) ≡ none → drop at s ≡ column_record c ++ rest
        → (read_record s st at ≡ record { told = done (column (body_at at) (length c.boundaries)); next = body_at at + 2 * length c.boundaries; state = counted st })
        × (words s (body_at at) (length c.boundaries) ≡ c.boundaries) × (drop (body_at at + 2 * length c.boundaries) s ≡ rest)
    unfolding column_record boundaries_at
    read-column c b n h k o e =
        let bs = c.boundaries in
        let l = length-bytes_of bs in
        let f = read_frame s at column_kind (bytes_of bs) rest (omega arith) (omega (arith, k.few)) e in
        let w = read_words s (body_at at) bs rest (λ i j. omega (arith, k.within i j)) f.body_is in
        let z : length_at s at / 2 ≡ length bs = omega (arith, f.long) in
        let v : boundaries_at s at ≡ bs = rw z w in (
          reads f b (eq-eqb (length (bytes_of bs) % 2) 0 (omega arith)) (column-passed s st at (few-not-full st.head n) (rw v o))
              ∙ (λ i. record { told = done (column (body_at at) (z i)); next = body_at at + (f.long ∙ l) i; state = counted st }),
          w,
          rw l at (behind s (body_at at) (bytes_of bs) rest f.body_is),
        )

    read-end : st.begun ≡ true → st.head.columns ≤ most_columns → drop at s ≡ end_record st.head.columns ++ rest
        → (read_record s st at ≡ record { told = done (ended st.head.columns); next = body_at at + 4; state = finish st }) × (drop (body_at at + 4) s ≡ rest)
    unfolding end_record bytes32 bytes16
    read-end b n e =
        let columns = st.head.columns in
        let f = read_frame s at end_kind (bytes32 columns) rest (omega arith) (omega arith) e in
        let v = read32 s (body_at at) columns rest (omega arith) f.body_is in (
          reads f b refl (equal s st at v) ∙ (λ i. record { told = done (ended (v i)); next = body_at at + f.long i; state = finish st }),
          behind s (body_at at) (bytes32 columns) rest f.body_is,
        )

-- ---- the whole file

module _ (asking : Asking) where
  module _ (s : List ℕ) where
    -- one record of a fold
    step : {A : Type 0} (over : Over A) (unread : A) (n : ℕ) (st : State) (at : ℕ) (m : Moved) → read_record s st at ≡ m
        → fold_from over unread (suc n) s st at ≡ over s at m (fold_from over unread n s)
    unfolding fold_from
    step over unread n st at m e = ap (λ (x : Moved). over s at x (fold_from over unread n s)) e

    -- settings were read, and no end
    record Midway (st : State) : Type 0 where
      begun : st.begun ≡ true
      running : st.ended ≡ false
      low : st.head.height ≤ greatest_height

    -- these columns are read from here on, no remark, and nothing is left
    record Back (n : ℕ) (st : State) (at : ℕ) (columns : List Column) : Type 0 where
      past : ℕ
      job : fold_from (job_over asking) endless n s st at ≡ done (job_ending (asked_of st) columns past)
      unremarked : fold_from remark_over 0 n s st at ≡ 0
      nothing-past : first (tail s past ∷ []) ≡ none

    nothing_left : (at : ℕ) → drop at s ≡ [] → first (tail s at ∷ []) ≡ none
    nothing_left at e = let w = sym (length-drop at s) ∙ ap (λ (x : List ℕ). length x) e in simp (le-ltb at (length s) (omega arith))

    columns-back : (n : ℕ) (columns : List Column) (st : State) (at : ℕ) → length s - at < n → Midway st → ColumnsInOrder st.head.height columns
        → st.head.columns + length columns ≤ most_columns → drop at s ≡ column_records columns ++ end_record (st.head.columns + length columns) → Back n st at columns
    unfolding column_records
    columns-back zero columns st at l k o f e = absurd (omega arith)
    columns-back (suc n) [] st at l k o f e =
        let z : st.head.columns + 0 ≡ st.head.columns = omega arith in
        let r = read-end s st at k.running [] k.begun (omega arith) (e ∙ ap end_record z ∙ sym (append-nil (end_record st.head.columns))) in
        let m : Moved = record { told = done (ended st.head.columns); next = body_at at + 4; state = finish st } in
        record {
          past = body_at at + 4;
          job = step (job_over asking) endless n st at m r.0;
          unremarked = step remark_over 0 n st at m r.0;
          nothing-past = nothing_left (body_at at + 4) r.1;
        }
    columns-back (suc n) (c ∷ columns) st at l k o f e =
        let end = end_record (st.head.columns + suc (length columns)) in
        let r = read-column s st at k.running (column_records columns ++ end) c k.begun (omega arith) k.low (fine.column-passed st.head.height c.boundaries o.0) o.0
        (e ∙ append_assoc (column_record c) (column_records columns) end) in
        let next = body_at at + 2 * length c.boundaries in
        let m : Moved = record { told = done (column (body_at at) (length c.boundaries)); next = next; state = counted st } in
        let ahead = (says_of s st at m (sym r.0)).ahead in
        let z : st.head.columns + suc (length columns) ≡ st.head.columns + 1 + length columns = omega arith in
        let b = columns-back n columns (counted st) next (omega (arith, ahead.on, ahead.within)) (record { begun = k.begun; running = k.running; low = k.low }) o.1 (omega arith) (rw z at r.2) in
        record {
          past = b.past;
          job = step (job_over asking) endless n st at m r.0 ∙ rw (r.1, b.job);
          unremarked = step remark_over 0 n st at m r.0 ∙ b.unremarked;
          nothing-past = b.nothing-past;
        }

  -- READ AFTER WRITE
  pub read_back : (job : Job) → Ordered asking job → first (asking 0 job.asked) ≡ none → (whole_file asking (written job) ≡ done job) × (remarks_in (written job) ≡ 0)
  unfolding written whole_file job_from remarks_in fold_of
  read_back job o unasked =
      let a = job.asked in
      let columns = job.columns in
      let rest = column_records columns ++ end_record (length columns) in
      let s = settings_record a ++ rest in
      let low = (fine.settings-passed a.height a.members o.bits o.fine).greatest-height in
      let r = read-settings s start_state 0 refl rest a refl low o.bits o.low-bound o.fine refl in
      let m : Moved = record { told = done (settings a); next = 14; state = begin start_state a } in
      let ahead = (says_of s start_state 0 m (sym r.0)).ahead in
      let z : length columns ≡ 0 + length columns = omega arith in
      let b = columns-back s (length s) columns (begin start_state a) 14 (omega (arith, ahead.within)) (record { begun = refl; running = refl; low = low }) o.order (omega (arith, o.few))
      (r.1 ∙ ap (λ (k : ℕ). column_records columns ++ end_record k) z) in
      let f : job_from asking s ≡ done (job_ending a columns b.past) = step s (job_over asking) endless (length s) start_state 0 m r.0 ∙ rw unasked b.job in (
        ap (whole_by s) f ∙ rw b.nothing-past refl,
        step s remark_over 0 (length s) start_state 0 m r.0 ∙ b.unremarked,
      )
