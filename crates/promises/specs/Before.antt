-- The readers as they were before document 02 f): every fault of a file is 16, the order and the places are those of documents 01, 02 c) and 02 e). What f)
-- did not touch, the tests and what is read, stands where it stood; each fault of a file is written out here once more, with its old number. And what
-- the new answers are with 19, 20 and 21 read as 16. Assumes nothing.
use Rattle.std.specs.Prelude.{ℕ, zero, suc, ◌+◌, ◌≡◌, Bool, not, cond, ◌&&◌, ◌||◌, List, [], ◌∷◌, ◌++◌, ltb, eqb, length}
use Rattle.lists.specs.Checks.{Check}
use Rattle.plate.specs.Head.{Held, held_in, head_checks, over_check}
use Rattle.plate.specs.Refusal.{Told, done, refused, Numbered, check, decided}
use Rattle.plate.specs.Call.{answer_of}
use Rattle.plate.specs.declared.head.Head.{Head}
use Rattle.table.specs.Table.{short}
use Rattle.record.specs.Bytes.{le16, le32}
use Rattle.record.specs.Frame.{left, length_at, kind_at, body_at}
use Rattle.job.specs.State.{start_state}
use Rattle.job.specs.Kinds as job
use Rattle.job.specs.Kinds.{allowed_here}
use Rattle.job.specs.Record.{Moved, moved, reading_at, columns_at, body_checks, record_kind, read_record}
use Rattle.job.specs.File.{Job, Finished, Asking, job_over, endless}
use Rattle.job.specs.declared.Kind.{Kind}
use Rattle.job.specs.declared.Kind.TheVariants as kind
use Rattle.job.specs.declared.State.{State}
use Rattle.load.specs.Load.{too_large, job_of, load_answer}
use Rattle.sent.specs.Kinds as sent
use Rattle.sent.specs.Kinds.{head_kind, end_kind, head_length, end_length}
use Rattle.sent.specs.Written.{rows_of}
use Rattle.sent.specs.File.{head_in, row_place, row_at, start_wrong, some_over, rows_wrong, cells_in, table_file}
use Rattle.receive.specs.Receiving.{read_answer}
use Rattle.printed.specs.Possible.{cure_of}
use Rattle.printed.specs.Tests.{may_finish}
use Rattle.orders.specs.Layer.{cure_bits}
use Rattle.orders.specs.Kinds as order
use Rattle.orders.specs.Kinds.{cure_kind, float_length, finish_length}
use Rattle.orders.specs.Lent.{lent_checks}
use Rattle.orders.specs.File.{lift_place, cure_place, no_layers, grown, thickness_at, may_follow, finishes}
use Rattle.orders.specs.Reading.{order_in, reading_order}
use Rattle.orders.specs.declared.Order.{Order}
use Rattle.orders.specs.declared.Stack.{Stack}

-- ---- 19, 20 and 21 read as 16

abbrev pub as_sixteen : ℕ → ℕ
as_sixteen number = cond (eqb number 19 || (eqb number 20 || eqb number 21)) 16 number

abbrev pub collapse : {X : Type 0} → Told X → Told X
collapse (done x) = done x
collapse (refused number place) = refused (as_sixteen number) place

-- ---- a record: 'fewer than 4 bytes left; kind not allowed here; wrong length for the kind; body past the input (all 16)'

abbrev pub malformed : Bool → ℕ → Check Numbered
malformed when place = check 16 when place

unfoldable pub old_frame : List ℕ → ℕ → Bool → Bool → List (Check Numbered)
old_frame s at allowed right =
    malformed (ltb (left s at) 4) at
    ∷ malformed (not allowed) at
    ∷ malformed (not right) at
    ∷ malformed (ltb (left s (body_at at)) (length_at s at)) at
    ∷ []

-- bytes after the end
abbrev pub old_tail : List ℕ → ℕ → List (Check Numbered)
old_tail s end = malformed (ltb end (length s)) end ∷ []

-- ---- a job file

-- 'end count unequal (16)'
abbrev pub old_body : List ℕ → State → ℕ → Kind → List (Check Numbered)
old_body s st at kind.Settings = body_checks s st at kind.Settings
old_body s st at kind.Column = body_checks s st at kind.Column
old_body s st at kind.End = malformed (not (eqb (columns_at s at) st.head.columns)) at ∷ []
old_body s st at kind.Remark = []
old_body s st at kind.Refused = []

unfoldable pub old_record : List ℕ → State → ℕ → List (Check Numbered)
old_record s st at =
    let k = record_kind s at in cond st.ended (old_tail s at) (old_frame s at (allowed_here st k) (job.fits k (length_at s at)) ++ old_body s st at k)

unfoldable pub old_read : List ℕ → State → ℕ → Moved
old_read s st at = moved st at (decided (old_record s st at) (reading_at s st at))

unfoldable pub old_from : Asking → ℕ → List ℕ → State → ℕ → Told Finished
old_from asking zero s st at = endless
old_from asking (suc n) s st at = job_over asking s at (old_read s st at) (old_from asking n s)

abbrev pub old_whole_by : List ℕ → Told Finished → Told Job
old_whole_by s (done f) = decided (old_tail s f.past) f.job
old_whole_by s (refused number place) = refused number place

unfoldable pub old_job : ℕ → List ℕ → Told Job
old_job most s = old_whole_by s (old_from (too_large most) (suc (length s)) s start_state 0)

-- ---- a table file

unfoldable pub old_opening : List ℕ → List (Check Numbered)
old_opening s = old_frame s 0 (eqb (kind_at s 0) head_kind) (eqb (length_at s 0) head_length) ++ (head_checks (head_in s) ++ (over_check (head_in s) ∷ []))

unfoldable pub old_row : List ℕ → Head → ℕ → ℕ → List (Check Numbered)
old_row s head left r =
    malformed (start_wrong s head.members left r) (row_place head.members r)
    ∷ check 6 (some_over head (row_at s head.members r)) (row_place head.members r)
    ∷ []

unfoldable pub old_end : List ℕ → Head → ℕ → ℕ → List (Check Numbered)
old_end s head left r =
    malformed (rows_wrong s head left r) (row_place head.members r) ∷ old_tail s (body_at (row_place head.members r) + end_length)

unfoldable pub old_behind : List ℕ → Head → ℕ → ℕ → List (Check Numbered)
old_behind s head left r =
    let T = head.members in
    let at = row_place T r in
    old_frame s at (sent.allowed_after r (kind_at s at)) (sent.fits T (kind_at s at) (length_at s at))
    ++ cond (eqb (kind_at s at) end_kind) (old_end s head left r) (old_row s head left r)

unfoldable pub old_rows : List ℕ → Head → ℕ → ℕ → List (Check Numbered)
old_rows s head zero r = old_behind s head 0 r
old_rows s head (suc left) r = old_behind s head (suc left) r ++ old_rows s head left (suc r)

unfoldable pub old_table_checks : List ℕ → List (Check Numbered)
old_table_checks s = old_opening s ++ old_rows s (head_in s) (rows_of (head_in s)) 0

abbrev pub old_table : List ℕ → Told Held
old_table s = decided (old_table_checks s) (held_in (head_in s) (cells_in s))

-- read into a lent table
abbrev pub old_received : List ℕ → List ℕ → Told Head
old_received file lent = decided (old_table_checks file ++ (short (held_in (head_in file) lent) 1 ∷ [])) (head_in file)

-- ---- an order file

module _ (N T step : ℕ) (cures file : List ℕ) where
  unfoldable pub old_finish : Stack → List (Check Numbered)
  old_finish read =
      let at = lift_place read.layers in
      malformed (not (eqb (le16 file (body_at at)) read.layers && may_finish N read.rise)) at ∷ old_tail file (body_at at + finish_length)

  unfoldable pub old_layer : Stack → List (Check Numbered)
  old_layer read =
      let t = thickness_at T step cures file read in
      let at = cure_place read.layers in
      malformed (not (may_follow N T cures read t)) (lift_place read.layers)
      ∷ (old_frame file at (eqb (kind_at file at) cure_kind) (eqb (length_at file at) float_length)
      ++ (malformed (not (eqb (le32 file (body_at at)) (cure_bits (cure_of cures t)))) at ∷ []))

  unfoldable pub old_orders : ℕ → Stack → List (Check Numbered)
  old_orders zero read = malformed (ltb (left file (lift_place read.layers)) 4) (lift_place read.layers) ∷ []
  old_orders (suc n) read =
      let at = lift_place read.layers in
      old_frame file at (order.allowed_after read.layers (kind_at file at)) (order.fits (kind_at file at) (length_at file at))
      ++ cond (finishes file read.layers) (old_finish read) (old_layer read ++ old_orders n (grown read (thickness_at T step cures file read)))

  abbrev pub old_order : ℕ → Told Order
  old_order number = decided (lent_checks N T step cures ++ old_orders (length file) no_layers) (order_in T step cures file number)

-- 'the new answer with 19, 20, 21 read as 16 is the old answer, place and all'
pub record AsBefore : Type 0 where
  pub read-record : (s : List ℕ) (st : State) (at : ℕ) → collapse (read_record s st at).told ≡ (old_read s st at).told
  -- and the reader goes on from the same place, in the same state
  pub read-on : (s : List ℕ) (st : State) (at : ℕ) → ((read_record s st at).next ≡ (old_read s st at).next) × ((read_record s st at).state ≡ (old_read s st at).state)
  pub job-file : (most : ℕ) (s : List ℕ) → collapse (job_of most s) ≡ old_job most s
  -- and as it is read into a lent table
  pub read-file : (most : ℕ) (s lent : List ℕ) → collapse (load_answer lent (job_of most s)) ≡ load_answer lent (old_job most s)
  pub table-file : (s : List ℕ) → collapse (table_file s) ≡ old_table s
  pub read_table : (s lent : List ℕ) → collapse (read_answer s lent) ≡ old_received s lent
  pub read-order : (N T step : ℕ) (cures file : List ℕ) (number : ℕ) → collapse (answer_of (reading_order N T step cures file number)) ≡ old_order N T step cures file number
