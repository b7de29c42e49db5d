-- A list of checks, each with 19, 20 and 21 read as 16, decides what the list itself decides, with its answer so read. And the lists of each format, so
-- read, are the old ones, record after record, by induction on the records left. A job file is a fold over its records: a record that is refused leaves
-- the same place and state whatever the number, so the fold is the old one. Assumes nothing.
use Prim.Native.Nat.{ℕ, zero, suc}
use mathlib.Core.Path.{◌≡◌, refl, ap, ◌∙◌}
use mathlib.Core.Bool.{Bool, true, false, cond}
use mathlib.Core.List.{List, [], ◌∷◌, ◌++◌, map, map-append}
use mathlib.Core.Option.{some}
use lib.Dec.{eqb}
use lib.ListN.{length}
use Rattle.lists.specs.Checks.{Check, first}
use Rattle.paper.specs.Layer.{Column, column_of}
use Rattle.plate.specs.Head.{held_in}
use Rattle.plate.specs.Refusal.{Told, done, refused, Numbered, check, told_by, decided}
use Rattle.plate.specs.Call.{answer_of}
use Rattle.plate.specs.Settings.{settings_checks}
use Rattle.plate.specs.declared.head.Head.{Head}
use Rattle.column.specs.Order.{column_checks}
use Rattle.table.specs.Table.{short}
use Rattle.record.specs.Bytes.{words}
use Rattle.record.specs.Frame.{length_at, kind_at}
use Rattle.record.specs.Faults.{tail, frame_checks}
use Rattle.job.specs.State.{start_state}
use Rattle.job.specs.Kinds.{allowed_here, fits}
use Rattle.job.specs.Record.{What, settings, column, ended, remark, Reading, Moved, moved, reading_at, body_checks, kind_checks, record_kind, record_checks, read_record}
use Rattle.job.specs.Fold.{fold_from, fold_of}
use Rattle.job.specs.File.{Job, Finished, unless, behind, job_by, job_over, endless, job_from, whole_by, whole_file}
use Rattle.job.specs.declared.Asked.{Asked}
use Rattle.job.specs.declared.Kind.{Kind}
use Rattle.job.specs.declared.Kind.TheVariants as kind
use Rattle.job.specs.declared.State.{State}
use Rattle.load.specs.Load.{is_large, too_large, job_of, load_of, loading_job, loading, load_answer}
use Rattle.sent.specs.Kinds.{end_kind}
use Rattle.sent.specs.Written.{rows_of}
use Rattle.sent.specs.File.{head_in, cells_in, opening_checks, row_place, row_checks, end_checks, record_checks as behind_checks, rows_checks, file_checks, table_file}
use Rattle.receive.specs.Receiving.{receiving, read_answer}
use Rattle.orders.specs.Lent.{lent_checks}
use Rattle.orders.specs.File as order
use Rattle.orders.specs.File.{no_layers, grown, thickness_at, next_checks, finishes, lift_checks, cure_checks, finish_checks, layer_checks, orders_checks}
use Rattle.orders.specs.Reading.{order_in, reading_order}
use Rattle.orders.specs.declared.Stack.{Stack}
use Rattle.promises.specs.Before.{as_sixteen, collapse, old_frame, old_tail, old_body, old_record, old_read, old_from, old_whole_by, old_job, old_opening, old_row, old_end, old_behind, old_rows, old_table_checks, old_table, old_received, old_finish, old_layer, old_orders, old_order, AsBefore}

-- ---- checks

-- a check with 19, 20 and 21 read as 16, and a list of them
abbrev collapsed_check : Check Numbered → Check Numbered
collapsed_check c = check (as_sixteen c.says.number) c.holds c.says.place

abbrev collapsed : List (Check Numbered) → List (Check Numbered)
collapsed cs = map collapsed_check cs

module _ {X : Type 0} (x : X) where
  collapse-decided : (cs : List (Check Numbered)) → collapse (decided cs x) ≡ decided (collapsed cs) x
  collapse-decided [] = refl
  collapse-decided (c ∷ cs) = go c.holds (collapse-decided cs)
    where
      go : (b : Bool) → collapse (decided cs x) ≡ decided (collapsed cs) x
          → collapse (told_by (cond b (some c.says) (first cs)) x) ≡ told_by (cond b (some (collapsed_check c).says) (first (collapsed cs))) x
      go true e = refl
      go false e = e

  -- so it is decided by the old checks
  decided-before : (new old : List (Check Numbered)) → collapsed new ≡ old → collapse (decided new x) ≡ decided old x
  decided-before new old e = collapse-decided new ∙ ap (λ (l : List (Check Numbered)). decided l x) e

frame-before : (s : List ℕ) (at : ℕ) (allowed right : Bool) → collapsed (frame_checks s at allowed right) ≡ old_frame s at allowed right
unfolding frame_checks old_frame
frame-before s at allowed right = refl

-- ---- a record of a job file

body-before : (s : List ℕ) (st : State) (at : ℕ) (k : Kind) → collapsed (body_checks s st at k) ≡ old_body s st at k
unfolding body_checks settings_checks column_checks
body-before s st at kind.Settings = refl
body-before s st at kind.Column = refl
body-before s st at kind.End = refl
body-before s st at kind.Remark = refl
body-before s st at kind.Refused = refl

record-before : (s : List ℕ) (st : State) (at : ℕ) → collapsed (record_checks s st at) ≡ old_record s st at
unfolding record_checks kind_checks old_record
record-before s st at = go st.ended
  where
    k : Kind
    k = record_kind s at

    go : (b : Bool) → collapsed (cond b (tail s at ∷ []) (kind_checks s st at k))
        ≡ cond b (old_tail s at) (old_frame s at (allowed_here st k) (fits k (length_at s at)) ++ old_body s st at k)
    go true = refl
    go false = rw (map-append, frame-before, body-before)

-- what is read goes on as it did, in the same state and at the same place
abbrev collapsed_move : Moved → Moved
collapsed_move m = record { told = collapse m.told; next = m.next; state = m.state }

move-before : (st : State) (at : ℕ) (t : Told Reading) → collapsed_move (moved st at t) ≡ moved st at (collapse t)
move-before st at (done r) = refl
move-before st at (refused number place) = refl

read-before : (s : List ℕ) (st : State) (at : ℕ) → collapsed_move (read_record s st at) ≡ old_read s st at
unfolding read_record old_read
read-before s st at =
    let r = reading_at s st at in
    move-before st at (decided (record_checks s st at) r) ∙ ap (moved st at) (decided-before r (record_checks s st at) (old_record s st at) (record-before s st at))

-- ---- a job file

collapse-behind : (columns : List Column) (t : Told Finished) → collapse (behind columns t) ≡ behind columns (collapse t)
collapse-behind columns (done f) = refl
collapse-behind columns (refused number place) = refl

-- 17 stays
collapse-unless : (most at : ℕ) (a : Asked) (t : Told Finished)
    → collapse (unless (first (too_large most at a)) t) ≡ unless (first (too_large most at a)) (collapse t)
unfolding too_large
collapse-unless most at a t = go (is_large most a)
  where
    go : (b : Bool) → collapse (unless (first (check 17 b at ∷ [])) t) ≡ unless (first (check 17 b at ∷ [])) (collapse t)
    go true = refl
    go false = refl

module _ (most : ℕ) (s : List ℕ) where
  -- one record, with what is read after it
  over-before : (at : ℕ) (m : Moved) (t : Told What) (rest before : State → ℕ → Told Finished)
      → ((st : State) (next : ℕ) → collapse (rest st next) ≡ before st next)
      → collapse (job_by (too_large most) t s at m rest) ≡ job_by (too_large most) (collapse t) s at (collapsed_move m) before
  over-before at m (done (settings a)) rest before e =
      collapse-unless most at a (rest m.state m.next) ∙ ap (unless (first (too_large most at a))) (e m.state m.next)
  over-before at m (done (column from count)) rest before e =
      collapse-behind (column_of (words s from count) ∷ []) (rest m.state m.next) ∙ ap (behind (column_of (words s from count) ∷ [])) (e m.state m.next)
  over-before at m (done (ended columns)) rest before e = refl
  over-before at m (done remark) rest before e = e m.state m.next
  over-before at m (refused number place) rest before e = refl

  from-before : (n : ℕ) (st : State) (at : ℕ) → collapse (fold_from (job_over (too_large most)) endless n s st at) ≡ old_from (too_large most) n s st at
  unfolding fold_from old_from
  from-before zero st at = refl
  from-before (suc n) st at =
      let rest = fold_from (job_over (too_large most)) endless n s in
      let before = old_from (too_large most) n s in
      over-before at (read_record s st at) (read_record s st at).told rest before (from-before n)
      ∙ ap (λ (m : Moved). job_over (too_large most) s at m before) (read-before s st at)

  whole_before : (t : Told Finished) → collapse (whole_by s t) ≡ old_whole_by s (collapse t)
  whole_before (done f) = decided-before f.job (tail s f.past ∷ []) (old_tail s f.past) refl
  whole_before (refused number place) = refl

  job-before : collapse (job_of most s) ≡ old_job most s
  unfolding whole_file job_from fold_of old_job
  job-before = whole_before (job_from (too_large most) s) ∙ ap (old_whole_by s) (from-before (suc (length s)) start_state 0)

-- and as it is read into a lent table
load-before : (lent : List ℕ) (t : Told Job) → collapse (load_answer lent t) ≡ load_answer lent (collapse t)
unfolding loading short
load-before lent (done j) = collapse-decided (load_of j) (loading_job lent j).checks
load-before lent (refused number place) = refl

-- ---- a table file

opening-before : (s : List ℕ) → collapsed (opening_checks s) ≡ old_opening s
unfolding opening_checks frame_checks settings_checks old_opening old_frame
opening-before s = refl

module _ (s : List ℕ) (head : Head) where
  behind-before : (left r : ℕ) → collapsed (behind_checks s head left r) ≡ old_behind s head left r
  unfolding behind_checks end_checks row_checks old_behind old_end old_row
  behind-before left r = rw (map-append, frame-before, go (eqb (kind_at s at) end_kind))
    where
      at : ℕ
      at = row_place head.members r

      go : (end : Bool) → collapsed (cond end (end_checks s head left r) (row_checks s head left r)) ≡ cond end (old_end s head left r) (old_row s head left r)
      go true = refl
      go false = refl

  rows_before : (left r : ℕ) → collapsed (rows_checks s head left r) ≡ old_rows s head left r
  unfolding rows_checks old_rows
  rows_before zero r = behind-before 0 r
  rows_before (suc left) r = rw (map-append, behind-before (suc left) r, rows_before left (suc r))

table_before : (s : List ℕ) → collapsed (file_checks s) ≡ old_table_checks s
unfolding file_checks old_table_checks
table_before s = rw (map-append, opening-before s, rows_before s (head_in s) (rows_of (head_in s)) 0)

table-file-before : (s : List ℕ) → collapse (table_file s) ≡ old_table s
unfolding table_file
table-file-before s = decided-before (held_in (head_in s) (cells_in s)) (file_checks s) (old_table_checks s) (table_before s)

-- read into a lent table
received-before : (s lent : List ℕ) → collapse (read_answer s lent) ≡ old_received s lent
unfolding receiving short
received-before s lent =
    let last = short (held_in (head_in s) lent) 1 ∷ [] in
    decided-before (head_in s) (file_checks s ++ last) (old_table_checks s ++ last) (rw (map-append, table_before s))

-- ---- an order file

module _ (N T step : ℕ) (cures file : List ℕ) where
  layer-before : (read : Stack) → collapsed (layer_checks N T step cures file read) ≡ old_layer N T step cures file read
  unfolding layer_checks lift_checks cure_checks frame_checks old_layer old_frame
  layer-before read = refl

  orders-before : (n : ℕ) (read : Stack) → collapsed (orders_checks N T step cures file n read) ≡ old_orders N T step cures file n read
  unfolding orders_checks next_checks finish_checks old_orders old_finish
  orders-before zero read = refl
  orders-before (suc n) read = rw (map-append, frame-before, go (finishes file read.layers) (orders-before n next))
    where
      next : Stack
      next = grown read (thickness_at T step cures file read)

      go : (last : Bool) → collapsed (orders_checks N T step cures file n next) ≡ old_orders N T step cures file n next
          → collapsed (cond last (finish_checks N file read) (layer_checks N T step cures file read ++ orders_checks N T step cures file n next))
          ≡ cond last (old_finish N T step cures file read) (old_layer N T step cures file read ++ old_orders N T step cures file n next)
      go true e = refl
      go false e = rw (map-append, layer-before read, e)

  lent-before : collapsed (lent_checks N T step cures) ≡ lent_checks N T step cures
  unfolding lent_checks settings_checks
  lent-before = refl

  order-before : (number : ℕ) → collapse (answer_of (reading_order N T step cures file number)) ≡ old_order N T step cures file number
  unfolding reading_order order.file_checks
  order-before number =
      let lent = lent_checks N T step cures in
      decided-before (order_in T step cures file number) (lent ++ orders_checks N T step cures file (length file) no_layers)
      (lent ++ old_orders N T step cures file (length file) no_layers) (rw (map-append, lent-before, orders-before (length file) no_layers))

pub as_before : AsBefore
as_before = record {
  read-record = λ s st at. ap (λ (m : Moved). m.told) (read-before s st at);
  read-on = λ s st at. (ap (λ (m : Moved). m.next) (read-before s st at), ap (λ (m : Moved). m.state) (read-before s st at));
  job-file = job-before;
  read-file = λ most s lent. load-before lent (job_of most s) ∙ ap (load_answer lent) (job-before most s);
  table-file = table-file-before;
  read_table = received-before;
  read-order = order-before;
}
