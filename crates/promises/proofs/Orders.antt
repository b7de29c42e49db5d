-- The numbers of each call's checks by computing them, and what a call answers by the first check that holds: its value where none does, and
-- else a refusal by that check's number, which is one of the list's. Assumes nothing.
use mathlib.Core.Path.{◌≡◌, refl, sym, ap, ap₂, subst, ◌∙◌}
use mathlib.Core.Logic.{◌⊎◌, inl, inr}
use mathlib.Core.Bool.{Bool, true, false, cond, ◌||◌}
use mathlib.Core.List.{List, [], ◌∷◌, ◌++◌}
use mathlib.Core.Option.{Option, none, some}
use Prim.Native.Nat.{ℕ, zero, suc, ◌+◌}
use native.Mathlib.Omega.{arith}
use borrow.Author.Tests.{eq-eqb}
use lib.Dec.{eqb}
use lib.ListN.{length}
use Rattle.lists.specs.Checks.{Check, first}
use Rattle.plate.specs.Call.{Call}
use Rattle.plate.specs.Head.{held_in}
use Rattle.plate.specs.Refusal.{Told, done, refused, Numbered, told_by, decided}
use Rattle.plate.specs.Settings.{settings_checks}
use Rattle.plate.specs.declared.head.Head.{Head}
use Rattle.column.specs.Order.{column_checks}
use Rattle.column.specs.Picture.{layer_checks, picture_checks, picture_answer}
use Rattle.motor.specs.Height.{height_checks}
use Rattle.table.specs.Table.{short, out_cell, bound_checks, table_rest, table_checks, clearing}
use Rattle.adding.specs.Adding.{overfull_cell, add_rest, adding}
use Rattle.joining.specs.Joining.{differ, pair_checks, out_checks, rest_checks, both_checks, joining, part_checks, taking}
use Rattle.plan.specs.Plan.{plan_rest, planning}
use Rattle.readback.specs.Reading.{size_checks, entry_checks, reading}
use Rattle.recount.specs.Recount.{sequence_checks, recounting}
use Rattle.record.specs.Frame.{length_at, kind_at}
use Rattle.record.specs.Faults.{tail, frame_checks}
use Rattle.job.specs.Record.{body_checks, kind_checks, record_kind, record_checks, reading_at}
use Rattle.job.specs.File.{Job}
use Rattle.job.specs.declared.Kind.{Kind}
use Rattle.job.specs.declared.Kind.TheVariants as kind
use Rattle.job.specs.declared.State.{State}
use Rattle.load.specs.Load.{loading}
use Rattle.save.specs.Writing.{count_checks, run_checks, writing, size_answer}
use Rattle.sent.specs.Kinds.{end_kind, allowed_after, fits}
use Rattle.sent.specs.Written.{rows_of}
use Rattle.sent.specs.File.{head_in, opening_checks, row_place, row_checks, end_checks, record_checks as behind_checks, rows_checks, file_checks}
use Rattle.send.specs.Sending.{no_room, sending}
use Rattle.receive.specs.Receiving.{receiving}
use Rattle.orders.specs.Lent.{lent_checks}
use Rattle.orders.specs.File as order
use Rattle.orders.specs.File.{no_layers, grown, thickness_at, next_checks, finishes, lift_checks, cure_checks, finish_checks, orders_checks}
use Rattle.orders.specs.Writing.{file_wanted, filing, writing_orders}
use Rattle.orders.specs.Reading.{reading_order}
use Rattle.orders.specs.declared.Stack.{Stack}
use Rattle.promises.specs.Orders.{numbers, is_one_of, ByLine, CallByLine, body_line, frame_line, record_line, file_line, opening_line, behind_line, rows_line, table_line, after_frame, order_line, Orders}
use Rattle.promises.proofs.Refusals.{record-told}

-- what the first check that holds says has one of the numbers
pub first-number : (cs : List (Check Numbered)) (r : Numbered) → first cs ≡ some r → is_one_of r.number (numbers cs) ≡ true
first-number [] r e = absurd (let z : ◌≡◌ {A = ℕ} 0 1 = cc in omega arith)
first-number (c ∷ cs) r e = go c.holds e (first-number cs r)
  where
    either : (b : Bool) → is_one_of r.number (numbers cs) ≡ true → b || is_one_of r.number (numbers cs) ≡ true
    either true q = refl
    either false q = q

    go : (b : Bool) → cond b (some c.says) (first cs) ≡ some r → (first cs ≡ some r → is_one_of r.number (numbers cs) ≡ true)
        → eqb r.number c.says.number || is_one_of r.number (numbers cs) ≡ true
    go true q ih =
        let s : c.says ≡ r = cc in
        let n : r.number ≡ c.says.number = ap (λ (x : Numbered). x.number) (sym s) in
        rw (eq-eqb r.number c.says.number n)
    go false q ih = either (eqb r.number c.says.number) (ih q)

pub by-line : {X : Type 0} (checks : List (Check Numbered)) (value : X) (line : List ℕ) → numbers checks ≡ line → ByLine (decided checks value) checks value line
by-line {X} checks value line order = record { order = order; gets = go (first checks) refl }
  where
    go : (o : Option Numbered) → first checks ≡ o
        → (told_by o value ≡ done value) ⊎ ((number : ℕ) × (place : ℕ) × (told_by o value ≡ refused number place) × (is_one_of number line ≡ true))
    go none e = inl refl
    go (some r) e = inr (r.number, r.place, refl, subst (λ (l : List ℕ). is_one_of r.number l ≡ true) order (first-number checks r e))

call-by-line : {X B : Type 0} (call : Call X B) (line : List ℕ) → numbers call.checks ≡ line → CallByLine call line
call-by-line call line order = by-line call.checks call.value line order

-- the numbers of a record's checks
pub body-numbers : (s : List ℕ) (st : State) (at : ℕ) (k : Kind) → numbers (body_checks s st at k) ≡ body_line k
unfolding body_checks settings_checks column_checks
body-numbers s st at kind.Settings = refl
body-numbers s st at kind.Column = refl
body-numbers s st at kind.End = refl
body-numbers s st at kind.Remark = refl
body-numbers s st at kind.Refused = refl

record-numbers : (s : List ℕ) (st : State) (at : ℕ) → numbers (record_checks s st at) ≡ record_line st.ended (record_kind s at)
unfolding record_checks kind_checks frame_checks
record-numbers s st at = go st.ended
  where
    go : (b : Bool) → numbers (cond b (tail s at ∷ []) (kind_checks s st at (record_kind s at))) ≡ record_line b (record_kind s at)
    go true = refl
    go false = ap (λ (l : List ℕ). frame_line ++ l) (body-numbers s st at (record_kind s at))

file-numbers : (lent : List ℕ) (file : Told Job) → numbers (loading lent file).checks ≡ file_line file
unfolding loading short
file-numbers lent (done job) = refl
file-numbers lent (refused number place) = refl

-- those of a table file, record after record
pub numbers-append : (cs ds : List (Check Numbered)) → numbers (cs ++ ds) ≡ numbers cs ++ numbers ds
numbers-append [] ds = refl
numbers-append (c ∷ cs) ds = ap (λ (l : List ℕ). c.says.number ∷ l) (numbers-append cs ds)

opening-numbers : (file : List ℕ) → numbers (opening_checks file) ≡ opening_line
unfolding opening_checks frame_checks settings_checks
opening-numbers file = refl

behind-numbers : (file : List ℕ) (head : Head) (left r : ℕ)
    → numbers (behind_checks file head left r) ≡ behind_line (eqb (kind_at file (row_place head.members r)) end_kind)
unfolding behind_checks frame_checks end_checks row_checks
behind-numbers file head left r = go (eqb (kind_at file at) end_kind)
  where
    at : ℕ
    at = row_place head.members r

    go : (end : Bool) → numbers (frame_checks file at (allowed_after r (kind_at file at)) (fits head.members (kind_at file at) (length_at file at))
        ++ cond end (end_checks file head left r) (row_checks file head left r)) ≡ behind_line end
    go true = refl
    go false = refl

rows-numbers : (file : List ℕ) (head : Head) (left r : ℕ) → numbers (rows_checks file head left r) ≡ rows_line file head.members left r
unfolding rows_checks
rows-numbers file head zero r = behind-numbers file head 0 r
rows-numbers file head (suc left) r =
    numbers-append (behind_checks file head (suc left) r) (rows_checks file head left (suc r))
    ∙ ap₂ (λ (l m : List ℕ). l ++ m) (behind-numbers file head (suc left) r) (rows-numbers file head left (suc r))

table-numbers : (file lent : List ℕ) → numbers (receiving file lent).checks ≡ table_line file
unfolding receiving file_checks short
table-numbers file lent =
    let head = head_in file in
    let rows = rows_checks file head (rows_of head) 0 in
    numbers-append (opening_checks file ++ rows) (short (held_in head lent) 1 ∷ [])
    ∙ ap (λ (l : List ℕ). l ++ (3 ∷ [])) (numbers-append (opening_checks file) rows ∙ ap₂ (λ (l m : List ℕ). l ++ m) (opening-numbers file) (rows-numbers file head (rows_of head) 0))

-- those of an order file
order-numbers : (N T step : ℕ) (cures file : List ℕ) (left : ℕ) (read : Stack) → numbers (orders_checks N T step cures file left read) ≡ order_line file left read.layers
unfolding orders_checks next_checks frame_checks order.layer_checks lift_checks cure_checks finish_checks
order-numbers N T step cures file zero read = refl
order-numbers N T step cures file (suc left) read =
    ap (λ (l : List ℕ). frame_line ++ l) (go (finishes file read.layers) (order-numbers N T step cures file left next))
  where
    next : Stack
    next = grown read (thickness_at T step cures file read)

    go : (last : Bool) → numbers (orders_checks N T step cures file left next) ≡ order_line file left (read.layers + 1)
        → numbers (cond last (finish_checks N file read) (order.layer_checks N T step cures file read ++ orders_checks N T step cures file left next))
        ≡ after_frame last (order_line file left (read.layers + 1))
    go true e = refl
    go false e = ap (λ (l : List ℕ). 21 ∷ (frame_line ++ (21 ∷ l))) e

read-numbers : (N T step : ℕ) (cures file : List ℕ) (number : ℕ) → numbers (reading_order N T step cures file number).checks ≡ 1 ∷ 2 ∷ 14 ∷ 3 ∷ order_line file (length file) 0
unfolding reading_order lent_checks settings_checks order.file_checks
read-numbers N T step cures file number = ap (λ (l : List ℕ). 1 ∷ 2 ∷ 14 ∷ 3 ∷ l) (order-numbers N T step cures file (length file) no_layers)

pub orders : Orders
unfolding writing_orders lent_checks filing file_wanted sending no_room writing size_answer count_checks run_checks clearing adding joining taking planning reading recounting picture_answer picture_checks layer_checks settings_checks column_checks short out_cell bound_checks table_rest table_checks overfull_cell add_rest differ pair_checks out_checks rest_checks both_checks part_checks plan_rest size_checks entry_checks sequence_checks
orders = record {
  clear = λ N T table. call-by-line (clearing N T table) _ refl;
  add = λ held column. call-by-line (adding held column) _ refl;
  join = λ held other. call-by-line (joining held other) _ refl;
  take = λ held other. call-by-line (taking held other) _ refl;
  plan = λ held bound lent. call-by-line (planning held bound lent) _ refl;
  read_back = λ N T errors thicknesses n out. call-by-line (reading N T errors thicknesses n out) _ refl;
  recount = λ held bound zs. call-by-line (recounting held bound zs) _ refl;
  picture = λ N T bs z t. by-line (picture_checks N T bs z t) _ _ refl;
  motor = λ s z. by-line (height_checks s z) _ _ refl;
  read-record = λ s st at. rw (record-told s st at) (by-line (record_checks s st at) (reading_at s st at).what _ (record-numbers s st at));
  write-job = λ N T bound run counts out. call-by-line (writing N T bound run counts out) _ refl;
  job-size = λ counts. by-line (count_checks counts) _ _ refl;
  read-file = λ lent file. call-by-line (loading lent file) (file_line file) (file-numbers lent file);
  write-table = λ held out. call-by-line (sending held out) _ refl;
  read_table = λ file lent. call-by-line (receiving file lent) (table_line file) (table-numbers file lent);
  write-orders = λ N T step cures zs out. call-by-line (writing_orders N T step cures zs out) _ refl;
  read-order = λ N T step cures file number. call-by-line (reading_order N T step cures file number) _ (read-numbers N T step cures file number);
}
