-- Answers are told apart by what they tell, since no two reasons have one number, and a record that was read comes back from what it tells;
-- and what a refused call leaves is what it was lent, by the law on every call. Assumes nothing.
use mathlib.Core.Path.{◌≡◌, refl, sym, ap, ◌∙◌}
use mathlib.Core.Option.{Option}
use Prim.Native.Nat.{ℕ}
use native.Mathlib.Omega.{arith}
use Rattle.plate.specs.Refusal.{said_by, Told, done, refused, Numbered, told_by, decided, number_of, told, refusal}
use Rattle.plate.specs.declared.refusal.Reason.{Reason}
use Rattle.plate.specs.declared.refusal.Refusal.{Refusal}
use Rattle.plate.proofs.Calls.{unwritten as keeps}
use Rattle.plate.proofs.Numbers.{reason_of, reason-back, number-only}
use Rattle.table.specs.Table.{clearing}
use Rattle.adding.specs.Adding.{adding}
use Rattle.joining.specs.Joining.{joining, taking}
use Rattle.plan.specs.Plan.{planning}
use Rattle.readback.specs.Reading.{reading}
use Rattle.job.specs.Record.{What, Reading, Moved, moved, reading_at, record_checks, read_record, told_read, told_step}
use Rattle.job.specs.declared.Read.{Read}
use Rattle.job.specs.declared.Read.TheVariants as read
use Rattle.job.specs.declared.State.{State}
use Rattle.job.specs.declared.Step.{Step}
use Rattle.load.specs.Load.{loading}
use Rattle.save.specs.Writing.{writing}
use Rattle.send.specs.Sending.{sending}
use Rattle.receive.specs.Receiving.{receiving}
use Rattle.orders.specs.Writing.{writing_orders}
use Rattle.promises.specs.Told.{Only, Unwritten, Unmoved}
use Rattle.std.specs.Prelude.{Result, Ok, Err, ⊤}

-- a refusal is known by its number and place
refusal-only : {X : Type 0} (r s : Refusal) → ◌≡◌ {A = Told X} (refusal r) (refusal s) → r ≡ s
refusal-only r s e =
    let n : number_of r.reason ≡ number_of s.reason = cc in
    let q : r.place ≡ s.place = cc in
    let t = number-only r.reason s.reason n in
    λ i. record { reason = t i; place = q i }

-- an answer of any type is known by what it tells
told-only : {X : Type 0} (a b : Result X Refusal) → told a ≡ told b → a ≡ b
told-only (Ok x) (Ok y) e = let q : x ≡ y = cc in ap (λ z. Ok z) q
told-only (Ok x) (Err r) e = absurd (let z : ◌≡◌ {A = ℕ} 0 1 = cc in omega arith)
told-only (Err r) (Ok y) e = absurd (let z : ◌≡◌ {A = ℕ} 0 1 = cc in omega arith)
told-only (Err r) (Err s) e = ap (λ (r : Refusal). Err r) (refusal-only r s e)

checks-told : (a b : Result ⊤ Refusal) → said_by a ≡ said_by b → a ≡ b
checks-told (Ok x) (Ok y) e = refl
checks-told (Ok x) (Err r) e = absurd (let z : ◌≡◌ {A = ℕ} 0 1 = cc in omega arith)
checks-told (Err r) (Ok y) e = absurd (let z : ◌≡◌ {A = ℕ} 0 1 = cc in omega arith)
checks-told (Err r) (Err s) e = ap (λ (r : Refusal). Err r) (refusal-only {X = ℕ} r s (ap (λ (o : Option Numbered). told_by o 0) e))

-- what was read, from what it tells
abbrev read_of : Told What → Read
read_of (done (What.settings a)) = read.Settings a
read_of (done (What.column start count)) = read.Column start count
read_of (done (What.ended columns)) = read.End columns
read_of (done What.remark) = read.Remark
read_of (refused number place) = read.Fault (reason_of number) place

read_again : (r : Read) → read_of (told_read r) ≡ r
read_again (read.Settings a) = refl
read_again (read.Column start count) = refl
read_again (read.End columns) = refl
read_again read.Remark = refl
read_again (read.Fault reason place) = ap (λ (r : Reason). read.Fault r place) (reason-back reason)

step-told : (a b : Step) → told_step a ≡ told_step b → a ≡ b
step-told a b e =
    let r = sym (read_again a.read) ∙ ap (λ (m : Moved). read_of m.told) e ∙ read_again b.read in
    λ i. record { read = r i; cursor = record { at = (e i).next }; state = (e i).state }

pub only : Only
only = record {
  number = told-only;
  table = told-only;
  picture = told-only;
  height = told-only;
  checks = checks-told;
  settings = told-only;
  step = step-told;
  file = told-only;
  order = told-only;
}

pub unwritten : Unwritten
unwritten = record {
  clear = λ N T table. keeps (clearing N T table);
  add = λ held column. keeps (adding held column);
  join = λ held other. keeps (joining held other);
  take = λ held other. keeps (taking held other);
  plan = λ held bound lent. keeps (planning held bound lent);
  read_back = λ N T errors thicknesses n out. keeps (reading N T errors thicknesses n out);
  write-job = λ N T bound run counts out. keeps (writing N T bound run counts out);
  read-file = λ lent file. keeps (loading lent file);
  write-table = λ held out. keeps (sending held out);
  read_table = λ file lent. keeps (receiving file lent);
  write-orders = λ N T step cures zs out. keeps (writing_orders N T step cures zs out);
}

-- a refusal moves nothing
stays : (st : State) (at : ℕ) (t : Told Reading) (number place : ℕ) → (moved st at t).told ≡ refused number place
    → ((moved st at t).next ≡ at) × ((moved st at t).state ≡ st)
stays st at (done r) n p e = absurd (let z : ◌≡◌ {A = ℕ} 0 1 = cc in omega arith)
stays st at (refused number place) n p e = (refl, refl)

pub unmoved : Unmoved
unfolding read_record
unmoved s st at n p = stays st at (decided (record_checks s st at) (reading_at s st at)) n p
