-- Each call's refusals are one list of checks, and its answer is by the first that holds: so the law of `lists` on any list of checks is the
-- sentence for every call. Reading a record is such a call too. Assumes nothing.
use Prim.Native.Nat.{ℕ}
use mathlib.Core.Path.{◌≡◌, refl}
use mathlib.Core.List.{List}
use mathlib.Core.Option.{Option, none, some}
use Rattle.lists.specs.Checks.{first}
use Rattle.plate.specs.Refusal.{Numbered, told_by, decided}
use Rattle.plate.proofs.Calls.{exactly}
use Rattle.plate.proofs.Decided.{refused-exactly}
use Rattle.column.specs.Picture.{picture_checks, picture_answer}
use Rattle.motor.specs.Height.{height_checks}
use Rattle.table.specs.Table.{clearing}
use Rattle.adding.specs.Adding.{adding}
use Rattle.joining.specs.Joining.{joining, taking}
use Rattle.plan.specs.Plan.{planning}
use Rattle.readback.specs.Reading.{reading}
use Rattle.recount.specs.Recount.{recounting}
use Rattle.job.specs.Record.{Reading, moved, reading_at, record_checks, read_record}
use Rattle.job.specs.declared.State.{State}
use Rattle.load.specs.Load.{loading}
use Rattle.save.specs.Writing.{count_checks, writing, size_answer}
use Rattle.send.specs.Sending.{sending}
use Rattle.receive.specs.Receiving.{receiving}
use Rattle.orders.specs.Writing.{writing_orders}
use Rattle.orders.specs.Reading.{reading_order}
use Rattle.promises.specs.Refusals.{Refusals}

moved_told : (st : State) (at : ℕ) (o : Option Numbered) (r : Reading) → (moved st at (told_by o r)).told ≡ told_by o r.what
moved_told st at none r = refl
moved_told st at (some n) r = refl

pub record-told : (s : List ℕ) (st : State) (at : ℕ) → (read_record s st at).told ≡ decided (record_checks s st at) (reading_at s st at).what
unfolding read_record
record-told s st at = moved_told st at (first (record_checks s st at)) (reading_at s st at)

pub refusals : Refusals
unfolding picture_answer size_answer
refusals = record {
  clear = λ N T table. exactly (clearing N T table);
  add = λ held column. exactly (adding held column);
  join = λ held other. exactly (joining held other);
  take = λ held other. exactly (taking held other);
  plan = λ held bound lent. exactly (planning held bound lent);
  read_back = λ N T errors thicknesses n out. exactly (reading N T errors thicknesses n out);
  recount = λ held bound zs. exactly (recounting held bound zs);
  picture = λ N T bs z t. refused-exactly (picture_checks N T bs z t) _;
  motor = λ s z. refused-exactly (height_checks s z) _;
  read-record = λ s st at number place. rw (record-told s st at) (refused-exactly (record_checks s st at) _ number place);
  write-job = λ N T bound run counts out. exactly (writing N T bound run counts out);
  job-size = λ counts. refused-exactly (count_checks counts) _;
  read-file = λ lent file. exactly (loading lent file);
  write-table = λ held out. exactly (sending held out);
  read_table = λ file lent. exactly (receiving file lent);
  write-orders = λ N T step cures zs out. exactly (writing_orders N T step cures zs out);
  read-order = λ N T step cures file number. exactly (reading_order N T step cures file number);
}
