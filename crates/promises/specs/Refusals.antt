-- 'Each is given exactly when it holds and nothing earlier in the call's order does': the sentence, of every call, of reading a record of a
-- job file, and of reading a file that is a job into a lent table. Assumes nothing.
use Rattle.std.specs.Prelude.{ℕ, ◌≡◌, ◌↔◌, List, ℤ}
use Rattle.lists.specs.Checks.{Check, Given}
use Rattle.paper.specs.Layer.{Column}
use Rattle.plate.specs.Refusal.{Told, refused, Numbered}
use Rattle.plate.specs.Call.{Call, answer_of}
use Rattle.plate.specs.Head.{Held}
use Rattle.column.specs.Picture.{picture_checks, picture_answer}
use Rattle.motor.specs.Height.{height_checks, height_answer}
use Rattle.table.specs.Table.{clearing}
use Rattle.adding.specs.Adding.{adding}
use Rattle.joining.specs.Joining.{joining, taking}
use Rattle.plan.specs.Plan.{Sheets, planning}
use Rattle.readback.specs.Reading.{reading}
use Rattle.recount.specs.Recount.{recounting}
use Rattle.job.specs.Record.{record_checks, read_record}
use Rattle.job.specs.File.{Job}
use Rattle.job.specs.declared.State.{State}
use Rattle.load.specs.Load.{loading}
use Rattle.save.specs.Writing.{count_checks, writing, size_answer}
use Rattle.send.specs.Sending.{sending}
use Rattle.receive.specs.Receiving.{receiving}
use Rattle.orders.specs.Writing.{writing_orders}
use Rattle.orders.specs.Reading.{reading_order}

-- an answer is a refusal exactly when one of these checks holds and none before it
abbrev pub Exactly : {X : Type 0} → Told X → List (Check Numbered) → Type 0
Exactly answer checks = (number place : ℕ) → (answer ≡ refused number place) ↔ Given checks (record { number = number; place = place })

-- of a call, by its own list
abbrev pub ByItsList : {X B : Type 0} → Call X B → Type 0
ByItsList call = Exactly (answer_of call) call.checks

pub record Refusals : Type 0 where
  pub clear : (N T : ℕ) (table : List ℕ) → ByItsList (clearing N T table)
  pub add : (held : Held) (column : Column) → ByItsList (adding held column)
  pub join : (held other : Held) → ByItsList (joining held other)
  pub take : (held other : Held) → ByItsList (taking held other)
  pub plan : (held : Held) (bound : ℕ) (lent : Sheets) → ByItsList (planning held bound lent)
  pub read_back : (N T : ℕ) (errors thicknesses : List ℕ) (n : ℕ) (out : List ℤ) → ByItsList (reading N T errors thicknesses n out)
  pub recount : (held : Held) (bound : ℕ) (zs : List ℤ) → ByItsList (recounting held bound zs)
  pub picture : (N T : ℕ) (bs : List ℕ) (z : ℤ) (t : ℕ) → Exactly (picture_answer N T bs z t) (picture_checks N T bs z t)
  pub motor : (s : ℕ) (z : ℤ) → Exactly (height_answer s z) (height_checks s z)
  pub read-record : (s : List ℕ) (st : State) (at : ℕ) → Exactly (read_record s st at).told (record_checks s st at)
  pub write-job : (N T bound : ℕ) (run counts out : List ℕ) → ByItsList (writing N T bound run counts out)
  pub job-size : (counts : List ℕ) → Exactly (size_answer counts) (count_checks counts)
  pub read-file : (lent : List ℕ) (file : Told Job) → ByItsList (loading lent file)
  pub write-table : (held : Held) (out : List ℕ) → ByItsList (sending held out)
  pub read_table : (file lent : List ℕ) → ByItsList (receiving file lent)
  pub write-orders : (N T step : ℕ) (cures : List ℕ) (zs : List ℤ) (out : List ℕ) → ByItsList (writing_orders N T step cures zs out)
  pub read-order : (N T step : ℕ) (cures file : List ℕ) (number : ℕ) → ByItsList (reading_order N T step cures file number)
