-- What a call tells says which answer it was, a refused call has written nothing, and a refused read has moved nothing: as statements.
-- Assumes nothing.
use Rattle.std.specs.Prelude.{ℕ, ◌≡◌, List, ℤ, Float, Result, ⊤}
use Rattle.paper.specs.Layer.{Column}
use Rattle.plate.specs.Call.{Call, answer_of, left_by}
use Rattle.plate.specs.Refusal.{said_by, Told, refused, told}
use Rattle.plate.specs.Head.{Held}
use Rattle.table.specs.Table.{clearing}
use Rattle.adding.specs.Adding.{adding}
use Rattle.joining.specs.Joining.{joining, taking}
use Rattle.plan.specs.Plan.{Sheets, planning}
use Rattle.readback.specs.Reading.{reading}
use Rattle.job.specs.Record.{read_record, told_step}
use Rattle.job.specs.File.{Job}
use Rattle.job.specs.declared.State.{State}
use Rattle.job.specs.declared.Step.{Step}
use Rattle.load.specs.Load.{loading}
use Rattle.save.specs.Writing.{writing}
use Rattle.send.specs.Sending.{sending}
use Rattle.receive.specs.Receiving.{receiving}
use Rattle.orders.specs.Writing.{writing_orders}
use Rattle.plate.specs.declared.refusal.Refusal.{Refusal}
use Rattle.plate.specs.declared.settings.Settings.{Settings}
use Rattle.plate.specs.declared.head.Head.{Head}
use Rattle.column.specs.declared.Judged.{Judged}
use Rattle.load.specs.declared.Load.{Load}
use Rattle.orders.specs.declared.Order.{Order}

-- an answer is the only one that tells what it tells, so a contract about what is told leaves one answer
pub record Only : Type 0 where
  pub number : (a b : Result ℕ Refusal) → told a ≡ told b → a ≡ b
  pub table : (a b : Result Head Refusal) → told a ≡ told b → a ≡ b
  pub picture : (a b : Result Judged Refusal) → told a ≡ told b → a ≡ b
  pub height : (a b : Result Float Refusal) → told a ≡ told b → a ≡ b
  pub checks : (a b : Result ⊤ Refusal) → said_by a ≡ said_by b → a ≡ b
  pub settings : (a b : Result Settings Refusal) → told a ≡ told b → a ≡ b
  pub step : (a b : Step) → told_step a ≡ told_step b → a ≡ b
  pub file : (a b : Result Load Refusal) → told a ≡ told b → a ≡ b
  pub order : (a b : Result Order Refusal) → told a ≡ told b → a ≡ b

-- a refused call leaves what the memory held
abbrev pub Keeps : {X B : Type 0} → Call X B → Type 0
Keeps call = (number place : ℕ) → answer_of call ≡ refused number place → left_by call ≡ call.held

-- a refused call has written nothing into memory lent to it
pub record Unwritten : Type 0 where
  pub clear : (N T : ℕ) (table : List ℕ) → Keeps (clearing N T table)
  pub add : (held : Held) (column : Column) → Keeps (adding held column)
  pub join : (held other : Held) → Keeps (joining held other)
  pub take : (held other : Held) → Keeps (taking held other)
  pub plan : (held : Held) (bound : ℕ) (lent : Sheets) → Keeps (planning held bound lent)
  pub read_back : (N T : ℕ) (errors thicknesses : List ℕ) (n : ℕ) (out : List ℤ) → Keeps (reading N T errors thicknesses n out)
  pub write-job : (N T bound : ℕ) (run counts out : List ℕ) → Keeps (writing N T bound run counts out)
  pub read-file : (lent : List ℕ) (file : Told Job) → Keeps (loading lent file)
  pub write-table : (held : Held) (out : List ℕ) → Keeps (sending held out)
  pub read_table : (file lent : List ℕ) → Keeps (receiving file lent)
  pub write-orders : (N T step : ℕ) (cures : List ℕ) (zs : List ℤ) (out : List ℕ) → Keeps (writing_orders N T step cures zs out)

-- a read that is refused moves neither the place nor the state
abbrev pub Unmoved : Type 0
Unmoved =
    (s : List ℕ) (st : State) (at number place : ℕ) → (read_record s st at).told ≡ refused number place
    → ((read_record s st at).next ≡ at) × ((read_record s st at).state ≡ st)
