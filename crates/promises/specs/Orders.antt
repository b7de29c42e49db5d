-- Document 01, 'What comes back', line by line: 'Clear a table: 1, 2, 3' and so on. The numbers of each call's checks, in the order in which they
-- are asked, are those of its line; and every input gets an answer, the call's value or a refusal by one of those numbers. The calls that document
-- 02 adds have its lines. Assumes nothing.
use Rattle.std.specs.Prelude.{ℕ, zero, suc, ◌+◌, ◌≡◌, ◌⊎◌, Bool, true, false, ◌||◌, List, [], ◌∷◌, ◌++◌, eqb, ℤ, pos, ◌*ℤ◌, length}
use Rattle.lists.specs.Checks.{Check}
use Rattle.paper.specs.Layer.{Column}
use Rattle.plate.specs.Call.{Call, answer_of}
use Rattle.plate.specs.Head.{Held}
use Rattle.plate.specs.Refusal.{Told, done, refused, Numbered}
use Rattle.column.specs.Picture.{picture_checks, judgement, picture_answer}
use Rattle.motor.specs.Exact.{over}
use Rattle.motor.specs.Height.{height_checks, height_answer}
use Rattle.table.specs.Table.{clearing}
use Rattle.adding.specs.Adding.{adding}
use Rattle.joining.specs.Joining.{joining, taking}
use Rattle.plan.specs.Plan.{Sheets, planning}
use Rattle.readback.specs.Reading.{reading}
use Rattle.recount.specs.Recount.{recounting}
use Rattle.record.specs.Frame.{kind_at}
use Rattle.job.specs.Record.{record_kind, record_checks, reading_at, read_record}
use Rattle.job.specs.File.{Job}
use Rattle.job.specs.declared.Kind.{Kind}
use Rattle.job.specs.declared.Kind.TheVariants as kind
use Rattle.job.specs.declared.State.{State}
use Rattle.load.specs.Load.{loading}
use Rattle.save.specs.Runs.{file_size}
use Rattle.save.specs.Writing.{count_checks, writing, size_answer}
use Rattle.sent.specs.Kinds.{end_kind}
use Rattle.sent.specs.Written.{rows_of}
use Rattle.sent.specs.File.{head_in, row_place}
use Rattle.send.specs.Sending.{sending}
use Rattle.receive.specs.Receiving.{receiving}
use Rattle.orders.specs.File.{finishes}
use Rattle.orders.specs.Writing.{writing_orders}
use Rattle.orders.specs.Reading.{reading_order}

-- the numbers of some checks, in their order
abbrev pub numbers : List (Check Numbered) → List ℕ
numbers [] = []
numbers (c ∷ cs) = c.says.number ∷ numbers cs

-- a number is one of these
abbrev pub is_one_of : ℕ → List ℕ → Bool
is_one_of number [] = false
is_one_of number (n ∷ line) = eqb number n || is_one_of number line

-- an answer by its checks, and a line of document 01: the checks have the line's numbers, and the answer is the value or a refusal by one of them
pub record ByLine {X : Type 0} (answer : Told X) (checks : List (Check Numbered)) (value : X) (line : List ℕ) : Type 0 where
  pub order : numbers checks ≡ line
  pub gets : (answer ≡ done value) ⊎ ((number : ℕ) × (place : ℕ) × (answer ≡ refused number place) × (is_one_of number line ≡ true))

abbrev pub CallByLine : {X B : Type 0} → Call X B → List ℕ → Type 0
CallByLine call line = ByLine (answer_of call) call.checks call.value line

-- 'then 1, 2 at settings only; 7, 4, 5 at a column only, ..; end count unequal', which document 02 f) numbers 21
abbrev pub body_line : Kind → List ℕ
body_line kind.Settings = 1 ∷ 2 ∷ []
body_line kind.Column = 7 ∷ 4 ∷ 5 ∷ []
body_line kind.End = 21 ∷ []
body_line kind.Remark = []
body_line kind.Refused = []

-- 'In a record: fewer than 4 bytes left; kind not allowed here; wrong length for the kind; body past the input', which document 02 f) numbers 16,
-- 19, 20 and 16
abbrev pub frame_line : List ℕ
frame_line = 16 ∷ 19 ∷ 20 ∷ 16 ∷ []

-- of a record, its frame and its body; after the end record, bytes that are left
abbrev pub record_line : Bool → Kind → List ℕ
record_line true k = 21 ∷ []
record_line false k = frame_line ++ body_line k

-- a file that is a job: the table that it is read into; any other has its own refusal
abbrev pub file_line : Told Job → List ℕ
file_line (done job) = 3 ∷ []
file_line (refused number place) = number ∷ []

-- document 02 c), 'Refusals of the reader: 16 by record as in the job file, then 1, 2, 7 and 6 as they apply', with f)'s numbers: the record that opens a
-- table file
abbrev pub opening_line : List ℕ
opening_line = frame_line ++ (1 ∷ 2 ∷ 7 ∷ [])

-- a record behind it, by whether it is the end: its number of rows and then bytes after it; of a row its start and then its cells
abbrev pub behind_line : Bool → List ℕ
behind_line true = frame_line ++ (21 ∷ 21 ∷ [])
behind_line false = frame_line ++ (21 ∷ 6 ∷ [])

-- the records from row r on, so many rows being left, and the one behind the last row
abbrev pub rows_line : List ℕ → ℕ → ℕ → ℕ → List ℕ
rows_line file T zero r = behind_line (eqb (kind_at file (row_place T r)) end_kind)
rows_line file T (suc left) r = behind_line (eqb (kind_at file (row_place T r)) end_kind) ++ rows_line file T left (suc r)

-- 'after the whole file 3 for the lent table'
abbrev pub table_line : List ℕ → List ℕ
table_line file = (opening_line ++ rows_line file (head_in file).members (rows_of (head_in file)) 0) ++ (3 ∷ [])

-- document 02 e), 'the reader, after the list, gives 16 at the first record after which no such file is possible', with f)'s numbers: behind the frame of
-- a record, by whether it is the finish, which has its number and then bytes after it; a layer has its height, and its cure time's frame and bytes
abbrev pub after_frame : Bool → List ℕ → List ℕ
after_frame true rest = 21 ∷ 21 ∷ []
after_frame false rest = 21 ∷ (frame_line ++ (21 ∷ rest))

-- the records behind so many layers, of at most so many more; and then the end of the file
abbrev pub order_line : List ℕ → ℕ → ℕ → List ℕ
order_line file zero layers = 16 ∷ []
order_line file (suc left) layers = frame_line ++ after_frame (finishes file layers) (order_line file left (layers + 1))

pub record Orders : Type 0 where
  pub clear : (N T : ℕ) (table : List ℕ) → CallByLine (clearing N T table) (1 ∷ 2 ∷ 3 ∷ [])
  pub add : (held : Held) (column : Column) → CallByLine (adding held column) (1 ∷ 2 ∷ 3 ∷ 7 ∷ 4 ∷ 5 ∷ 6 ∷ [])
  pub join : (held other : Held) → CallByLine (joining held other) (1 ∷ 2 ∷ 1 ∷ 2 ∷ 8 ∷ 3 ∷ 3 ∷ 7 ∷ 6 ∷ 6 ∷ [])
  pub take : (held other : Held) → CallByLine (taking held other) (1 ∷ 2 ∷ 1 ∷ 2 ∷ 8 ∷ 3 ∷ 3 ∷ 7 ∷ 6 ∷ 6 ∷ 9 ∷ 9 ∷ [])
  pub plan : (held : Held) (bound : ℕ) (lent : Sheets) → CallByLine (planning held bound lent) (1 ∷ 2 ∷ 3 ∷ 3 ∷ 3 ∷ 3 ∷ 7 ∷ 6 ∷ [])
  pub read_back : (N T : ℕ) (errors thicknesses : List ℕ) (n : ℕ) (out : List ℤ)
      → CallByLine (reading N T errors thicknesses n out) (1 ∷ 2 ∷ 3 ∷ 3 ∷ 10 ∷ 3 ∷ 11 ∷ 12 ∷ [])
  pub recount : (held : Held) (bound : ℕ) (zs : List ℤ) → CallByLine (recounting held bound zs) (1 ∷ 2 ∷ 3 ∷ 7 ∷ 6 ∷ 13 ∷ 13 ∷ [])
  pub picture : (N T : ℕ) (bs : List ℕ) (z : ℤ) (t : ℕ)
      → ByLine (picture_answer N T bs z t) (picture_checks N T bs z t) (judgement bs z t) (1 ∷ 2 ∷ 4 ∷ 5 ∷ 13 ∷ 13 ∷ [])
  pub motor : (s : ℕ) (z : ℤ) → ByLine (height_answer s z) (height_checks s z) (over (z *ℤ pos s) 8) (14 ∷ 15 ∷ [])
  pub read-record : (s : List ℕ) (st : State) (at : ℕ)
      → ByLine (read_record s st at).told (record_checks s st at) (reading_at s st at).what (record_line st.ended (record_kind s at))
  pub write-job : (N T bound : ℕ) (run counts out : List ℕ) → CallByLine (writing N T bound run counts out) (1 ∷ 2 ∷ 7 ∷ 4 ∷ 3 ∷ 5 ∷ 3 ∷ [])
  pub job-size : (counts : List ℕ) → ByLine (size_answer counts) (count_checks counts) (file_size counts) (7 ∷ 4 ∷ [])
  pub read-file : (lent : List ℕ) (file : Told Job) → CallByLine (loading lent file) (file_line file)
  pub write-table : (held : Held) (out : List ℕ) → CallByLine (sending held out) (1 ∷ 2 ∷ 3 ∷ 7 ∷ 6 ∷ 3 ∷ [])
  pub read_table : (file lent : List ℕ) → CallByLine (receiving file lent) (table_line file)
  pub write-orders : (N T step : ℕ) (cures : List ℕ) (zs : List ℤ) (out : List ℕ) → CallByLine (writing_orders N T step cures zs out) (1 ∷ 2 ∷ 14 ∷ 3 ∷ 13 ∷ 13 ∷ 18 ∷ 3 ∷ [])
  pub read-order : (N T step : ℕ) (cures file : List ℕ) (number : ℕ) → CallByLine (reading_order N T step cures file number) (1 ∷ 2 ∷ 14 ∷ 3 ∷ order_line file (length file) 0)
