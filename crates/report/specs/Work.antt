-- The text as it is worked out: from the sheets that a plan left, the plan from a table, the table from a file. Each is told for any input, so
-- that no step asks for more than the calls below it do. Assumes nothing.
use Rattle.std.specs.Prelude.{ℕ, ◌+◌, List, ◌++◌, ℤ, pos, take, replicate}
use Rattle.plate.specs.Refusal.{Told, done, refused}
use Rattle.plate.specs.Call.{answer_of, left_by}
use Rattle.plate.specs.Head.{held_in}
use Rattle.plate.specs.declared.head.Head.{Head}
use Rattle.job.specs.File.{Job}
use Rattle.load.specs.Load.{load_answer, load_table}
use Rattle.load.specs.declared.Load.{Load}
use Rattle.plan.specs.Plan.{Sheets, sheets_of, planning}
use Rattle.readback.specs.Reading.{reading}
use Rattle.report.specs.Lines.{most, refused_line, head_line, none_line, sequence_line, count_lines}

-- the buffers of the program: a table, two sheets, a list and a sequence
abbrev pub blank_table : List ℕ
blank_table = replicate most 0

abbrev pub blank_sheets : Sheets
blank_sheets = sheets_of (replicate most 0) (replicate most 0) (replicate 63 0)

abbrev pub blank_sequence : List ℤ
blank_sequence = replicate 64 (pos 0)

-- the line of a count by what reading it back answers and leaves
abbrev pub read_line : ℕ → Told ℕ → List ℤ → List ℕ
read_line n (done e) out = sequence_line n e (take (n + 1) out)
read_line n (refused number place) out = none_line n

unfoldable pub sheet_line : ℕ → ℕ → List ℕ → List ℕ → List ℤ → ℕ → List ℕ
sheet_line N T errors thicknesses old n = read_line n (answer_of (reading N T errors thicknesses n old)) (left_by (reading N T errors thicknesses n old))

-- the plate's lines from its sheets
unfoldable pub sheets_text : Head → ℕ → List ℕ → List ℕ → List ℕ
sheets_text head counts errors thicknesses =
    head_line head.height head.columns counts ++ count_lines (sheet_line head.height head.members errors thicknesses blank_sequence) 0 counts

-- a job whose table was read
abbrev pub planned_by : Head → Told ℕ → Sheets → List ℕ
planned_by head (done counts) left = sheets_text head counts left.errors left.thicknesses
planned_by head (refused number place) left = refused_line number place

unfoldable pub planned_text : Load → List ℕ → Sheets → List ℕ
planned_text l table lent =
    planned_by l.head (answer_of (planning (held_in l.head table) l.bound lent)) (left_by (planning (held_in l.head table) l.bound lent))

-- a file that is read into a table
abbrev pub loaded_by : Told Load → List ℕ → List ℕ
loaded_by (done l) table = planned_text l table blank_sheets
loaded_by (refused number place) table = refused_line number place

unfoldable pub file_text : Told Job → List ℕ → List ℕ
file_text file lent = loaded_by (load_answer lent file) (load_table lent file)
