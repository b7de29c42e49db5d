-- Demand 2 as statements: what a plan that is done was handed, what it fills, and what reading back over the sheets that it left answers and
-- leaves. Assumes nothing.
use Rattle.std.specs.Prelude.{ℕ, ◌+◌, ◌-◌, ◌≤◌, ◌<◌, ◌≡◌, ◌⊎◌, ◌↔◌, List, ◌++◌, ℤ, pos, ◌-ℤ◌, length, get_or, drop}
use Rattle.paper.specs.Limits.{largest_bound}
use Rattle.paper.specs.Layer as paper
use Rattle.paper.specs.Layer.{Plate, tmax}
use Rattle.paper.specs.Table.{of_table}
use Rattle.paper.specs.Sequence.{count, Admissible, Chosen, None, error, M}
use Rattle.paper.specs.Sheets.{heights, entries, entry_index, missing, Entries}
use Rattle.paper.specs.Groups.{LeastError}
use Rattle.plate.specs.Call.{answer_of, left_by}
use Rattle.plate.specs.Head.{Held}
use Rattle.plate.specs.Refusal.{Told, done, refused}
use Rattle.table.specs.Table.{Bounded}
use Rattle.plan.specs.Plan.{Sheets, planning}
use Rattle.readback.specs.Reading.{reading}

-- ---- the bound

-- 'its largest value excludes nothing': whatever is admissible under some bound, however large, is so under this one
abbrev pub ExcludesNothing : Plate → Type 0
ExcludesNothing p = (bound : ℕ) (zs : List ℤ) → Admissible p bound zs → Admissible p largest_bound zs

-- ---- what a plan is handed

-- the plate of a table that is held
abbrev pub plate_of : Held → Plate
plate_of held = of_table held.head.height held.head.members held.buffer

abbrev pub SettingsOf : Held → Type 0
SettingsOf held = paper.Settings held.head.height held.head.members

-- buffers with room for what a plan fills
pub record Room (N T : ℕ) (lent : Sheets) : Type 0 where
  pub errors : entries N T ≤ length lent.errors
  pub thicknesses : entries N T ≤ length lent.thicknesses
  pub leasts : M N T ≤ length lent.leasts

-- a plan that answers m: settings and table are document 01's, each buffer has room, and m is the greatest count
pub record Accepted (held : Held) (lent : Sheets) (m : ℕ) : Type 0 where
  pub settings : SettingsOf held
  pub bounds : Bounded held
  pub room : Room held.head.height held.head.members lent
  pub counts : m ≡ M held.head.height held.head.members

-- ---- what a plan fills

-- the height of a row of a sheet: the lowest is -(tmax - 1)
abbrev pub row_height : ℕ → ℕ → ℤ
row_height T row = pos row -ℤ pos (tmax T - 1)

-- the least error of n layers; 2^64 - 1 where there is none
abbrev pub Listed : Plate → ℕ → ℕ → ℕ → Type 0
Listed p bound n e = LeastError p bound n e ⊎ (None p bound n × (e ≡ missing))

-- 'A plan fills, for each height from -(tmax-1) to N+tmax-1 (outer) and each count 0 to M (inner), the least error of that many layers ending
-- there, started as above and within the bound, and the last thickness of the chosen one. .. A list of M 64-bit errors for counts 1 to M
-- follows'
pub record Fills (p : Plate) (bound : ℕ) (sheets : Sheets) : Type 0 where
  pub entries : (row m : ℕ) → row < heights p.N p.T → m ≤ M p.N p.T
      → Entries p bound m (row_height p.T row) (get_or sheets.errors (entry_index (M p.N p.T) row m) 0)
      (get_or sheets.thicknesses (entry_index (M p.N p.T) row m) 0)
  pub list : (n : ℕ) → 1 ≤ n → n ≤ M p.N p.T → Listed p bound n (get_or sheets.leasts (n - 1) 0)

-- ---- reading back

-- a count: the chosen sequence and its error, or, exactly when no admissible sequence has that count, refusal 11 and the output as it was
abbrev pub Answers : Plate → ℕ → ℕ → Told ℕ → List ℤ → List ℤ → Type 0
Answers p bound n answer old out =
    ((zs : List ℤ) × Chosen p bound n zs × (answer ≡ done (error p zs)) × (out ≡ zs ++ drop (n + 1) old))
    ⊎ (None p bound n × (answer ≡ refused 11 0) × (out ≡ old))

-- what reading a count back from these sheets into a buffer answers
abbrev pub read_answer : Plate → Sheets → ℕ → List ℤ → Told ℕ
read_answer p sheets n out = answer_of (reading p.N p.T sheets.errors sheets.thicknesses n out)

-- and what it answers and leaves
abbrev pub ReadsBack : Plate → ℕ → ℕ → Sheets → List ℤ → Type 0
ReadsBack p bound n sheets out =
    Answers p bound n (read_answer p sheets n out) out (left_by (reading p.N p.T sheets.errors sheets.thicknesses n out))

-- an answer that is a refusal
abbrev pub Refused : Told ℕ → Type 0
Refused answer = (number : ℕ) × (place : ℕ) × (answer ≡ refused number place)

-- the counts of a plate, read back from these sheets
pub record ReadsCounts (p : Plate) (bound : ℕ) (sheets : Sheets) : Type 0 where
  -- 'For each layer count the sequence given is admissible, no admissible one of that count has less error, and among equals it is the one
  -- document 01 names'
  pub given : (n : ℕ) → 1 ≤ n → n ≤ M p.N p.T → (out : List ℤ) → n < length out → ReadsBack p bound n sheets out
  -- 'A count in range is refused exactly when no admissible sequence has it'
  pub exactly : (n : ℕ) → 1 ≤ n → n ≤ M p.N p.T → (out : List ℤ) → n < length out → Refused (read_answer p sheets n out) ↔ None p bound n
  -- by 11, 'no admissible sequence of that count'
  pub number : (n : ℕ) → 1 ≤ n → n ≤ M p.N p.T → (out : List ℤ) → n < length out → (read_answer p sheets n out ≡ refused 11 0) ↔ None p bound n
  -- 'over those 12 never occurs', whatever the count and the output
  pub readable : (n : ℕ) (out : List ℤ) (layer : ℕ) → read_answer p sheets n out ≡ refused 12 layer → ⊥
  -- and no count out of range has an admissible sequence
  pub range : (zs : List ℤ) → Admissible p bound zs → (1 ≤ count zs) × (count zs ≤ M p.N p.T)

-- ---- planned and read back

-- a table is planned: the greatest count is answered, the sheets and the list hold the plate's entries, and its counts are read back from them
pub record Plans (p : Plate) (held : Held) (bound : ℕ) (lent : Sheets) : Type 0 where
  pub answer : answer_of (planning held bound lent) ≡ done (M p.N p.T)
  pub fills : Fills p bound (left_by (planning held bound lent))
  pub reads : ReadsCounts p bound (left_by (planning held bound lent))

-- a table that is held, whoever filled it: a plan is done exactly where settings, table and buffers are document 01's, and wherever it was done
-- it planned the table's plate
pub record PlansTable (held : Held) (bound : ℕ) (lent : Sheets) : Type 0 where
  pub exactly : (m : ℕ) → (answer_of (planning held bound lent) ≡ done m) ↔ Accepted held lent m
  pub plans : (m : ℕ) → answer_of (planning held bound lent) ≡ done m → Plans (plate_of held) held bound lent
