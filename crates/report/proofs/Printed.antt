-- The text as it is worked out is document 01's: a file that is not refused is a plate's table; the table is planned, since its sheets fit;
-- and each count's line is that of the sequence found, or `none`, by demand 2. Assumes nothing.
use mathlib.Core.Path.{◌≡◌, refl, sym, ap, ap₂, ◌∙◌}
use mathlib.Core.Logic.{inl, inr}
use mathlib.Core.Bool.{Bool, true, false}
use mathlib.Core.List.{List, ◌++◌}
use Prim.Native.Nat.{ℕ, zero, suc, ◌+◌, ◌≤◌, ◌<◌}
use native.Mathlib.Nat.{mul-le-mul}
use native.Mathlib.Omega.{arith}
use borrow.Author.Tests.{ltb-true, ltb-false}
use lib.Dec.{ltb}
use lib.IntN.{ℤ, pos}
use lib.ListN.{length, take, length-replicate}
use Rattle.paper.specs.Layer as paper
use Rattle.paper.specs.Layer.{Plate, of_columns}
use Rattle.paper.specs.Table.{rows}
use Rattle.paper.specs.Sequence.{M, error}
use Rattle.paper.specs.Sheets.{entries}
use Rattle.paper.proofs.Counts.{counts-rows}
use Rattle.plate.specs.Refusal.{Told, done, refused}
use Rattle.plate.specs.Settings.{Sound, settings_of}
use Rattle.plate.proofs.Sizes.{sound}
use Rattle.plate.specs.Call.{left_by}
use Rattle.plate.specs.Head.{Held, held_in}
use Rattle.record.specs.Bytes.{Bytes}
use Rattle.job.specs.File.{Job}
use Rattle.load.specs.Load.{job_of, Fitting, load_of, loading, load_table}
use Rattle.load.specs.declared.Load.{Load}
use Rattle.load.proofs.Whole.{fitting}
use Rattle.table.specs.Table.{Bounded}
use Rattle.plan.specs.Plan.{Sheets, planning}
use Rattle.meaning.specs.Working.{found}
use Rattle.meaning.proofs.Choice.{length-count, found-exact, found_none}
use Rattle.promises.specs.Plans.{Room, Answers}
use Rattle.promises.specs.Files.{FileRead}
use Rattle.promises.proofs.Tables.{tabulated-bounds}
use Rattle.promises.proofs.Demands.{plan-done, demand-2, answers-columns, take-front}
use Rattle.promises.proofs.Files.{file-tabulated}
use Rattle.report.specs.Lines.{most, sequence_line, count_line, count_lines, head_line, job_text, plate_text}
use Rattle.report.specs.Work.{blank_table, blank_sheets, blank_sequence, read_line, sheet_line, sheets_text, planned_by, planned_text, loaded_by, file_text}

-- ---- lines that are the same

lines_same : (f g : ℕ → List ℕ) (n k : ℕ) → ((m : ℕ) → n < m → m ≤ n + k → f m ≡ g m) → count_lines f n k ≡ count_lines g n k
unfolding count_lines
lines_same f g n zero e = refl
lines_same f g n (suc k) e = ap₂ ◌++◌ (e (suc n) (omega arith) (omega arith)) (lines_same f g (suc n) k (λ m l u. e m (omega arith) (omega arith)))

-- ---- a count's line, by what reading it back tells

line-is : (p : Plate) (bound n : ℕ) → 1 ≤ n → (answer : Told ℕ) (old out : List ℤ) → Answers p bound n answer old out
    → read_line n answer out ≡ count_line p n (found p bound n)
line-is p bound n low answer old out (inl a) =
    let zs = a.0 in
    let l : length zs ≡ n + 1 = (let s = length-count n zs low a.1.counts in omega arith) in
    let t : take (n + 1) out ≡ zs = ap₂ take (sym l) a.3 ∙ take-front zs _ in
    ap (λ (x : Told ℕ). read_line n x out) a.2
    ∙ ap (sequence_line n (error p zs)) t
    ∙ ap (count_line p n) (sym ((found-exact p bound n low zs).0 a.1))
line-is p bound n low answer old out (inr a) =
    ap (λ (x : Told ℕ). read_line n x out) a.1 ∙ ap (count_line p n) (sym ((found_none p bound n low).1 a.0))

-- ---- sheets that fit have few counts

pub few-counts : (N T : ℕ) → paper.Settings N T → entries N T ≤ most → M N T ≤ 63
few-counts N T s e = go (ltb 63 (M N T)) refl
  where
    k : Sound (settings_of N T)
    k = sound N T s

    go : (b : Bool) → ltb 63 (M N T) ≡ b → M N T ≤ 63
    go false f = ltb-false 63 (M N T) f
    go true f =
        let l = ltb-true 63 (M N T) f in
        let d = counts-rows N T s.least-height s.some-thickness in
        let m = mul-le-mul {n₁ = 65} {m₁ = 65} {n₂ = rows N T + 1} {m₂ = M N T + 1} (omega arith) (omega arith) in
        absurd (omega (arith, k.entries-are, m, e))

module _ (s : List ℕ) (byte : Bytes s) (job : Job) (is : job_of most s ≡ done job) where
  abbrev N : ℕ
  N = job.asked.height

  abbrev T : ℕ
  T = job.asked.members

  abbrev plate : Plate
  plate = of_columns N T job.columns

  abbrev table : List ℕ
  table = load_table blank_table (job_of most s)

  fits : Fitting most job
  fits = fitting most s byte job is

  read : FileRead most s job blank_table
  read = file-tabulated job blank_table (omega (arith, fits.few-cells, length-replicate {A = ℕ} most 0)) most s byte is

  abbrev held : Held
  held = held_in (load_of job).head table

  bounds : Bounded held
  bounds = (tabulated-bounds N T job.columns held read.few (record { table = read.table; goes = refl })).bounds

  room : Room N T blank_sheets
  room = record {
    errors = omega (arith, fits.few-entries, length-replicate {A = ℕ} most 0);
    thicknesses = omega (arith, fits.few-entries, length-replicate {A = ℕ} most 0);
    leasts = omega (arith, few-counts N T read.settings fits.few-entries, length-replicate {A = ℕ} 63 0);
  }

  abbrev left : Sheets
  left = left_by (planning held job.asked.bound blank_sheets)

  lines : (n : ℕ) → 0 < n → n ≤ M N T → sheet_line N T left.errors left.thicknesses blank_sequence n ≡ count_line plate n (found plate job.asked.bound n)
  unfolding sheet_line
  lines n low high =
      line-is plate job.asked.bound n low _ blank_sequence _
      (answers-columns N T job.columns table read.table job.asked.bound n _ blank_sequence _
      (demand-2 held read.settings bounds job.asked.bound blank_sheets fits.ordered.low-bound room n low high blank_sequence
      (omega (arith, few-counts N T read.settings fits.few-entries, length-replicate {A = ℤ} 64 (pos 0)))))

  planned : planned_text (load_of job) table blank_sheets ≡ plate_text N T job.asked.bound job.columns
  unfolding planned_text sheets_text
  planned =
      ap (λ (x : Told ℕ). planned_by (load_of job).head x left) (plan-done held read.settings bounds job.asked.bound blank_sheets room)
      ∙ ap (λ (t : List ℕ). head_line N (length job.columns) (M N T) ++ t) (lines_same _ _ 0 (M N T) (λ n low high. lines n low (omega arith)))

  job-printed : file_text (job_of most s) blank_table ≡ job_text (job_of most s)
  unfolding file_text
  job-printed = ap (λ (x : Told Load). loaded_by x table) read.answer ∙ planned ∙ ap job_text (sym is)

-- WHAT IS PRINTED for a file of bytes
pub printed : (s : List ℕ) → Bytes s → file_text (job_of most s) blank_table ≡ job_text (job_of most s)
unfolding file_text loading
printed s byte = go (job_of most s) refl
  where
    go : (file : Told Job) → job_of most s ≡ file → file_text (job_of most s) blank_table ≡ job_text (job_of most s)
    go (done job) e = job-printed s byte job e
    go (refused number place) e = ap (λ (x : Told Job). file_text x blank_table) e ∙ ap job_text (sym e)
