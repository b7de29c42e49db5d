-- Demand 2 over a table that is held, whoever filled it: the plan is done, and each count is read back as document 01 says. In the words of the
-- columns where the table is theirs, since a plate and the plate of its table have the same choice. Assumes nothing.
use mathlib.Core.Path.{◌≡◌, refl, sym, ap, ap₂, ◌∙◌, subst}
use mathlib.Core.Logic.{inl, inr}
use mathlib.Core.List.{List, [], ◌∷◌, ◌++◌}
use mathlib.Core.Option.{none}
use Prim.Native.Nat.{ℕ, ◌+◌, ◌≤◌, ◌<◌}
use native.Mathlib.Omega.{arith}
use borrow.Author.Tests.{le-ltb}
use lib.IntN.{ℤ}
use lib.ListN.{length, take}
use Rattle.lists.specs.Checks.{first}
use Rattle.lists.proofs.Checks.{first-passed}
use Rattle.paper.specs.Limits.{largest_bound}
use Rattle.paper.specs.Layer as paper
use Rattle.paper.specs.Layer.{Column, of_columns}
use Rattle.paper.specs.Table.{cells, Table, cell_at, of_table}
use Rattle.paper.specs.Sequence.{M, None}
use Rattle.paper.specs.Sheets.{entries}
use Rattle.paper.specs.Groups.{part}
use Rattle.plate.specs.Call.{answer_of, left_by}
use Rattle.plate.specs.Head.{Held, head_checks}
use Rattle.plate.specs.Refusal.{Told, done, refused}
use Rattle.plate.proofs.Calls.{passes}
use Rattle.column.proofs.Fine.{settings-fine}
use Rattle.table.specs.Table.{short, Bounded}
use Rattle.table.proofs.Passed.{bounds-fine}
use Rattle.plan.specs.Plan.{Sheets, plan_rest, planned, planning}
use Rattle.recount.specs.Recount.{recounting}
use Rattle.meaning.specs.Working.{Agree}
use Rattle.meaning.proofs.Choice.{length-count}
use Rattle.meaning.proofs.Table.{table-agrees}
use Rattle.meaning.proofs.Usable.{agree-back, same_chosen, same_none, same-error}
use Rattle.promises.specs.Plans.{plate_of, SettingsOf, Room, Answers, ReadsBack}
use Rattle.promises.proofs.Plans.{plan-reads}
use Rattle.promises.proofs.Recounts.{recounts}

pub take-front : (xs ys : List ℤ) → take (length xs) (xs ++ ys) ≡ xs
take-front [] ys = refl
take-front (x ∷ xs) ys = ap (λ (l : List ℤ). x ∷ l) (take-front xs ys)

module _ (held : Held) (settings : SettingsOf held) (b : Bounded held) where
  abbrev N : ℕ
  N = held.head.height

  abbrev T : ℕ
  T = held.head.members

  plan-fine : (bound : ℕ) (lent : Sheets) → Room N T lent → first (planning held bound lent).checks ≡ none
  unfolding planning plan_rest short
  plan-fine bound lent r =
      first-passed (head_checks held.head) (plan_rest held (length lent.errors) (length lent.thicknesses) (length lent.leasts)) (settings-fine N T settings)
      ∙ simp
      (le-ltb (length held.buffer) (cells N T) b.size, le-ltb (length lent.errors) (entries N T) r.errors, le-ltb (length lent.thicknesses) (entries N T) r.thicknesses, le-ltb (length lent.leasts) (M N T) r.leasts, bounds-fine held b)

  -- the plan is done, and M is its answer
  pub plan-done : (bound : ℕ) (lent : Sheets) → Room N T lent → answer_of (planning held bound lent) ≡ done (M N T)
  unfolding planning
  plan-done bound lent r = (passes (planning held bound lent) (plan-fine bound lent r)).0

  pub plan-leaves : (bound : ℕ) (lent : Sheets) → Room N T lent → left_by (planning held bound lent) ≡ planned N T bound held.buffer lent
  unfolding planning
  plan-leaves bound lent r = (passes (planning held bound lent) (plan-fine bound lent r)).1

  -- DEMAND 2, for every table in bounds: after a plan, reading back a count from 1 to M answers the chosen sequence and its error, or 11
  -- exactly when no admissible sequence has that count, and never 12
  pub demand-2 : (bound : ℕ) (lent : Sheets) → bound ≤ largest_bound → Room N T lent → (n : ℕ) → 1 ≤ n → n ≤ M N T → (out : List ℤ) → n < length out
      → ReadsBack (plate_of held) bound n (left_by (planning held bound lent)) out
  demand-2 bound lent small r n low high out room =
      subst (λ (s : Sheets). ReadsBack (plate_of held) bound n s out) (sym (plan-leaves bound lent r))
      (plan-reads N T bound settings small held.buffer lent r n low high out room)

  -- recounting what was read back gives that error
  pub read-recounted : (bound n e : ℕ) (old out : List ℤ) → 1 ≤ n → Answers (plate_of held) bound n (done e) old out
      → answer_of (recounting held bound (take (n + 1) out)) ≡ done e
  read-recounted bound n e old out low (inr a) = absurd (let q = a.1 in let z : ◌≡◌ {A = ℕ} 0 1 = cc in omega arith)
  read-recounted bound n e old out low (inl a) =
      let s = length-count n a.0 low a.1.counts in
      let l : length a.0 ≡ n + 1 = omega arith in
      let t : take (n + 1) out ≡ a.0 = ap₂ take (sym l) a.3 ∙ take-front a.0 _ in
      ap (λ (zs : List ℤ). answer_of (recounting held bound zs)) t
      ∙ recounts held settings b bound a.0 a.1.admissible
      ∙ sym a.2

-- ---- on another plate whose errors agree

pub answers_agree : (p : paper.Plate) (other : ℤ → ℕ → ℕ) → Agree p other → (bound n : ℕ) (answer : Told ℕ) (old out : List ℤ)
    → Answers p bound n answer old out → Answers (part p other) bound n answer old out
answers_agree p other agree bound n answer old out (inl a) =
    inl (a.0, same_chosen p other agree bound n a.0 a.1, a.2 ∙ ap done (same-error p other agree bound a.0 a.1.admissible), a.3)
answers_agree p other agree bound n answer old out (inr a) = inr (same_none p other agree bound n a.0, a.1, a.2)

-- the plate of a table and the plate's columns
pub columns-agree : (N T : ℕ) (columns : List Column) (table : List ℕ) → Table (of_columns N T columns) table → Agree (of_table N T table) (paper.shares columns)
columns-agree N T columns table t = agree-back (of_columns N T columns) (cell_at T table) (table-agrees (of_columns N T columns) table t)

-- the same in the words of the plate's columns, where the table is theirs
pub answers-columns : (N T : ℕ) (columns : List Column) (table : List ℕ) → Table (of_columns N T columns) table → (bound n : ℕ) (answer : Told ℕ) (old out : List ℤ)
    → Answers (of_table N T table) bound n answer old out → Answers (of_columns N T columns) bound n answer old out
answers-columns N T columns table t bound n answer old out a =
    answers_agree (of_table N T table) (paper.shares columns) (columns-agree N T columns table t) bound n answer old out a

-- what an answer of that kind tells: 12 is never given, and 11 exactly when no admissible sequence has that count
pub never-12 : (p : paper.Plate) (bound n : ℕ) (answer : Told ℕ) (old out : List ℤ) → Answers p bound n answer old out → (layer : ℕ) → answer ≡ refused 12 layer → ⊥
never-12 p bound n answer old out (inl a) layer e = let q = sym a.2 ∙ e in let z : ◌≡◌ {A = ℕ} 0 1 = cc in omega arith
never-12 p bound n answer old out (inr a) layer e = let q = sym a.1 ∙ e in let z : ◌≡◌ {A = ℕ} 11 12 = cc in omega arith

pub only-11 : (p : paper.Plate) (bound n : ℕ) (answer : Told ℕ) (old out : List ℤ) → Answers p bound n answer old out → answer ≡ refused 11 0 → None p bound n
only-11 p bound n answer old out (inl a) e = absurd (let q = sym a.2 ∙ e in let z : ◌≡◌ {A = ℕ} 0 1 = cc in omega arith)
only-11 p bound n answer old out (inr a) e = a.0
