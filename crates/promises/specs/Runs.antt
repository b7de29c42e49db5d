-- Runs of calls on tables, by the calls' own definitions: each call answers and leaves a buffer, and a refusal ends the run. Assumes nothing.
use Rattle.std.specs.Prelude.{ℕ, ◌+◌, ◌≤◌, ◌<◌, ◌≡◌, List, [], ◌∷◌, ◌++◌, length, get_or}
use Rattle.paper.specs.Layer.{Column, IsColumn, of_columns}
use Rattle.paper.specs.Table.{cells, Table}
use Rattle.meaning.specs.Working.{cell_sum}
use Rattle.plate.specs.Refusal.{Told, done, refused}
use Rattle.plate.specs.Call.{Call, answer_of, left_by}
use Rattle.plate.specs.Head.{Held, held_in, head_of}
use Rattle.plate.specs.declared.head.Head.{Head}
use Rattle.table.specs.Table.{Bounded, clearing}
use Rattle.adding.specs.Adding.{adding}
use Rattle.joining.specs.Joining.{joining, taking}

-- a call on a table: the table that it leaves and what goes with it, or its refusal
abbrev pub holds : Told Head → List ℕ → Told Held
holds (done head) buffer = done (held_in head buffer)
holds (refused number place) buffer = refused number place

abbrev pub runs : Call Head (List ℕ) → Told Held
runs call = holds (answer_of call) (left_by call)

-- the next call, where the run was not refused
abbrev pub next : Told Held → (Held → Told Held) → Told Held
next (done held) call = call held
next (refused number place) call = refused number place

abbrev pub clear : ℕ → ℕ → List ℕ → Told Held
clear N T lent = runs (clearing N T lent)

abbrev pub add : Held → Column → Told Held
add held column = runs (adding held column)

abbrev pub join : Held → Held → Told Held
join held other = runs (joining held other)

abbrev pub take : Held → Held → Told Held
take held other = runs (taking held other)

-- columns added one by one, the first of the list first
abbrev pub add_all : List Column → Told Held → Told Held
add_all [] run = run
add_all (column ∷ columns) run = add_all columns (next run (λ h. add h column))

-- a lent buffer is cleared, and columns are added
abbrev pub tabulate : ℕ → ℕ → List Column → List ℕ → Told Held
tabulate N T columns lent = add_all columns (clear N T lent)

-- groups of columns, each with a buffer lent for it, joined in an order and a bracketing
pub record Group : Type 0 where
  pub columns : List Column
  pub lent : List ℕ

pub data Joins (A : Type 0) : Type 0 where
  one : A → Joins A
  both : Joins A → Joins A → Joins A

abbrev pub columns_of : Joins Group → List Column
columns_of (one g) = g.columns
columns_of (both a b) = columns_of a ++ columns_of b

abbrev pub join_all : ℕ → ℕ → Joins Group → Told Held
join_all N T (one g) = tabulate N T g.columns g.lent
join_all N T (both a b) = next (join_all N T a) (λ h. next (join_all N T b) (λ k. join h k))

-- each group's buffer is long enough
abbrev pub LentEnough : ℕ → ℕ → Joins Group → Type 0
LentEnough N T (one g) = cells N T ≤ length g.lent
LentEnough N T (both a b) = LentEnough N T a × LentEnough N T b

-- every one of the columns is a column
abbrev pub Columns : ℕ → List Column → Type 0
Columns N [] = Unit {0}
Columns N (column ∷ columns) = IsColumn N column × Columns N columns

-- the run was not refused, and holds the table of these columns and what goes with it
pub record Tabulated (N T : ℕ) (columns : List Column) (h : Held) : Type 0 where
  pub table : Table (of_columns N T columns) h.buffer
  pub goes : h.head ≡ head_of N T columns

pub record Tabulates (N T : ℕ) (columns : List Column) (run : Told Held) : Type 0 where
  pub held : Held
  pub is : run ≡ done held
  pub right : Tabulated N T columns held

-- ---- tables that no columns need give, joined in an order and a bracketing

-- a table of these settings, in bounds for what goes with it
pub record TableOf (N T : ℕ) (h : Held) : Type 0 where
  pub height : h.head.height ≡ N
  pub members : h.head.members ≡ T
  pub bounds : Bounded h

abbrev pub join_held : Joins Held → Told Held
join_held (one h) = done h
join_held (both a b) = next (join_held a) (λ h. next (join_held b) (λ k. join h k))

abbrev pub buffers_of : Joins Held → List (List ℕ)
buffers_of (one h) = h.buffer ∷ []
buffers_of (both a b) = buffers_of a ++ buffers_of b

abbrev pub count_of : Joins Held → ℕ
count_of (one h) = h.head.columns
count_of (both a b) = count_of a + count_of b

-- each of the tables is one of these settings, in bounds for its own count
abbrev pub TablesOf : ℕ → ℕ → Joins Held → Type 0
TablesOf N T (one h) = TableOf N T h
TablesOf N T (both a b) = TablesOf N T a × TablesOf N T b

-- the run was not refused, and holds the sums of the cells and of the counts, in bounds
pub record Joined (N T : ℕ) (j : Joins Held) (run : Told Held) : Type 0 where
  pub held : Held
  pub is : run ≡ done held
  pub counted : held.head.columns ≡ count_of j
  pub right : TableOf N T held
  pub sums : (i : ℕ) → i < cells N T → get_or held.buffer i 0 ≡ cell_sum (buffers_of j) i
