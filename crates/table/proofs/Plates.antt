-- The table of a plate's columns. A share is at most half of its layer, so the table is in bounds for the number of columns; clearing
-- leaves the table of no column. Assumes nothing.
use mathlib.Core.Path.{◌≡◌, refl, ap, fun_ext}
use mathlib.Core.Bool.{Bool, true, false, cond}
use mathlib.Core.List.{List, []}
use Prim.Native.Nat.{ℕ, ◌*◌, ◌/◌, ◌≤◌, ◌<◌}
use native.Mathlib.Omega.{arith}
use lib.ListN.{length, get_or}
use Rattle.lists.specs.Rewrite.{rewritten}
use Rattle.lists.proofs.Rewrite.{rewritten-at, rewritten-past, rewritten-twice, length-rewritten}
use Rattle.paper.specs.Layer.{Column, allowed, shares, of_columns}
use Rattle.paper.specs.Table.{cells, start_at, thickness_at, cell_of, limit, Table}
use Rattle.paper.proofs.Shares.{shares-le}
use Rattle.table.specs.Table.{cleared}
use Rattle.table.specs.Plates.{table_of}

pub cell-limit : (T : ℕ) (columns : List Column) (i : ℕ) → cell_of T (shares columns) i ≤ limit T (length columns) (thickness_at T i)
unfolding cell_of limit
cell-limit T columns i = go (allowed T (thickness_at T i))
  where
    go : (b : Bool) → cond b (shares columns (start_at T i) (thickness_at T i)) 0 ≤ cond b (length columns * (thickness_at T i / 2)) 0
    go true = shares-le columns (start_at T i) (thickness_at T i)
    go false = omega arith

cell-none : (T i : ℕ) → 0 ≡ cell_of T (shares []) i
unfolding cell_of
cell-none T i = go (allowed T (thickness_at T i))
  where
    go : (b : Bool) → ◌≡◌ {A = ℕ} 0 (cond b 0 0)
    go true = refl
    go false = refl

module _ (N T : ℕ) where
  pub cleared-is : (old : List ℕ) → cleared N T old ≡ table_of N T [] old
  unfolding cleared table_of
  cleared-is old = ap (λ (g : ℕ → ℕ → ℕ). rewritten g (cells N T) old) (fun_ext (λ i. fun_ext (λ x. cell-none T i)))

  module _ (columns : List Column) where
    pub length-table : (old : List ℕ) → length (table_of N T columns old) ≡ length old
    unfolding table_of
    length-table old = length-rewritten (λ i x. cell_of T (shares columns) i) (cells N T) old

    -- what stands past it stays
    pub table-past : (old : List ℕ) (i : ℕ) → cells N T ≤ i → get_or (table_of N T columns old) i 0 ≡ get_or old i 0
    unfolding table_of
    table-past old i l = rewritten-past (λ i x. cell_of T (shares columns) i) (cells N T) old i 0 l

    -- what stood in its place before does not matter
    pub table-again : (before : List Column) (old : List ℕ) → table_of N T columns (table_of N T before old) ≡ table_of N T columns old
    unfolding table_of
    table-again before old = rewritten-twice (λ i x. cell_of T (shares before) i) (λ i x. cell_of T (shares columns) i) (cells N T) old

    module _ (old : List ℕ) (room : cells N T ≤ length old) where
      pub table_at : (i : ℕ) → i < cells N T → get_or (table_of N T columns old) i 0 ≡ cell_of T (shares columns) i
      unfolding table_of
      table_at i l = rewritten-at (λ i x. cell_of T (shares columns) i) (cells N T) old i 0 l (omega arith)

      -- it is the plate's table
      pub table_is : Table (of_columns N T columns) (table_of N T columns old)
      table_is = record { size = omega (arith, length-table old); holds = table_at }
