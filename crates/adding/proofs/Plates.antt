-- A column added to the table of a plate's columns leaves the table with that column more, and is never refused within the limit.
-- Assumes nothing.
use mathlib.Core.Path.{◌≡◌, refl, ap, ◌∙◌, fun_ext}
use mathlib.Core.Bool.{Bool, true, false, cond}
use mathlib.Core.List.{List, [], ◌∷◌, ◌++◌}
use mathlib.Core.Option.{none}
use Prim.Native.Nat.{ℕ, ◌+◌, ◌≤◌, ◌<◌}
use native.Mathlib.Omega.{arith}
use borrow.Author.Tests.{le-ltb}
use lib.ListN.{length}
use Rattle.lists.specs.Checks.{first}
use Rattle.lists.specs.Rewrite.{rewritten}
use Rattle.lists.proofs.Checks.{first-passed}
use Rattle.lists.proofs.Rewrite.{rewritten-twice}
use Rattle.paper.specs.Limits.{most_columns}
use Rattle.paper.specs.Layer.{Column, allowed, share, shares}
use Rattle.paper.specs.Table.{cells, start_at, thickness_at, cell_of}
use Rattle.paper.proofs.Shares.{shares-last}
use Rattle.plate.specs.Head.{head_of, limit_of}
use Rattle.plate.specs.Settings.{settings_checks}
use Rattle.plate.proofs.Heads.{few-not-full}
use Rattle.column.specs.Order.{column_checks}
use Rattle.table.specs.Table.{short}
use Rattle.table.specs.Plates.{table_of, plate_held}
use Rattle.table.proofs.Plates.{cell-limit, length-table, table_at}
use Rattle.adding.specs.Adding.{addend, first_overfull, overfull_cell, add_rest, added, adding}
use Rattle.adding.proofs.Passed.{overfull-fine}

cell-last : (T : ℕ) (columns : List Column) (column : Column) (i : ℕ)
    → cell_of T (shares columns) i + addend T column i ≡ cell_of T (shares (columns ++ (column ∷ []))) i
unfolding cell_of addend
cell-last T columns column i = go (allowed T (thickness_at T i))
  where
    go : (b : Bool) → cond b (shares columns (start_at T i) (thickness_at T i)) 0 + cond b (share column.boundaries (start_at T i) (thickness_at T i)) 0
        ≡ cond b (shares (columns ++ (column ∷ [])) (start_at T i) (thickness_at T i)) 0
    go true = let e = shares-last columns column (start_at T i) (thickness_at T i) in omega arith
    go false = refl

module _ (N T : ℕ) (columns : List Column) (column : Column) (old : List ℕ) where
  pub added_is : added (plate_held N T columns old) column ≡ table_of N T (columns ++ (column ∷ [])) old
  unfolding added table_of
  added_is =
      rewritten-twice (λ i x. cell_of T (shares columns) i) (λ i x. x + addend T column i) (cells N T) old
      ∙ ap (λ (g : ℕ → ℕ → ℕ). rewritten g (cells N T) old) (fun_ext (λ i. fun_ext (λ x. cell-last T columns column i)))

  module _ (room : cells N T ≤ length old) (fine : first (settings_checks N T) ≡ none) (order : first (column_checks N column.boundaries) ≡ none) (few : length columns < most_columns) where
    in_bounds : first_overfull (plate_held N T columns old) column ≡ cells N T
    unfolding limit_of
    in_bounds = overfull-fine (plate_held N T columns old) column (λ i l. let h = table_at N T columns old room i l in let u = cell-limit T columns i in omega arith)

    rest-passes : first (add_rest (plate_held N T columns old) column) ≡ none
    unfolding add_rest short overfull_cell
    rest-passes =
        let l : cells N T ≤ length (table_of N T columns old) = omega (arith, length-table N T columns old) in
        simp (le-ltb _ _ l, few-not-full (head_of N T columns) few)
        (first-passed (column_checks N column.boundaries) (overfull_cell (plate_held N T columns old) column ∷ []) order
        ∙ simp (in_bounds, le-ltb (cells N T) (cells N T) (omega arith)))

    -- adding a column to it is never refused within the limit
    pub adds : first (adding (plate_held N T columns old) column).checks ≡ none
    unfolding adding
    adds = first-passed (settings_checks N T) (add_rest (plate_held N T columns old) column) fine ∙ rest-passes
