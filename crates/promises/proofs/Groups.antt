-- Demand 3 on least errors, for columns dealt into groups and for any tables joined. The layers' errors of the whole are the sums of the
-- parts', by the laws on shares or by what the calls leave in each cell; the rest is `meaning`'s theorem on plates whose errors add up.
-- Assumes nothing.
use mathlib.Core.Path.{◌≡◌, refl, sym, ap, ap₂, ◌∙◌}
use mathlib.Core.List.{List, [], ◌∷◌, ◌++◌, map, flatten, Perm}
use Prim.Native.Nat.{ℕ, ◌+◌, ◌≤◌}
use native.Mathlib.Omega.{arith}
use lib.IntN.{ℤ}
use Rattle.paper.specs.Layer as paper
use Rattle.paper.specs.Limits.{most_columns}
use Rattle.paper.specs.Layer.{Column, shares, of_columns}
use Rattle.paper.specs.Table.{cell_at, of_table}
use Rattle.paper.specs.Sequence.{count, Admissible}
use Rattle.paper.specs.Groups.{AddUp}
use Rattle.plate.specs.Refusal.{Told}
use Rattle.plate.specs.Head.{Held, held_in}
use Rattle.plate.specs.Head as head
use Rattle.joining.specs.Joining.{joined}
use Rattle.meaning.specs.Working.{cell_sum}
use Rattle.meaning.proofs.Columns.{dealt-divided}
use Rattle.meaning.proofs.Groups.{adds-up}
use Rattle.meaning.proofs.Table.{tables-divided}
use Rattle.promises.specs.Runs.{next, join, Joins, one, both, join_held, buffers_of, count_of, TablesOf, Joined}
use Rattle.promises.proofs.Tables.{join-done, joined-cell, joined-bounds}

-- 'the groups' own least errors add up to no more than the plate's, and to exactly as much if and only if one sequence admissible for the
-- plate is least for every group', for a count that the plate can be built in
pub columns-add-up : (N T bound : ℕ) (columns : List Column) (groups : List (List Column)) → Perm (flatten groups) columns
    → (zs : List ℤ) → Admissible (of_columns N T columns) bound zs → AddUp (of_columns N T columns) bound (count zs) (map shares groups)
columns-add-up N T bound columns groups dealt zs a =
    adds-up (of_columns N T columns) (map shares groups) bound zs (dealt-divided N T columns groups dealt) a

sum-append : (xs ys : List (List ℕ)) (i : ℕ) → cell_sum (xs ++ ys) i ≡ cell_sum xs i + cell_sum ys i
sum-append [] ys i = omega arith
sum-append (x ∷ xs) ys i = let e = sum-append xs ys i in omega arith

module _ (N T : ℕ) (settings : paper.Settings N T) where
  -- two runs that hold the sums of their tables, joined, hold the sums of all
  module _ (a b : Joins Held) (left right : Told Held) (x : Joined N T a left) (y : Joined N T b right) (few : count_of a + count_of b ≤ most_columns) where
    pub join-sums : Joined N T (both a b) (next left (λ h. next right (λ k. join h k)))
    join-sums = record {
      held = held_in (head.both x.held.head y.held.head) (joined x.held y.held);
      is = ap (λ (r : Told Held). next r (λ h. next right (λ k. join h k))) x.is
          ∙ ap (λ (r : Told Held). next r (λ k. join x.held k)) y.is
          ∙ join-done N T settings x.held y.held x.right y.right (omega (arith, x.counted, y.counted));
      counted = ap₂ ◌+◌ x.counted y.counted;
      right = joined-bounds N T settings x.held y.held x.right y.right (omega (arith, x.counted, y.counted));
      sums = λ i l.
          joined-cell N T settings x.held y.held x.right i l
          ∙ ap₂ ◌+◌ (x.sums i l) (y.sums i l)
          ∙ sym (sum-append (buffers_of a) (buffers_of b) i);
    }

  -- tables in bounds, joined in any order and bracketing, leave the sums, and never refuse within the limit
  pub joins-sum : (j : Joins Held) → TablesOf N T j → count_of j ≤ most_columns → Joined N T j (join_held j)
  joins-sum (one h) b few = record { held = h; is = refl; counted = refl; right = b; sums = λ i l. omega arith }
  joins-sum (both a b) w few = join-sums a b (join_held a) (join_held b) (joins-sum a w.0 (omega arith)) (joins-sum b w.1 (omega arith)) few

  -- and the same sentence holds of them, with the joined table for the plate's
  pub tables-add-up : (bound : ℕ) (j : Joins Held) {run : Told Held} (whole : Joined N T j run) (zs : List ℤ) → Admissible (of_table N T whole.held.buffer) bound zs
      → AddUp (of_table N T whole.held.buffer) bound (count zs) (map (cell_at T) (buffers_of j))
  tables-add-up bound j whole zs a =
      adds-up (of_table N T whole.held.buffer) (map (cell_at T) (buffers_of j)) bound zs (tables-divided N T whole.held.buffer (buffers_of j) whole.sums) a
