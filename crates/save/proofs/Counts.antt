-- 7 and 4: which counts are refused, and what is known of those that are not. Assumes nothing.
use mathlib.Core.Path.{◌≡◌, sym}
use mathlib.Core.Bool.{true, false}
use mathlib.Core.List.{List}
use mathlib.Core.Option.{none, some}
use Prim.Native.Nat.{ℕ, ◌*◌, ◌%◌, ◌≤◌, ◌<◌}
use native.Mathlib.Omega.{arith}
use borrow.Author.Tests.{lt-ltb, le-ltb, ltb-false}
use lib.Dec.{ltb, eqb}
use lib.ListN.{length, get_or}
use Rattle.lists.specs.Checks.{first}
use Rattle.lists.proofs.Checks.{first-none, or-false}
use Rattle.lists.proofs.Search.{lowest-hit, lowest-none, lowest-before}
use Rattle.paper.specs.Limits.{most_boundaries, most_columns}
use Rattle.column.specs.Order.{wrong_count}
use Rattle.save.specs.Runs.{total}
use Rattle.save.specs.Writing.{first_wrong, count_checks}
use Rattle.save.proofs.Runs.{total-most}

module _ (counts : List ℕ) where
  pub too_many : most_columns < length counts → some (record { number = 7; place = 0 }) ≡ first (count_checks counts)
  unfolding count_checks
  too_many h = simp (lt-ltb most_columns (length counts) h)

  -- the first column whose count is wrong
  pub wrong-at : (k : ℕ) → length counts ≤ most_columns → k < length counts → ((j : ℕ) → j < k → wrong_count (get_or counts j 0) ≡ false) → wrong_count (get_or counts k 0) ≡ true
      → some (record { number = 4; place = k }) ≡ first (count_checks counts)
  unfolding count_checks first_wrong
  wrong-at k few l before here =
      let e : first_wrong counts ≡ k = lowest-hit (λ j. wrong_count (get_or counts j 0)) (length counts) k l before here in
      simp (le-ltb most_columns (length counts) few, e, lt-ltb k (length counts) l)

  pub none-wrong : length counts ≤ most_columns → ((j : ℕ) → j < length counts → wrong_count (get_or counts j 0) ≡ false) → none ≡ first (count_checks counts)
  unfolding count_checks first_wrong
  none-wrong few right =
      let e : first_wrong counts ≡ length counts = lowest-none (λ j. wrong_count (get_or counts j 0)) (length counts) right in
      simp (le-ltb most_columns (length counts) few, e, le-ltb (length counts) (length counts) (omega arith))

  -- counts that are not refused
  pub record Right : Type 0 where
    pub few : length counts ≤ most_columns
    pub right : (k : ℕ) → k < length counts → wrong_count (get_or counts k 0) ≡ false
    pub low : (k : ℕ) → k < length counts → get_or counts k 0 ≤ most_boundaries
    pub together : total counts ≤ most_boundaries * most_columns

  pub counts-right : none ≡ first (count_checks counts) → Right
  unfolding count_checks first_wrong
  counts-right e =
      let q = (first-none (count_checks counts)).0 (sym e) in
      let few = ltb-false most_columns (length counts) q.0 in
      let right : (k : ℕ) → k < length counts → wrong_count (get_or counts k 0) ≡ false = λ k l.
      lowest-before (λ j. wrong_count (get_or counts j 0)) (length counts) k (omega (arith, ltb-false (first_wrong counts) (length counts) q.1.0)) in
      let low : (k : ℕ) → k < length counts → get_or counts k 0 ≤ most_boundaries = λ k l.
      ltb-false most_boundaries (get_or counts k 0) (or-false (eqb (get_or counts k 0 % 2) 1) (ltb most_boundaries (get_or counts k 0)) (right k l)).1 in
      record { few = few; right = right; low = low; together = omega (arith, total-most most_boundaries counts low, few) }
