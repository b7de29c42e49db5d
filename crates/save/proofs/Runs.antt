-- The columns of a run and its counts: the k-th stands behind as many boundaries as the counts before it say, and where the run is long enough
-- the columns have as many boundaries together as the counts say. By induction on the counts. Assumes nothing.
use mathlib.Core.Path.{◌≡◌, refl, sym, ap, ◌∙◌, subst}
use mathlib.Core.List.{List, [], ◌∷◌, ◌++◌, append-nil}
use Prim.Native.Nat.{ℕ, zero, suc, ◌+◌, ◌-◌, ◌*◌, ◌≤◌, ◌<◌}
use native.Mathlib.Nat.{le_of_suc-le-suc, not-suc-le-zero}
use native.Mathlib.Omega.{arith}
use lib.ListN.{length, get_or, take, drop, length-drop}
use lib.Seq.{drop-drop, length-take-le, take-suc}
use Rattle.paper.specs.Layer.{Column, column_of}
use Rattle.job.specs.Written.{column_record, column_records}
use Rattle.save.specs.Runs.{total, columns_in, boundary_count}
use Rattle.save.proofs.Laid.{columns-append}

-- ---- the sum of the counts

-- one count more
pub total-more : (counts : List ℕ) (k : ℕ) → k < length counts → total (take (suc k) counts) ≡ total (take k counts) + get_or counts k 0
unfolding total
total-more [] k h = absurd (not-suc-le-zero h)
total-more (c ∷ counts) zero h = omega arith
total-more (c ∷ counts) (suc k) h = omega (arith, total-more counts k (le_of_suc-le-suc h))

-- some of them are no more than all
pub total-some : (counts : List ℕ) (k : ℕ) → total (take k counts) ≤ total counts
unfolding total
total-some counts zero = omega arith
total-some [] (suc k) = omega arith
total-some (c ∷ counts) (suc k) = omega (arith, total-some counts k)

-- counts that are at most `most` each
pub total-most : (most : ℕ) (counts : List ℕ) → ((k : ℕ) → k < length counts → get_or counts k 0 ≤ most) → total counts ≤ most * length counts
unfolding total
total-most most [] h = omega arith
total-most most (c ∷ counts) h = omega (arith, h 0 (omega arith), total-most most counts (λ k l. h (suc k) (omega arith)))

-- ---- the columns

pub length-columns_in : (counts run : List ℕ) → length (columns_in counts run) ≡ length counts
unfolding columns_in
length-columns_in [] run = refl
length-columns_in (c ∷ counts) run = ap suc (length-columns_in counts (drop c run))

pub column-at : (counts run : List ℕ) (k : ℕ) → k < length counts
    → get_or (columns_in counts run) k (column_of []) ≡ column_of (take (get_or counts k 0) (drop (total (take k counts)) run))
unfolding columns_in total
column-at [] run k h = absurd (not-suc-le-zero h)
column-at (c ∷ counts) run zero h = refl
column-at (c ∷ counts) run (suc k) h =
    column-at counts (drop c run) k (le_of_suc-le-suc h) ∙ ap (λ (l : List ℕ). column_of (take (get_or counts k 0) l)) (drop-drop (total (take k counts)) c run)

pub boundaries-are : (counts run : List ℕ) → total counts ≤ length run → boundary_count (columns_in counts run) ≡ total counts
unfolding columns_in total boundary_count
boundaries-are [] run h = refl
boundaries-are (c ∷ counts) run h =
    omega (arith, length-take-le c run (omega arith), boundaries-are counts (drop c run) (omega (arith, length-drop c run)))

-- the k-th column, which begins at `start` and has `count` boundaries: they are in the run, and the next column begins behind them
pub record ColumnHere (counts run : List ℕ) (k start count : ℕ) : Type 0 where
  pub is : get_or (columns_in counts run) k (column_of []) ≡ column_of (take (start + count - start) (drop start run))
  pub within : start + count ≤ length run
  pub long : length (take (start + count - start) (drop start run)) ≡ get_or counts k 0
  pub next : start + count ≡ total (take (k + 1) counts)
  pub counted : start + count ≤ total counts

pub column-here : (counts run : List ℕ) (k start count : ℕ) → k < length counts → start ≡ total (take k counts) → total counts ≤ length run → count ≡ get_or counts k 0 → ColumnHere counts run k start count
column-here counts run k start count l e h same = subst (λ (n : ℕ). ColumnHere counts run k start n) (sym same) here
  where
    number : ℕ
    number = get_or counts k 0

    more : total (take (suc k) counts) ≡ total (take k counts) + number
    more = total-more counts k l

    part : start + number - start ≡ number
    part = omega arith

    counted : start + number ≤ total counts
    counted = omega (arith, more, e, total-some counts (suc k))

    here : ColumnHere counts run k start number
    here =
        let suc-is : suc k ≡ k + 1 = omega arith in
        record {
          is = column-at counts run k l ∙ (λ i. column_of (take (sym part i) (drop (sym e i) run)));
          within = omega (arith, counted, h);
          long = length-take-le (start + number - start) (drop start run) (omega (arith, counted, h, length-drop start run)) ∙ part;
          next = ap (λ (n : ℕ). n + number) e ∙ sym more ∙ ap (λ (n : ℕ). total (take n counts)) suc-is;
          counted = counted;
        }

-- ---- their records

-- one column more
pub records-more : (columns : List Column) (k : ℕ) → k < length columns
    → column_records (take (k + 1) columns) ≡ column_records (take k columns) ++ column_record (get_or columns k (column_of []))
unfolding column_records
records-more columns k l =
    let column = get_or columns k (column_of []) in
    let suc-is : k + 1 ≡ suc k = omega arith in
    ap (λ (n : ℕ). column_records (take n columns)) suc-is
    ∙ ap column_records (take-suc columns k (column_of []) l)
    ∙ columns-append (take k columns) (column ∷ [])
    ∙ ap (λ (bytes : List ℕ). column_records (take k columns) ++ bytes) (append-nil (column_record column))
