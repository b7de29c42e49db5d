-- One thickness more in a row: a last layer is put on the sequences of the row where it starts, for the counts from `first` up to `end`. Each
-- entry becomes the better of two (`inside`). With fewer layers those under it would have to be thicker than tmax (`few`), with more
-- thinner than tmin or end at 0 or less (`many`), so there is no sequence and the entry stays as it is (`out`). Assumes nothing.
use Prim.Native.Nat.{ℕ, suc, ◌+◌, ◌-◌, ◌*◌, ◌≤◌, ◌<◌}
use mathlib.Core.Path.{◌≡◌, refl, sym, ap, ◌∙◌}
use mathlib.Core.Bool.{cond}
use mathlib.Core.List.{List, ◌++◌}
use mathlib.Core.Logic.{◌⊎◌, inl, inr, ⊎_elim}
use mathlib.Core.Option.{Option, none, some}
use native.Mathlib.Nat.{add-mul, mul-le-mul_left, mul-le-mul_right}
use native.Mathlib.Decide.{dec_lt}
use native.Mathlib.Omega.{arith}
use borrow.Author.Tests.{lt-ltb, le-ltb}
use lib.Dec.{ltb}
use lib.ListN.{length, get_or, take, drop}
use Rattle.lists.specs.Best.{Best, value, place}
use Rattle.lists.specs.Rewrite.{Span}
use Rattle.lists.proofs.Lent.{lent_at, lent-long, span-lent}
use Rattle.lists.proofs.Spans.{span-as, span-within}
use Rattle.paper.specs.Sheets.{row_start, entry_index, missing}
use Rattle.paper.proofs.Counts.{counts-reach}
use Rattle.plate.specs.Datum.{at_row}
use Rattle.plate.specs.Settings.{Sound}
use Rattle.plate.specs.declared.settings.Settings.{Settings}
use Rattle.sequence.specs.Sequence.{Rules}
use Rattle.sequence.specs.Least.{plus, via, best_to, least}
use Rattle.sequence.specs.Sheets.{mark}
use Rattle.sequence.proofs.BestTo.{kept, taken, left}
use Rattle.sequence.proofs.Bounds.{least-few, least-many}
use Rattle.sequence.proofs.Marks.{Small}
use Rattle.table.specs.Cells.{cell_from}
use Rattle.sheets.proofs.Places.{row_in}
use Rattle.putting.specs.Putting.{sum_or_none, sum_at, better_error, better_thickness, PutOn, PutAll}
use Rattle.putting.proofs.Putting.{error-less, error-keep, thickness-less, thickness-keep}
use Rattle.plan.specs.Planning.{greatest_error, Ready, plan_rules, table_rules}
use Rattle.plan.specs.Rows.{error_to, thickness_to, RowTo, Under, Permitted}
use Rattle.plan.proofs.Sums.{known, sum-most, via-small}
use Rattle.plan.proofs.Rows.{via-permitted}

-- an entry with a layer's error more, where that stays below the mark
sum-mark : (o : Option ℕ) (cell : ℕ) → ((e : ℕ) → o ≡ some e → e ≤ greatest_error) → cell < 4294967296 → sum_or_none (mark o) cell ≡ mark (plus cell o)
unfolding sum_or_none
sum-mark none cell f u = go (dec_lt (missing - cell) missing)
  where
    go : Dec (missing - cell < missing) → cond (ltb (missing - cell) missing) missing (missing + cell) ≡ missing
    go (yes l) = simp (lt-ltb (missing - cell) missing l)
    go (no l) = simp (le-ltb (missing - cell) missing (omega arith)) (omega arith)
sum-mark (some e) cell f u = simp (le-ltb (missing - cell) e (omega (arith, f e refl)))

-- so many layers of tmax fit under the lowest start of row q, so `first` is one of the counts
pub first-few : (s : Settings) → Sound s → (q first : ℕ) → q ≤ s.rows → first * s.tmax ≤ q - s.tmax → first ≤ s.counts
first-few s k q first l u =
    rw k.counts-are (counts-reach s.height s.members k.low (omega (arith, k.greatest, k.thin, k.order)) first (rw (← k.greatest) (omega (arith, k.rows_are))))

-- the entry of a count t rows under row q
pub rows_under : (w q t first : ℕ) → t ≤ q → t * w + ((q - t) * w + first) ≡ q * w + first
rows_under w q t first l =
    let e : q - t + t ≡ q = omega arith in
    let d : q * w ≡ (q - t) * w + t * w = ap (λ (n : ℕ). n * w) (sym e) ∙ add-mul (q - t) t w in
    omega arith

-- what `relax` has found when it puts the layer on
pub record Relaxing (table : List ℕ) (bound q t : ℕ) (E F : List ℕ) (first end from to cell : ℕ) (s : Settings) : Type 0 where
  pub ready : Ready s table
  pub under : Under s (table_rules s bound table) q E F
  pub permitted : Permitted s (table_rules s bound table) q t
  pub row : RowTo s (table_rules s bound table) q (t - 1) (s.counts + 1) E F E F
  pub first-low : first * s.tmax ≤ q - s.tmax
  pub end-some : 1 ≤ end
  pub end-few : end ≤ s.counts
  pub end-past : (m : ℕ) → end ≤ m → m < s.counts → q - t < (m - 1) * s.tmin + s.tmax
  -- where the entries of the first count stand, that the layer starts from and that it ends at
  pub from_is : from ≡ entry_index s.counts (q - t) first
  pub to_is : to ≡ entry_index s.counts q first + 1
  pub cell-fits : cell < 4294967296
  pub cell-is : cell ≡ cell_from s.members table (at_row s.tmax (q - t)) t

module _ {table : List ℕ} {bound q t : ℕ} {E F : List ℕ} {first end from to cell : ℕ} {s : Settings} (r : Relaxing table bound q t E F first end from to cell s) where
  abbrev p : Rules
  p = table_rules s bound table

  -- the heights of the row and of the row where the layer starts
  abbrev high : ℕ
  high = at_row s.tmax q

  abbrev low : ℕ
  low = at_row s.tmax (q - t)

  pub first-end : first ≤ end
  first-end = go (dec_lt end first)
    where
      go : Dec (end < first) → first ≤ end
      go (yes l) =
          let k = r.ready.sound in
          let u : (end - 1 + 2) * s.tmax ≤ first * s.tmax = mul-le-mul_right s.tmax (omega (arith, r.end-some)) in
          let v : (end - 1) * s.tmin ≤ (end - 1) * s.tmax = mul-le-mul_left (end - 1) k.order in
          let few = first-few s k q first r.under.row r.first-low in
          absurd (omega (arith, u, v, add-mul (end - 1) 2 s.tmax, r.end-past end (omega arith) (omega arith), r.first-low, r.permitted.thin))
      go (no l) = omega arith

  -- the counts that the start row cannot have
  few : (m : ℕ) → m < first → least p m low ≡ none
  unfolding plan_rules
  few m l =
      let k = r.ready.sound in
      let d : (m + 1) * s.tmax ≤ first * s.tmax = mul-le-mul_right s.tmax (omega arith) in
      least-few p m low (rw (← k.greatest) (omega (arith, k.thick, r.first-low, r.permitted.thin)))

  many : (m : ℕ) → end ≤ m → m < s.counts → least p m low ≡ none
  many m l u =
      let e : m ≡ suc (m - 1) = omega (arith, r.end-some) in
      ap (λ (i : ℕ). least p i low) e
      ∙ least-many p s.tmin (known s bound table r.ready) (m - 1) low (omega (arith, r.end-past m l u, r.ready.sound.thick))

  -- a candidate, and none where the start row has none
  via-is : (m : ℕ) → via p (λ g. least p m g) high t ≡ plus cell (least p m low)
  unfolding plan_rules
  via-is m = via-permitted s bound table r.ready m q t r.permitted.above r.permitted.permitted ∙ ap (λ (x : ℕ). plus x (least p m low)) (sym r.cell-is)

  out : (i : ℕ) → i < s.counts + 1 → ((m : ℕ) → i ≡ m + 1 → (m < first) ⊎ (end ≤ m)) → best_to p i high t ≡ best_to p i high (t - 1)
  out i l e =
      kept p high t i r.permitted.thick
      (λ m j. via-is m ∙ ap (plus cell) (⊎_elim (λ a. few m a) (λ a. many m a (omega arith)) (e m j)))

  -- such a count's entries are already right
  errors-right : (i : ℕ) → i < s.counts + 1 → best_to p i high t ≡ best_to p i high (t - 1) → error_to s p q t i ≡ get_or E (row_start s.counts q + i) 0
  unfolding error_to
  errors-right i l e = ap (λ (b : Best). mark (value b)) e ∙ sym (r.row.errors-are.inside i l)

  thicknesses-right : (i : ℕ) → i < s.counts + 1 → best_to p i high t ≡ best_to p i high (t - 1) → thickness_to s p q t i ≡ get_or F (row_start s.counts q + i) 0
  unfolding thickness_to
  thicknesses-right i l e = ap place e ∙ sym (r.row.thicknesses-are.inside i l)

  -- what is read in the start row is none or far below the mark, so the sum is the candidate
  module _ (m : ℕ) (l : m < end - first) where
    read : get_or E (from + m) 0 ≡ mark (least p (first + m) low)
    read =
        let e : from + m ≡ entry_index s.counts (q - t) (first + m) = omega (arith, r.from_is) in
        ap (λ (i : ℕ). get_or E i 0) e ∙ r.under.filled (q - t) (first + m) (omega (arith, r.permitted.thick, r.permitted.above)) (omega (arith, r.end-few))

    sum_is : sum_at E cell (from + m) ≡ mark (via p (λ g. least p (first + m) g) high t)
    sum_is =
        ap (λ (x : ℕ). sum_or_none x cell) read
        ∙ sum-mark (least p (first + m) low) cell (λ e q. omega (arith, sum-most s bound table r.ready (first + m) low e q, r.end-few, r.ready.sound.few-counts)) r.cell-fits
        ∙ ap mark (sym (via-is (first + m)))

    -- and in this row, the entry by last layers of less than t
    old : get_or E (to + m) 0 ≡ mark (value (best_to p (first + m + 1) high (t - 1)))
    unfolding error_to
    old =
        let e : to + m ≡ entry_index s.counts q (first + m + 1) = omega (arith, r.to_is) in
        ap (λ (j : ℕ). get_or E j 0) e ∙ r.row.errors-are.inside (first + m + 1) (omega (arith, r.end-few))

    all_small : (u : ℕ) → Small (via p (λ g. least p (first + m) g) high u)
    all_small u = via-small s bound table r.ready (first + m) high u (omega (arith, r.end-few))

    -- so each entry becomes the better of the two
    inside : Dec (sum_at E cell (from + m) < get_or E (to + m) 0)
        → (error_to s p q t (first + m + 1) ≡ better_error (sum_at E cell (from + m)) (get_or E (to + m) 0))
        × (thickness_to s p q t (first + m + 1) ≡ better_thickness (sum_at E cell (from + m)) (get_or E (to + m) 0) t (get_or F (to + m) 0))
    unfolding error_to thickness_to
    inside (yes u) =
        let v = taken p (first + m) high t _ r.permitted.thick sum_is all_small (omega (arith, old)) in
        (sym v.0 ∙ sym (error-less _ _ u), sym v.1 ∙ sym (thickness-less _ _ _ _ u))
    inside (no u) =
        let v = left p (first + m) high t _ r.permitted.thick sum_is all_small (omega (arith, old)) in
        let e : entry_index s.counts q (first + m + 1) ≡ to + m = omega (arith, r.to_is) in (
          errors-right (first + m + 1) (omega (arith, r.end-few)) v ∙ ap (λ (i : ℕ). get_or E i 0) e ∙ sym (error-keep _ _ (omega arith)),
          thicknesses-right (first + m + 1) (omega (arith, r.end-few)) v ∙ ap (λ (i : ℕ). get_or F i 0) e ∙ sym (thickness-keep _ _ _ _ (omega arith)),
        )

  -- the places of the counts: what is read lies before what is written, and that in both sheets
  pub from-before : from + (end - first) ≤ to
  from-before =
      let d : (q - t + 1) * (s.counts + 1) ≤ q * (s.counts + 1) = mul-le-mul_right (s.counts + 1) (omega (arith, r.permitted.thick, r.permitted.above)) in
      omega (arith, r.end-few, first-end, r.from_is, r.to_is)

  pub to_in : to + (end - first) ≤ s.entries
  to_in = let i = row_in s r.ready.sound q s.counts r.under.row (omega arith) in omega (arith, r.end-few, first-end, r.to_is)

  -- the parts of the sheets that are lent, and what comes back
  module _ (past : ℕ) (past_is : past ≡ to + (end - first)) (E' F' : List ℕ)
      (a : PutAll cell t (take (past - from) (drop from E)) (take (past - to) (drop to F)) E' F') where
    errors-long : length (take (past - from) (drop from E)) ≡ past - from
    errors-long = lent-long from (past - from) E (omega (arith, from-before, to_in, r.under.errors-whole))

    thicknesses-long : length (take (past - to) (drop to F)) ≡ end - first
    thicknesses-long = lent-long to (past - to) F (omega (arith, to_in, r.under.thicknesses-whole)) ∙ omega arith

    o : PutOn (to - from) 0 cell t (end - first) (take (past - from) (drop from E)) (take (past - to) (drop to F)) E' F'
    o =
        let e : length (take (past - from) (drop from E)) - length (take (past - to) (drop to F)) ≡ to - from = omega (arith, errors-long, thicknesses-long, from-before) in
        let p = a.put (omega (arith, errors-long, thicknesses-long, from-before)) in
        rw (e, thicknesses-long) at p

    -- what is read of the error sheet's part is what the sheet held
    sum_same : (m : ℕ) → m < end - first → sum_at (take (past - from) (drop from E)) cell (0 + m) ≡ sum_at E cell (from + m)
    sum_same m l =
        let e : 0 + m ≡ m = omega arith in
        ap (λ (x : ℕ). sum_or_none x cell) (ap (λ (i : ℕ). get_or (take (past - from) (drop from E)) i 0) e ∙ lent_at 0 from (past - from) E m (omega (arith, from-before)))

    error-same : (m : ℕ) → m < end - first → get_or (take (past - from) (drop from E)) (to - from + 0 + m) 0 ≡ get_or E (to + m) 0
    error-same m l =
        let e : from + (to - from + 0 + m) ≡ to + m = omega (arith, from-before) in
        lent_at 0 from (past - from) E (to - from + 0 + m) (omega (arith, from-before)) ∙ ap (λ (i : ℕ). get_or E i 0) e

    errors-put : Span 0 to (end - first) (λ m x. better_error (sum_at E cell (from + m)) x) E (take from E ++ (E' ++ drop (past - from) (drop from E)))
    errors-put =
        let e : from + (to - from + 0) ≡ to = omega (arith, from-before) in
        let g =
        span-lent 0 from (past - from) E E' (omega (arith, from-before, to_in, r.under.errors-whole)) (o.errors-are.long ∙ errors-long) o.errors-are (omega (arith, from-before)) in
        span-as (rw e at g) _ (λ m l. rw (sum_same m l))

    thicknesses-put : Span 0 to (end - first) (λ m x. better_thickness (sum_at E cell (from + m)) (get_or E (to + m) 0) t x) F (take to F ++ (F' ++ drop (past - to) (drop to F)))
    thicknesses-put =
        let e : to + 0 ≡ to = omega arith in
        let g =
        span-lent 0 to (past - to) F F' (omega (arith, to_in, r.under.thicknesses-whole)) (o.thicknesses-are.long ∙ omega (arith, thicknesses-long)) o.thicknesses-are (omega arith) in
        span-as (rw e at g) _ (λ m l. rw (sum_same m l, error-same m l))

    pub relaxed : RowTo s p q t (s.counts + 1) E F (take from E ++ (E' ++ drop (past - from) (drop from E))) (take to F ++ (F' ++ drop (past - to) (drop to F)))
    relaxed = record {
      errors-are =
          span-within (s.counts + 1) (λ m x. error_to s p q t m) errors-put (omega (arith, r.to_is)) (omega (arith, r.end-few, first-end, r.to_is))
          (λ m a b. errors-right m a (same m a b))
          (λ m a. ap (error_to s p q t) (index m) ∙ (inside m a (dec_lt _ _)).0);
      thicknesses-are =
          span-within (s.counts + 1) (λ m x. thickness_to s p q t m) thicknesses-put (omega (arith, r.to_is)) (omega (arith, r.end-few, first-end, r.to_is))
          (λ m a b. thicknesses-right m a (same m a b))
          (λ m a. ap (thickness_to s p q t) (index m) ∙ (inside m a (dec_lt _ _)).1);
    }
      where
        index : (m : ℕ) → to - row_start s.counts q + m ≡ first + m + 1
        index m = omega (arith, r.to_is)

        same : (m : ℕ) → m < s.counts + 1 → (row_start s.counts q + m < to) ⊎ (to + (end - first) ≤ row_start s.counts q + m) → best_to p m high t ≡ best_to p m high (t - 1)
        same m a b = out m a (λ k e. ⊎_elim (λ x. inl (omega (arith, r.to_is))) (λ x. inr (omega (arith, first-end, r.to_is))) b)
