-- A row of the sheets while it is being filled, from a row by no layer to one by all thicknesses, which holds the least errors and the last
-- thicknesses. At a height of 0 or less the two are the same, since no layer ends there. Over it a last layer of thickness t that ends at row q
-- starts at row q - t; where it is not permitted there, or the row has no sequence of one layer less, it changes nothing. Then the rows one after
-- the other. Assumes nothing.
use Prim.Native.Nat.{ℕ, zero, suc, ◌+◌, ◌-◌, ◌*◌, ◌/◌, ◌%◌, ◌≤◌, ◌<◌}
use mathlib.Core.Path.{◌≡◌, refl, sym, ap, ◌∙◌}
use mathlib.Core.Bool.{Bool, true, false}
use mathlib.Core.List.{List}
use mathlib.Core.Option.{none}
use native.Mathlib.Nat.{mul-le-mul_right, div-lt_iff_lt-mul}
use native.Mathlib.Omega.{arith}
use lib.Arith.{digits_lt}
use borrow.Author.Tests.{le-leb}
use lib.ListN.{length, get_or, set}
use Rattle.lists.specs.Best.{Best, nothing, found, value, place}
use Rattle.lists.specs.Grid.{flat}
use Rattle.lists.specs.Rewrite.{Span}
use Rattle.lists.proofs.Spans.{span_none, span_set, span_rest, span-as, span-again, span-self, span-row, span-at, span-is, span-end}
use Rattle.paper.specs.Layer.{tmax}
use Rattle.paper.specs.Sheets.{row_start, entry_index, missing, entries}
use Rattle.plate.specs.Datum.{at_row}
use Rattle.plate.specs.declared.settings.Settings.{Settings}
use Rattle.sequence.specs.Sequence.{Rules}
use Rattle.sequence.specs.Least.{plus, via, best_to, least, last}
use Rattle.sequence.specs.Sheets.{mark, error_entry, thickness_entry}
use Rattle.sequence.proofs.BestTo.{kept, none-start, none_apart, none_yet, none_last, whole-value, whole-place}
use Rattle.sequence.proofs.Layers.{start-in, start-high}
use Rattle.sheets.proofs.Places.{entries-is, row_in}
use Rattle.plan.specs.Planning.{Ready, plan_rules, table_rules, planned_errors, planned_thicknesses}
use Rattle.plan.specs.Rows.{error_to, thickness_to, least_at, RowTo, Under, SheetTo}
use Rattle.plan.proofs.Sums.{via_empty, via-thin}

-- the row where the last layer starts
module _ (s : Settings) (bound : ℕ) (table : List ℕ) (ready : Ready s table) where
  abbrev p : Rules
  p = table_rules s bound table

  start-height : (q t : ℕ) → t ≤ q → at_row s.tmax q - t ≡ at_row s.tmax (q - t)
  start-height q t l = omega (arith, ready.sound.thick)

  -- a layer that is permitted
  pub via-permitted : (m q t : ℕ) → t ≤ q → p.may (at_row s.tmax (q - t)) t ≡ true
      → via p (λ g. least p m g) (at_row s.tmax q) t ≡ plus (p.cell (at_row s.tmax (q - t)) t) (least p m (at_row s.tmax (q - t)))
  via-permitted m q t l e =
      let u : t ≤ at_row s.tmax q = omega (arith, ready.sound.thick) in
      rw (start-height q t l, le-leb t (at_row s.tmax q) u, e)

  -- and one that is not
  pub via-forbidden : (m q t : ℕ) (x : Bool) → t ≤ q → x ≡ p.may (at_row s.tmax (q - t)) t → x ≡ false → via p (λ g. least p m g) (at_row s.tmax q) t ≡ none
  via-forbidden m q t x l i e =
      let u : t ≤ at_row s.tmax q = omega (arith, ready.sound.thick) in
      rw (start-height q t l, le-leb t (at_row s.tmax q) u, ← i, e)

  -- a row by no layer: the lowest tmax rows are the start heights
  start-low : (q : ℕ) → q < s.tmax → best_to p 0 (at_row s.tmax q) 0 ≡ found 0 0
  unfolding plan_rules
  start-low q l =
      none-start p (at_row s.tmax q) 0
      (start-in (tmax s.members) (at_row s.tmax q) (omega (arith, ready.sound.greatest, ready.sound.thick)) (omega (arith, ready.sound.thick)))

  above-start : (q : ℕ) → s.tmax ≤ q → best_to p 0 (at_row s.tmax q) 0 ≡ nothing
  unfolding plan_rules
  above-start q l = none_apart p (at_row s.tmax q) 0 (start-high (tmax s.members) (at_row s.tmax q) (omega (arith, ready.sound.thick)))

  -- and by all thicknesses
  all-thicknesses : s.tmax ≡ p.tmax
  unfolding plan_rules
  all-thicknesses = ready.sound.greatest

  -- the rows of the sheets: E and F are the two sheets
  pub row-self : {q k n : ℕ} {E₀ F₀ E F : List ℕ} → RowTo s p q k n E₀ F₀ E F → RowTo s p q k n E F E F
  row-self r = record { errors-are = span-self r.errors-are; thicknesses-are = span-self r.thicknesses-are }

  pub row-again : {q j k n : ℕ} {E₀ F₀ E₁ F₁ E F : List ℕ} → RowTo s p q j n E₀ F₀ E₁ F₁ → RowTo s p q k n E₁ F₁ E F → RowTo s p q k n E₀ F₀ E F
  row-again r t = record {
    errors-are = span-again r.errors-are t.errors-are;
    thicknesses-are = span-again r.thicknesses-are t.thicknesses-are;
  }

  pub row_as : {q k n : ℕ} {E₀ F₀ E F : List ℕ} (j : ℕ) → RowTo s p q k n E₀ F₀ E F → k ≤ j → j ≤ k → RowTo s p q j n E₀ F₀ E F
  row_as {q} {k} {n} j r l u = let e : k ≡ j = omega arith in rw e at r

  pub row_same : {q t n : ℕ} {E₀ F₀ E F : List ℕ} → RowTo s p q (t - 1) n E₀ F₀ E F
      → ((m : ℕ) → best_to p m (at_row s.tmax q) t ≡ best_to p m (at_row s.tmax q) (t - 1)) → RowTo s p q t n E₀ F₀ E F
  unfolding error_to thickness_to
  row_same r e = record {
    errors-are = span-as r.errors-are _ (λ m l. ap (λ (b : Best). mark (value b)) (sym (e m)));
    thicknesses-are = span-as r.thicknesses-are _ (λ m l. ap place (sym (e m)));
  }

  -- a row by no layer is one by all that are thinner than tmin
  pub row-thin : {q n : ℕ} {E₀ F₀ E F : List ℕ} (t : ℕ) → t < s.tmin → RowTo s p q 0 n E₀ F₀ E F → RowTo s p q t n E₀ F₀ E F
  row-thin zero l r = r
  row-thin {q} (suc t) l r =
      row_same (row_as (suc t - 1) (row-thin t (omega arith) r) (omega arith) (omega arith))
      (λ m. kept p (at_row s.tmax q) (suc t) m (omega arith) (λ i e. via-thin s bound table ready i (at_row s.tmax q) (suc t) l))

  -- a row of the error sheet that was cleared is one by no layer where no sequence starts
  pub row-high : (q : ℕ) {E₀ E : List ℕ} → Span 0 (row_start s.counts q) (s.counts + 1) (λ m x. missing) E₀ E → s.tmax ≤ q
      → Span 0 (row_start s.counts q) (s.counts + 1) (λ m x. error_to s p q 0 m) E₀ E
  unfolding error_to
  row-high q none_left l = span-as none_left _ (λ m u. go m)
    where
      go : (m : ℕ) → missing ≡ mark (value (best_to p m (at_row s.tmax q) 0))
      go zero = rw (above-start q l)
      go (suc m) = rw (none_yet p (at_row s.tmax q) (suc m) (omega arith))

  -- at a height of 0 or less no layer ends, so what is best by no layer is best by all
  module _ (q : ℕ) (low : q < s.tmax) where
    empty-best : (m t : ℕ) → best_to p m (at_row s.tmax q) t ≡ best_to p m (at_row s.tmax q) 0
    empty-best m zero = refl
    empty-best m (suc t) =
        let e : suc t - 1 ≡ t = omega arith in
        kept p (at_row s.tmax q) (suc t) m (omega arith) (λ i f. via_empty s bound table ready i (at_row s.tmax q) (suc t) (omega (arith, ready.sound.thick)))
        ∙ ap (best_to p m (at_row s.tmax q)) e
        ∙ empty-best m t

    empty-least : (m : ℕ) → least_at s p q m 0 ≡ mark (value (best_to p m (at_row s.tmax q) 0))
    empty-least m = ap mark (sym (whole-value p m (at_row s.tmax q) s.tmax all-thicknesses)) ∙ ap (λ (b : Best). mark (value b)) (empty-best m s.tmax)

    empty-last : (m : ℕ) → last p m (at_row s.tmax q) ≡ 0
    empty-last m =
        sym (whole-place p m (at_row s.tmax q) s.tmax all-thicknesses) ∙ ap place (empty-best m s.tmax) ∙ none_last p (at_row s.tmax q) m

    -- so a row that was cleared, with 0 at count 0, is filled
    pub row_low : {E₀ E : List ℕ} → Span 0 (row_start s.counts q) (s.counts + 1) (λ m x. missing) E₀ E → (at : ℕ) → at ≡ row_start s.counts q → at < length E
        → Span 0 (row_start s.counts q) (s.counts + 1) (least_at s p q) E₀ (set E at 0)
    row_low {E₀} {E} none_left at e i = span-again none_left rest
      where
        first : Span 0 (row_start s.counts q) 1 (least_at s p q) E (set E at 0)
        first = span_set (span_none (row_start s.counts q) _ E) at 0 (omega arith) i (sym (empty-least 0 ∙ rw (start-low q low) refl))

        rest : Span 0 (row_start s.counts q) (s.counts + 1) (least_at s p q) E (set E at 0)
        rest =
            span_rest (s.counts + 1) first (omega arith)
            (λ m a b. empty-least m ∙ ap (λ (x : Best). mark (value x)) (none_yet p (at_row s.tmax q) m a) ∙ sym (first.above (row_start s.counts q + m) (omega arith) ∙ none_left.inside m b))

  -- and one of the thickness sheet: both are those by no layer
  pub row-begun : {q : ℕ} {E₀ E F : List ℕ} → Span 0 (row_start s.counts q) (s.counts + 1) (λ m x. error_to s p q 0 m) E₀ E
      → Span 0 (row_start s.counts q) (s.counts + 1) (λ m x. 0) F F → RowTo s p q 0 (s.counts + 1) E₀ F E F
  unfolding thickness_to
  row-begun {q} e f = record { errors-are = e; thicknesses-are = span-as f _ (λ m u. sym (none_last p (at_row s.tmax q) m)) }

  -- the rows under a row stay while it is being filled
  pub under-row : {q k n : ℕ} {E₀ F₀ E F : List ℕ} → Under s p q E₀ F₀ → RowTo s p q k n E₀ F₀ E F → Under s p q E F
  under-row {q} u r = record {
    row = u.row;
    errors-whole = omega (arith, u.errors-whole, r.errors-are.long);
    thicknesses-whole = omega (arith, u.thicknesses-whole, r.thicknesses-are.long);
    filled = λ i m a b. r.errors-are.below (entry_index s.counts i m) (digits_lt a (omega arith)) ∙ u.filled i m a b;
  }

  -- the sheets, row after row
  pub sheet-under : {q : ℕ} {E₀ F₀ E F : List ℕ} → SheetTo s p q E₀ F₀ E F → q ≤ s.rows → s.entries ≤ length E₀ → s.entries ≤ length F₀ → Under s p q E F
  sheet-under {q} t l a b = record {
    row = l;
    errors-whole = omega (arith, t.errors-are.long);
    thicknesses-whole = omega (arith, t.thicknesses-are.long);
    filled = λ r m u v. span-at (least_at s p) q r m t.errors-are u (omega arith);
  }

  pub sheet-more : {q : ℕ} {E₀ F₀ E₁ F₁ E F : List ℕ} → SheetTo s p q E₀ F₀ E₁ F₁ → RowTo s p q s.tmax (s.counts + 1) E₁ F₁ E F → SheetTo s p (q + 1) E₀ F₀ E F
  unfolding error_to thickness_to
  sheet-more {q} t r = record {
    errors-are =
        span-row (least_at s p) q t.errors-are
        (span-as r.errors-are _ (λ m u. ap mark (whole-value p m (at_row s.tmax q) s.tmax all-thicknesses)));
    thicknesses-are =
        span-row (λ r m x. last p m (at_row s.tmax r)) q t.thicknesses-are
        (span-as r.thicknesses-are _ (λ m u. whole-place p m (at_row s.tmax q) s.tmax all-thicknesses));
  }

  -- over a thickness sheet F₁ that was cleared
  module _ {F₀ F₁ : List ℕ} (cleared : Span 0 0 s.entries (λ m x. 0) F₀ F₁) where
    -- the rows at 0 or less, which stay cleared
    pub sheet-begun : {E₀ E : List ℕ} → Span 0 0 (row_start s.counts s.tmax) (flat (s.counts + 1) (least_at s p)) E₀ E → SheetTo s p s.tmax E₀ F₁ E F₁
    sheet-begun e = record { errors-are = e; thicknesses-are = record { long = refl; inside = still; below = λ i h. refl; above = λ i h. refl } }
      where
        still : (i : ℕ) → i < row_start s.counts s.tmax → get_or F₁ (0 + i) 0 ≡ last p (i % (s.counts + 1)) (at_row s.tmax (i / (s.counts + 1)))
        still i l =
            let k = ready.sound in
            let u : row_start s.counts s.tmax ≤ (s.rows + 1) * (s.counts + 1) = mul-le-mul_right (s.counts + 1) (omega (arith, k.rows_are, k.low)) in
            cleared.inside i (omega (arith, u, k.entries-are)) ∙ sym (empty-last (i / (s.counts + 1)) ((div-lt_iff_lt-mul (omega arith)).1 l) (i % (s.counts + 1)))

    pub sheet-cleared : {q : ℕ} {E₀ E F : List ℕ} → q ≤ s.rows → SheetTo s p q E₀ F₁ E F → Span 0 (row_start s.counts q) (s.counts + 1) (λ m x. 0) F F
    sheet-cleared {q} {F = F} l t = record { long = refl; inside = λ m h. go m (omega arith); below = λ i h. refl; above = λ i h. refl }
      where
        go : (m : ℕ) → m ≤ s.counts → get_or F (row_start s.counts q + m) 0 ≡ 0
        go m h =
            let i = entry_index s.counts q m in
            let e : i ≡ 0 + i = omega arith in
            t.thicknesses-are.above i (omega arith) ∙ ap (λ (j : ℕ). get_or F₁ j 0) e ∙ cleared.inside i (row_in s ready.sound q m l h)

    pub sheet-whole : {E₀ E F : List ℕ} (q : ℕ) → SheetTo s p q E₀ F₁ E F → q ≡ s.rows + 1
        → (E ≡ planned_errors s.height s.members p E₀) × (F ≡ planned_thicknesses s.height s.members p F₀)
    unfolding planned_errors planned_thicknesses error_entry thickness_entry
    sheet-whole {E₀} {E} {F} q t e =
        let w = ready.sound.counts-are in
        let g = ready.sound.greatest in
        let k : row_start s.counts q ≡ s.entries = ap (λ (x : ℕ). x * (s.counts + 1)) e ∙ sym ready.sound.entries-are in
        let n : row_start s.counts q ≡ entries s.height s.members = k ∙ entries-is s ready.sound in
        let f = span-again (span-end (row_start s.counts q) cleared (omega arith) (omega arith)) t.thicknesses-are in
        (rw (← w, ← g) (span-is _ _ t.errors-are (omega arith) (omega arith)), rw (← w, ← g) (span-is _ _ f (omega arith) (omega arith)))
