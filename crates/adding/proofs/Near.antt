-- What a column adds in the rows near a boundary and in those that are not. A cell's share is above 0 exactly where a boundary lies strictly
-- inside its layer, so in a row that faces a boundary the column adds to the allowed cells from that boundary on, and to no cell of a row
-- that no boundary is near; there the count of the voxels, carried from thickness to thickness, gives what is added. Assumes nothing.
use mathlib.Core.Path.{◌≡◌, refl, sym, ap, ◌∙◌, subst}
use mathlib.Core.Bool.{Bool, true, false}
use mathlib.Core.List.{List}
use mathlib.Core.Logic.{◌⊎◌, inl, inr}
use Prim.Native.Nat.{ℕ, suc, ◌+◌, ◌-◌, ◌*◌, ◌/◌, ◌%◌, ◌≤◌, ◌<◌, min, max}
use native.Mathlib.Nat.{mul-le-mul, mod-lt, div-add-mod', div-lt_iff_lt-mul, le-div_iff_mul-le}
use native.Mathlib.Decide.{dec_lt}
use native.Mathlib.Omega.{arith}
use borrow.Author.Tests.{lt-ltb}
use lib.Dec.{ltb}
use lib.IntN.{ℤ, pos, ◌+ℤ◌}
use lib.ListN.{length, get_or}
use lib.Signed.{◌<ℤ◌}
use Rattle.lists.specs.Rewrite.{Span}
use Rattle.lists.proofs.Spans.{span_rest}
use Rattle.paper.specs.Layer.{column_of, IsColumn, allowed, share, inside_count, Between}
use Rattle.plate.specs.Datum.{height_of, at_row}
use Rattle.plate.specs.Settings.{Sound}
use Rattle.plate.specs.declared.settings.Settings.{Settings}
use Rattle.plate.proofs.Datum.{lt_up, lt-down, pos-height, sum-height}
use Rattle.column.specs.Inside.{inside}
use Rattle.column.proofs.Shares.{inside_is}
use Rattle.column.proofs.Between.{share-between}
use Rattle.table.specs.Limits.{above}
use Rattle.table.proofs.Limits.{above-yes}
use Rattle.near.specs.Caps.{greatest_cell, Allowing}
use Rattle.near.specs.Facing.{Facing, Near, Reached}
use Rattle.near.proofs.Carried.{rising-to}
use Rattle.near.proofs.Facing.{under_none, under_more, near-from}
use Rattle.adding.specs.Adding.{addend}
use Rattle.adding.specs.Heaped.{heaped, heaped_at}
use Rattle.adding.proofs.Addends.{addend-allowed, addend-barred, and-false, heaped-touched, heaped-untouched}

-- ---- a boundary strictly inside a layer, by datum heights

module _ (bs : List ℕ) (h t : ℕ) where
  between-up : (i : ℕ) → i < length bs → h < get_or bs i 0 + 32 → get_or bs i 0 + 32 < h + t → Between bs (height_of h) t
  between-up i l a b = record {
    index = i;
    there = l;
    after = subst (λ (z : ℤ). height_of h <ℤ z) (sym (pos-height (get_or bs i 0))) (lt_up h (get_or bs i 0 + 32) a);
    before = subst (λ (z : ℤ). z <ℤ (height_of h +ℤ pos t)) (sym (pos-height (get_or bs i 0)))
        (subst (λ (z : ℤ). height_of (get_or bs i 0 + 32) <ℤ z) (sym (sum-height h t)) (lt_up (get_or bs i 0 + 32) (h + t) b));
  }

  after-at : (w : Between bs (height_of h) t) → h < get_or bs w.index 0 + 32
  after-at w = lt-down h (get_or bs w.index 0 + 32) (subst (λ (z : ℤ). height_of h <ℤ z) (pos-height (get_or bs w.index 0)) w.after)

  before_at : (w : Between bs (height_of h) t) → get_or bs w.index 0 + 32 < h + t
  before_at w =
      lt-down (get_or bs w.index 0 + 32) (h + t)
      (subst (λ (z : ℤ). z <ℤ height_of (h + t)) (pos-height (get_or bs w.index 0)) (subst (λ (z : ℤ). pos (get_or bs w.index 0) <ℤ z) (sum-height h t) w.before))

pub rows-le : (a b m : ℕ) → a ≤ b → a * m ≤ b * m
rows-le a b m l = let r : m ≤ m = omega arith in mul-le-mul l r

module _ {s : Settings} (k : Sound s) {bs : List ℕ} (c : IsColumn s.height (column_of bs)) where
  abbrev adds : ℕ → ℕ → ℕ
  adds row j = addend s.members (column_of bs) (row * s.tmax + j)

  -- where a cell's layer has no boundary strictly inside, nothing is added
  adds_none : (row j : ℕ) → j < s.tmax → (Between bs (height_of (at_row s.tmax row)) (j + 1) → ⊥) → adds row j ≡ 0
  adds_none row j u never = go (allowed s.members (j + 1)) refl
    where
      dec : Dec (0 < share bs (height_of (at_row s.tmax row)) (j + 1)) → share bs (height_of (at_row s.tmax row)) (j + 1) ≡ 0
      dec (yes x) = absurd (never ((share-between s.height (column_of bs) c (height_of (at_row s.tmax row)) (j + 1)).0 x))
      dec (no x) = omega arith

      go : (b : Bool) → allowed s.members (j + 1) ≡ b → adds row j ≡ 0
      go true a = addend-allowed s.members s.tmax row j k.greatest u (column_of bs) k.thick a ∙ dec (dec_lt 0 (share bs (height_of (at_row s.tmax row)) (j + 1)))
      go false a = addend-barred s.members s.tmax row j k.greatest u (column_of bs) a

  -- ---- a row that faces a boundary

  module _ {row q first : ℕ} (f : Facing bs s.tmax row q first) (j : ℕ) (u : j < s.tmax) where
    pub adds-before : j < first → adds row j ≡ 0
    adds-before l = adds_none row j u (λ w. step w (dec_lt w.index q))
      where
        step : (w : Between bs (height_of (at_row s.tmax row)) (j + 1)) → Dec (w.index < q) → ⊥
        step w (yes x) = let a = after-at bs (at_row s.tmax row) (j + 1) w in omega (arith, f.under.are w.index x, k.thick)
        step w (no x) =
            let b = before_at bs (at_row s.tmax row) (j + 1) w in
            omega (arith, rising-to bs c.rising q w.index (omega arith) w.there, f.place, k.thick)

    pub adds-from : first ≤ j → allowed s.members (j + 1) ≡ true → 0 < adds row j
    adds-from l a =
        let w = between-up bs (at_row s.tmax row) (j + 1) q f.there (omega (arith, f.place, f.above, k.thick)) (omega (arith, f.place, k.thick)) in
        let x = (share-between s.height (column_of bs) c (height_of (at_row s.tmax row)) (j + 1)).1 w in
        omega (arith, addend-allowed s.members s.tmax row j k.greatest u (column_of bs) k.thick a, x)

    -- the inside count gives it
    pub adds-counted : (n : ℕ) → n ≡ inside bs (at_row s.tmax row) (j + 1) → allowed s.members (j + 1) ≡ true → min n (j + 1 - n) ≡ adds row j
    adds-counted n e a =
        let i : n ≡ inside_count bs (height_of (at_row s.tmax row)) (j + 1) = e ∙ sym (inside_is bs (at_row s.tmax row) (j + 1)) in
        ap (λ (x : ℕ). min x (j + 1 - x)) i ∙ sym (addend-allowed s.members s.tmax row j k.greatest u (column_of bs) k.thick a)

    pub adds-barred : allowed s.members (j + 1) ≡ false → adds row j ≡ 0
    adds-barred a = addend-barred s.members s.tmax row j k.greatest u (column_of bs) a

    module _ (caps table : List ℕ) where
      pub heaped-before : j < first → heaped s.members caps table (column_of bs) (row * s.tmax) j ≡ false
      heaped-before l = sym (heaped-untouched s.members caps table (column_of bs) (row * s.tmax) j (omega (arith, adds-before l)))

      pub heaped-no : above caps table (row * s.tmax) j ≡ false → heaped s.members caps table (column_of bs) (row * s.tmax) j ≡ false
      unfolding heaped
      heaped-no e = and-false (ltb 0 (adds row j)) (above caps table (row * s.tmax) j) e

      -- a cell above its cap is one of an allowed thickness
      pub heaped-yes : first ≤ j → Allowing s.members s.tmax caps → get_or caps j 0 < get_or table (row * s.tmax + j) 0 → get_or table (row * s.tmax + j) 0 < 4294967296
          → heaped s.members caps table (column_of bs) (row * s.tmax) j ≡ true
      heaped-yes l w x y =
          sym (heaped-touched s.members caps table (column_of bs) (row * s.tmax) j (adds-from l (sym (w.are j u) ∙ lt-ltb (get_or caps j 0) greatest_cell (omega arith))))
          ∙ above-yes caps table (row * s.tmax) j x

  -- ---- the way up the boundaries and the rows

  some : 1 ≤ s.tmax
  some = omega (arith, k.thin, k.order)

  pub reached-none : Reached bs s.tmax s.rows 0 0
  reached-none = record { few = omega arith; low = omega arith; under = under_none bs s.tmax 0; next = λ h. omega (arith, some) }

  -- a turn: the rows near boundary q from there on, and then the next boundary
  module _ {q row : ℕ} (w : Reached bs s.tmax s.rows q row) (l : q < length bs) (b : ℕ) (is : b ≡ get_or bs q 0) where
    pub reached-in : b + s.tmax - 1 ≤ s.rows
    reached-in = omega (arith, is, c.within q l, k.rows_are, some)

    pub reached-near : (from : ℕ) → from ≡ max row b → Near bs s.tmax from (b + s.tmax - 1) q
    reached-near from e = near-from from b l is some w.under (w.next l) e

    pub reached-next : Reached bs s.tmax s.rows (q + 1) (b + s.tmax - 1)
    reached-next = record {
      few = omega arith;
      low = reached-in;
      under = under_more c.rising l (omega (arith, is, some));
      next = λ h.
          let e : q + 1 ≡ suc q = omega arith in
          rw e (omega (arith, is, some, c.rising q (omega arith)));
    }

  -- ---- rows that no boundary is near

  -- no boundary is after the start of row r and before the end of its thickest layer
  abbrev Calm : ℕ → Type 0
  Calm r = (i : ℕ) → i < length bs → (get_or bs i 0 + s.tmax ≤ r + 1) ⊎ (r < get_or bs i 0)

  adds-calm : (r j : ℕ) → Calm r → j < s.tmax → adds r j ≡ 0
  adds-calm r j calm u = adds_none r j u (λ w. step w (calm w.index w.there))
    where
      step : (w : Between bs (height_of (at_row s.tmax r)) (j + 1)) → (get_or bs w.index 0 + s.tmax ≤ r + 1) ⊎ (r < get_or bs w.index 0) → ⊥
      step w (inl x) = let a = after-at bs (at_row s.tmax r) (j + 1) w in omega (arith, k.thick)
      step w (inr x) = let b = before_at bs (at_row s.tmax r) (j + 1) w in omega (arith, k.thick)

  -- rows passed over: from where the way has come to, up to the first row that the next boundary is near
  pub calm-skip : {q row : ℕ} → Reached bs s.tmax s.rows q row → (from b : ℕ) → b ≡ get_or bs q 0 → from ≡ max row b → (r : ℕ) → row ≤ r → r < from → Calm r
  calm-skip {q} {row} w from b is e r l v i there = go (dec_lt i q)
    where
      go : Dec (i < q) → (get_or bs i 0 + s.tmax ≤ r + 1) ⊎ (r < get_or bs i 0)
      go (yes x) = inl (omega (arith, w.under.are i x))
      go (no x) = inr (omega (arith, rising-to bs c.rising q i (omega arith) there))

  -- and past the last boundary
  pub calm-end : {q row : ℕ} → length bs ≤ q → Reached bs s.tmax s.rows q row → (r : ℕ) → row ≤ r → Calm r
  calm-end l w r v i there = inl (omega (arith, w.under.are i (omega arith)))

  -- cell by cell
  calm-cells : (a b : ℕ) → ((r : ℕ) → a ≤ r → r < b → Calm r) → (x : ℕ) → a * s.tmax ≤ x → x < b * s.tmax → addend s.members (column_of bs) x ≡ 0
  calm-cells a b calm x l v =
      let lo = (le-div_iff_mul-le {x = a} {y = x} some).1 l in
      let hi = (div-lt_iff_lt-mul {x = x} {y = b} some).1 v in
      subst (λ (i : ℕ). addend s.members (column_of bs) i ≡ 0) (div-add-mod' x s.tmax)
      (adds-calm (x / s.tmax) (x % s.tmax) (calm (x / s.tmax) lo hi) (mod-lt x some))

  -- a column without boundaries adds nothing
  pub none-added : length bs ≡ 0 → (i : ℕ) → i < s.cells → addend s.members (column_of bs) i ≡ 0
  none-added e i l = calm-cells 0 s.rows (λ r u v. calm-end (omega arith) reached-none r u) i (omega arith) (omega (arith, k.cells_are))

  -- to pass over them is to add what the column adds there
  pub span-calm : {old new : List ℕ} (a b : ℕ) → a * s.tmax ≤ b * s.tmax → ((r : ℕ) → a ≤ r → r < b → Calm r)
      → Span 0 0 (a * s.tmax) (λ i x. x + addend s.members (column_of bs) i) old new → Span 0 0 (b * s.tmax) (λ i x. x + addend s.members (column_of bs) i) old new
  span-calm a b l calm w = span_rest (b * s.tmax) w l (λ m u v. omega (arith, calm-cells a b calm m u v))

  -- and none of their cells is one that the search is for
  pub none-calm : (caps table : List ℕ) (a b : ℕ) → ((r : ℕ) → a ≤ r → r < b → Calm r)
      → ((i : ℕ) → i < a * s.tmax → heaped_at s.members caps table (column_of bs) s.tmax i ≡ false)
      → (i : ℕ) → i < b * s.tmax → heaped_at s.members caps table (column_of bs) s.tmax i ≡ false
  unfolding heaped_at
  none-calm caps table a b calm w i l = go (dec_lt i (a * s.tmax))
    where
      go : Dec (i < a * s.tmax) → heaped_at s.members caps table (column_of bs) s.tmax i ≡ false
      go (yes x) = w i x
      go (no x) = let e = calm-cells a b calm i (omega arith) l in rw e refl
