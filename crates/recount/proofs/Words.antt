-- Document 01's own words on whole numbers, and the heights from the datum that a sequence is recounted by: a start, the end, the difference
-- of two boundaries, and a layer. The tests are the datum's own laws; the difference goes by cases on the signs. Every whole number of -32
-- or less has the datum height 0: it is no start, and above none, so its difference from a boundary over the datum is no thickness.
-- Assumes nothing.
use mathlib.Core.Path.{◌≡◌, refl, sym, ap, ap₂, ◌∙◌}
use mathlib.Core.Bool.{Bool, true, false, not, ◌||◌}
use mathlib.Core.List.{List}
use Prim.Native.Nat.{ℕ, zero, suc, ◌+◌, ◌-◌, ◌≤◌, ◌<◌}
use native.Mathlib.Omega.{arith}
use native.Mathlib.Decide.{dec_le, dec_lt}
use borrow.Author.Tests.{lt-ltb, le-ltb, le-leb, lt-leb}
use lib.Dec.{leb, ltb}
use lib.IntN.{ℤ, pos, negsuc, neg_ℤ, nat_abs, ◌-ℤ◌}
use lib.Signed.{le_z, lt_z}
use Rattle.paper.specs.Layer.{allowed, tmax}
use Rattle.paper.specs.Table.{natural, cell_at, of_table}
use Rattle.paper.specs.Sequence.{◌!◌, error_at}
use Rattle.paper.proofs.Thicknesses.{tmax-le, allowed-under}
use Rattle.plate.specs.Datum.{datum, height_of}
use Rattle.plate.proofs.Datum.{natural-sub, below-height, above-height, pos-height, neg-height}
use Rattle.sequence.specs.Sequence.{starts, lowest_end}
use Rattle.sequence.proofs.Layers.{start-in, start-low, start-high}
use Rattle.table.specs.Cells.{cell_from}
use Rattle.table.proofs.Cells.{cell-is}
use Rattle.recount.specs.Recount.{out_between, layer_out}

-- ---- two boundaries

-- the difference of two boundaries, the lower of which is not under the datum
pub difference : (a b : ℤ) → 1 ≤ datum a → natural (b -ℤ a) ≡ datum b - datum a
difference (pos zero) (pos b) h = omega arith
difference (pos (suc a)) (pos b) h = natural-sub b (suc a) ∙ omega arith
difference (pos zero) (negsuc b) h = natural-sub 0 (suc b) ∙ omega arith
difference (pos (suc a)) (negsuc b) h = omega arith
difference (negsuc a) (pos b) h = omega arith
difference (negsuc a) (negsuc b) h = natural-sub (suc a) (suc b) ∙ omega arith

rising : (z : ℤ) → 1 ≤ natural z → nat_abs z ≡ natural z
rising (pos n) l = refl
rising (negsuc n) l = absurd (omega arith)

pub rise : (a b : ℤ) → 1 ≤ datum a → datum a < datum b → nat_abs (b -ℤ a) ≡ datum b - datum a
rise a b h l = rising (b -ℤ a) (omega (arith, difference a b h)) ∙ difference a b h

-- the error of a layer over a table is its cell
pub error-is : (N T : ℕ) (table : List ℕ) (zs : List ℤ) (k : ℕ) → 1 ≤ tmax T → 1 ≤ datum (zs ! k) → datum (zs ! k) < datum (zs ! suc k)
    → error_at (of_table N T table) zs k ≡ cell_from T table (datum (zs ! k)) (datum (zs ! suc k) - datum (zs ! k))
error-is N T table zs k some from l = ap (cell_at T table (zs ! k)) (rise (zs ! k) (zs ! suc k) from l) ∙ cell-is T some table (zs ! k) _

-- ---- a start: 'z0 out of range'

-- at most is not above
le_not : (a b : ℕ) → leb a b ≡ not (ltb b a)
le_not a b = go (dec_le a b)
  where
    go : Dec (a ≤ b) → leb a b ≡ not (ltb b a)
    go (yes l) = le-leb a b l ∙ sym (ap not (le-ltb b a l))
    go (no l) = lt-leb a b (omega arith) ∙ sym (ap not (lt-ltb b a (omega arith)))

not-above : (a b : ℤ) → le_z a b ≡ not (lt_z b a)
not-above (pos a) (pos b) = le_not a b
not-above (pos a) (negsuc b) = refl
not-above (negsuc a) (pos b) = refl
not-above (negsuc a) (negsuc b) = le_not b a

-- not -tmax < z ≤ 0
pub start-words : (T : ℕ) (z : ℤ) → not (starts (tmax T) (datum z)) ≡ (le_z z (neg_ℤ (pos (tmax T))) || lt_z (pos 0) z)
start-words T z = go (dec_lt 32 (datum z + tmax T)) (dec_le (datum z) 32) ∙ sym said
  where
    said : (le_z z (neg_ℤ (pos (tmax T))) || lt_z (pos 0) z) ≡ (not (ltb (32 - tmax T) (datum z)) || ltb 32 (datum z))
    said =
        ap₂ ◌||◌
        (not-above z (neg_ℤ (pos (tmax T))) ∙ ap not (ap (λ (x : ℤ). lt_z x z) (neg-height (tmax T) (tmax-le T)) ∙ above-height z (32 - tmax T)))
        (ap (λ (x : ℤ). lt_z x z) (pos-height 0) ∙ above-height z 32)

    go : Dec (32 < datum z + tmax T) → Dec (datum z ≤ 32) → not (starts (tmax T) (datum z)) ≡ (not (ltb (32 - tmax T) (datum z)) || ltb 32 (datum z))
    go (no l) d = let u : datum z ≤ 32 - tmax T = omega (arith, tmax-le T) in simp (start-low (tmax T) (datum z) (omega arith), le-ltb (32 - tmax T) (datum z) u)
    go (yes l) (no u) =
        let k : 32 - tmax T < datum z = omega (arith, tmax-le T) in
        simp (start-high (tmax T) (datum z) (omega arith), lt-ltb (32 - tmax T) (datum z) k, lt-ltb 32 (datum z) (omega arith))
    go (yes l) (yes u) =
        let k : 32 - tmax T < datum z = omega (arith, tmax-le T) in
        simp (start-in (tmax T) (datum z) l u, lt-ltb (32 - tmax T) (datum z) k, le-ltb 32 (datum z) u)

-- ---- the end: 'zn below N'

pub end-words : (N : ℕ) (z : ℤ) → ltb (datum z) (lowest_end N) ≡ lt_z z (pos N)
end-words N z = sym (ap (lt_z z) (pos-height N) ∙ below-height z (lowest_end N) (omega arith))

-- ---- document 02 b): 'if z1 is 0 or less', 'if the boundary before zn is N or more'

pub first-words : (z : ℤ) → leb (datum z) 32 ≡ le_z z (pos 0)
first-words z =
    le_not (datum z) 32 ∙ ap not (sym (ap (λ (x : ℤ). lt_z x z) (pos-height 0) ∙ above-height z 32)) ∙ sym (not-above z (pos 0))

pub before-last-words : (N : ℕ) (z : ℤ) → leb (lowest_end N) (datum z) ≡ le_z (pos N) z
before-last-words N z = le_not (lowest_end N) (datum z) ∙ ap not (end-words N z) ∙ sym (not-above (pos N) z)

-- ---- a layer: 'whose difference from the boundary before isn't in T, which is above N+tmax-1, or whose layer is over the bound'

module _ (N T : ℕ) (table : List ℕ) (bound : ℕ) (zs : List ℤ) (k : ℕ) (some : 1 ≤ tmax T) (from : 32 < datum (zs ! k) + tmax T) where
  over : 1 ≤ datum (zs ! k)
  over = omega (arith, tmax-le T)

  above-words : lt_z (pos (N + tmax T - 1)) (zs ! suc k) ≡ ltb (N + tmax T + 31) (datum (zs ! suc k))
  above-words =
      let e : N + tmax T - 1 + 32 ≡ N + tmax T + 31 = omega arith in
      ap (λ (x : ℤ). lt_z x (zs ! suc k)) (pos-height (N + tmax T - 1) ∙ ap height_of e) ∙ above-height (zs ! suc k) (N + tmax T + 31)

  abbrev t : ℕ
  t = datum (zs ! suc k) - datum (zs ! k)

  pub layer-words : layer_out N T table bound zs k
      ≡ (not (allowed T (natural (zs ! suc k -ℤ zs ! k))) || (lt_z (pos (N + tmax T - 1)) (zs ! suc k) || ltb bound (error_at (of_table N T table) zs k)))
  unfolding layer_out out_between
  layer-words =
      go (allowed T t) refl (dec_lt (datum (zs ! k)) (datum (zs ! suc k)))
      ∙ sym (ap₂ (λ (a b : Bool). not a || (b || ltb bound (error_at (of_table N T table) zs k))) (ap (allowed T) (difference (zs ! k) (zs ! suc k) over)) above-words)
    where
      go : (b : Bool) → allowed T t ≡ b → Dec (datum (zs ! k) < datum (zs ! suc k))
          → (not (allowed T t) || (ltb (N + tmax T + 31) (datum (zs ! suc k)) || ltb bound (cell_from T table (datum (zs ! k)) t)))
          ≡ (not (allowed T t) || (ltb (N + tmax T + 31) (datum (zs ! suc k)) || ltb bound (error_at (of_table N T table) zs k)))
      go false e d = simp e
      go true e (no l) = let z = allowed-under T t (omega arith) in absurd (let x : ◌≡◌ {A = ℕ} 0 1 = cc in omega arith)
      go true e (yes l) = rw (error-is N T table zs k some over l) refl
