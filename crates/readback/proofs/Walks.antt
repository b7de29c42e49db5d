-- A walk down a sheet, layer by layer, as the loop goes: `look` tells the thickness t of the layer k under the height h. What is left of the
-- walk ends as the whole does, and its boundaries, under the heights that are noted, are those of the whole. The heights are then written
-- from the lowest up, over what the output held. Assumes nothing.
use Prim.Native.Nat.{ℕ, zero, suc, ◌+◌, ◌-◌, ◌≤◌, ◌<◌}
use mathlib.Core.Path.{◌≡◌, refl, sym, ap, ◌∙◌}
use mathlib.Core.Bool.{Bool, true, false, cond, not, ◌&&◌, ◌||◌}
use mathlib.Core.List.{List, [], ◌∷◌, ◌++◌, map}
use mathlib.Core.Option.{none, some}
use native.Mathlib.Nat.{le_of_lt, not-suc-le-zero, le_of_suc-le-suc}
use native.Mathlib.Numerals.{add-one, sub-one}
use native.Mathlib.Omega.{arith}
use borrow.Author.Tests.{ltb-true, lt-ltb, le-ltb}
use lib.Dec.{ltb, eqb}
use lib.IntN.{ℤ}
use lib.ListN.{length, set, take, drop, get_or}
use lib.Seq.{set_split, drop_at, length-take-le, take-set-lt}
use Rattle.paper.specs.Layer.{allowed, tmax}
use Rattle.paper.proofs.Thicknesses.{and-true}
use Rattle.plate.specs.Datum.{height_of}
use Rattle.sequence.specs.Sequence.{starts, lowest_end}
use Rattle.sequence.specs.Sheets.{reads_back, fault_under, boundaries_under}
use Rattle.readback.specs.Walking.{fault_of, noted_from, Walked}
use Rattle.std.specs.Prelude.{Result, Err, ⊤}

fault-step : (look : ℕ → ℕ → ℕ) (N T n k h : ℕ) → 0 < k → fault_under look N T n k h
    ≡ cond (reads_back N T n k h (look k h)) (fault_under look N T n (k - 1) (h - look k h)) (some k)
unfolding fault_under
fault-step look N T n zero h p = absurd (omega arith)
fault-step look N T n (suc k) h p = rw sub-one

boundaries-step : (look : ℕ → ℕ → ℕ) (k h : ℕ) (above : List ℤ) → 0 < k
    → boundaries_under look k h above ≡ boundaries_under look (k - 1) (h - look k h) (height_of h ∷ above)
unfolding boundaries_under
boundaries-step look zero h above p = absurd (omega arith)
boundaries-step look (suc k) h above p = rw sub-one

module _ (look : ℕ → ℕ → ℕ) (N T n k h t : ℕ) (p : 0 < k) (is : t ≡ look k h) where
  step : fault_under look N T n k h ≡ cond (reads_back N T n k h t) (fault_under look N T n (k - 1) (h - t)) (some k)
  step = fault-step look N T n k h p ∙ rw is

  -- a layer that does not read back
  pub fault-here : reads_back N T n k h t ≡ false → fault_under look N T n k h ≡ some k
  fault-here e = step ∙ rw e

  pub fault-on : reads_back N T n k h t ≡ true → fault_under look N T n k h ≡ fault_under look N T n (k - 1) (h - t)
  fault-on e = step ∙ rw e

-- the end of a walk
pub fault-end : (look : ℕ → ℕ → ℕ) (N T n k h : ℕ) → k ≡ 0 → starts (tmax T) h ≡ false → fault_under look N T n k h ≡ some 0
unfolding fault_under
fault-end look N T n k h e s = rw (e, s)

pub fine_end : (look : ℕ → ℕ → ℕ) (N T n k h : ℕ) → k ≡ 0 → starts (tmax T) h ≡ true → fault_under look N T n k h ≡ none
unfolding fault_under
fine_end look N T n k h e s = rw (e, s)

-- the tests of a layer, in the order in which they are asked
module _ (N T n k h t : ℕ) where
  abbrev top : Bool
  top = not (eqb k n) || ltb (h - t) (lowest_end N)

  abbrev bottom : Bool
  bottom = not (eqb k 1) || ltb 32 h

  pub barred : allowed T t ≡ false → reads_back N T n k h t ≡ false
  unfolding reads_back
  barred a = simp a

  pub stepped-under : h - t + tmax T ≤ 32 → reads_back N T n k h t ≡ false
  unfolding reads_back
  stepped-under l = go (allowed T t)
    where
      go : (b : Bool) → (b && ltb 32 (h - t + tmax T)) && (top && bottom) ≡ false
      go true = simp (le-ltb 32 (h - t + tmax T) l)
      go false = refl

  -- past these two
  pub step-fine : allowed T t ≡ true → 32 < h - t + tmax T → reads_back N T n k h t ≡ top && bottom
  unfolding reads_back
  step-fine a l = simp (a, lt-ltb 32 (h - t + tmax T) l)

  -- a step down that reads back is not below the lowest row
  pub step_from : reads_back N T n k h t ≡ true → 32 < h - t + tmax T
  unfolding reads_back
  step_from e =
      let a = and-true (allowed T t && ltb 32 (h - t + tmax T)) (top && bottom) e in
      ltb-true _ _ (and-true (allowed T t) (ltb 32 (h - t + tmax T)) a.0).1

-- a store at k, seen from k on
stored : (l : List ℕ) (k h : ℕ) → k < length l → drop k (set l k h) ≡ h ∷ drop (k + 1) l
stored l k h p = ap (drop k) (set_split l k h p) ∙ drop_at (take k l) (h ∷ drop (suc k) l) k (length-take-le k l (le_of_lt p)) ∙ rw add-one

noted : (n k h : ℕ) (l : List ℕ) → k ≤ n → n < length l → noted_from k n (set l k h) ≡ height_of h ∷ noted_from (k + 1) n l
noted n k h l p q =
    let long : length (take (n + 1) l) ≡ n + 1 = length-take-le (n + 1) l (omega arith) in
    ap (λ (r : List ℕ). map height_of (drop k r)) (take-set-lt (n + 1) l k h (omega arith))
    ∙ ap (map height_of) (stored (take (n + 1) l) k h (omega arith))

-- one height noted, of the layers under m, and a step down to the next: the boundaries still to note, under those that are, are as before
pub noted_more : (look : ℕ → ℕ → ℕ) (n m h t noted-height next : ℕ) (l : List ℕ) → 1 < m → m ≤ n + 1 → n < length l → t ≡ look (m - 1) h → noted-height ≡ h → next ≡ h - t
    → boundaries_under look (m - 1 - 1) next (noted_from (m - 1) n (set l (m - 1) noted-height)) ≡ boundaries_under look (m - 1) h (noted_from m n l)
noted_more look n m h t v g l p u q is e d =
    let back : m - 1 + 1 ≡ m = omega arith in
    rw (e, d, noted n (m - 1) h l (omega arith) q, is, back) (sym (boundaries-step look (m - 1) h (noted_from m n l) (omega arith)))

pub noted-last : (look : ℕ → ℕ → ℕ) (n m h noted-height : ℕ) (l : List ℕ) → m ≡ 1 → n < length l → noted-height ≡ h
    → noted_from 0 n (set l 0 noted-height) ≡ boundaries_under look (m - 1) h (noted_from m n l)
unfolding boundaries_under
noted-last look n m h v l e q i = rw (i, e) (noted n 0 h l (omega arith) q)

-- boundaries over what stands past them
boundaries-over : (look : ℕ → ℕ → ℕ) (m h : ℕ) (above rest : List ℤ)
    → boundaries_under look m h above ++ rest ≡ boundaries_under look m h (above ++ rest)
unfolding boundaries_under
boundaries-over look zero h above rest = refl
boundaries-over look (suc m) h above rest = boundaries-over look m (h - look (suc m) h) (height_of h ∷ above) rest

-- a walk with a fault has nothing to note
pub faulted : (look : ℕ → ℕ → ℕ) (N T n top layer : ℕ) (heights : List ℕ) → fault_under look N T n n top ≡ some layer → Walked look N T n top (Err layer) heights
faulted look N T n top layer heights e = record { ends = sym e; notes = λ q. let z : ◌≡◌ {A = ℕ} 0 1 = cc in absurd (omega arith) }

-- what a walk without a fault noted, over what stands past it
pub noted-under : (look : ℕ → ℕ → ℕ) (N T n top : ℕ) (walk : Result ⊤ ℕ) (heights : List ℕ) (rest new : List ℤ) → Walked look N T n top walk heights → fault_of walk ≡ none
    → new ≡ noted_from 0 n heights ++ rest → new ≡ boundaries_under look n top rest
noted-under look N T n top walk heights rest new w e is = is ∙ ap (λ (l : List ℤ). l ++ rest) (w.notes e) ∙ boundaries-over look n top [] rest

-- a turn of the loop that writes the heights
pub written : (l : List ℕ) (old : List ℤ) (k : ℕ) (z : ℤ) → k < length l → k < length old → z ≡ height_of (get_or l k 0)
    → set (map height_of (take k l) ++ drop k old) k z ≡ map height_of (take (suc k) l) ++ drop (suc k) old
written [] old k z p q e = absurd (not-suc-le-zero p)
written (x ∷ l) [] k z p q e = absurd (not-suc-le-zero q)
written (x ∷ l) (y ∷ old) zero z p q e = ap (λ (w : ℤ). w ∷ old) e
written (x ∷ l) (y ∷ old) (suc k) z p q e =
    ap (λ (r : List ℤ). height_of x ∷ r) (written l old k z (le_of_suc-le-suc p) (le_of_suc-le-suc q) e)
