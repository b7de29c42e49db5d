-- 'Voxel z is inside exactly if an odd number of boundaries are at or below z; all others, also below 0 and from N up, are outside.' Below 0 no
-- boundary is at or below the voxel; from N up all of them are, and they are an even number. So a layer that ends at 0 or below, or starts at N or above,
-- has no inside voxel. Assumes nothing.
use Prim.Native.Nat.{ℕ, zero, suc, ◌+◌, ◌-◌, ◌%◌, ◌≤◌, ◌<◌}
use mathlib.Core.Path.{◌≡◌, refl, ap, ap₂, ◌∙◌}
use mathlib.Core.Bool.{Bool, false, cond}
use mathlib.Core.List.{List, [], ◌∷◌}
use native.Mathlib.Omega.{arith}
use native.Mathlib.Decide.{dec_lt}
use borrow.Author.Tests.{le-leb, ne_eqb, lt-ltb, le-ltb}
use lib.Dec.{T, eqb, ltb→lt, leb→le, le→leb}
use lib.IntN.{ℤ, pos, negsuc, ◌+ℤ◌}
use lib.ListN.{length, get_or}
use lib.Signed.{le_z, ◌≤ℤ◌, ◌<ℤ◌, le_z_yes, lt_z_yes}
use Rattle.paper.specs.Layer.{Column, IsColumn, at_or_below, inside, inside_count}

none_below : (bs : List ℕ) (n : ℕ) → at_or_below bs (negsuc n) ≡ 0
none_below [] n = refl
none_below (b ∷ bs) n = let e = none_below bs n in omega arith

-- below 0, whatever the boundaries
pub outside_below : (bs : List ℕ) (z : ℤ) → z <ℤ pos 0 → inside bs z ≡ false
outside_below bs (pos n) l = absurd (let u = ltb→lt n 0 l.lt in omega arith)
outside_below bs (negsuc n) l = ap (λ k. eqb (k % 2) 1) (none_below bs n)

all-below : (bs : List ℕ) (N z : ℕ) → ((k : ℕ) → k < length bs → get_or bs k 0 ≤ N) → N ≤ z → at_or_below bs (pos z) ≡ length bs
all-below [] N z w l = refl
all-below (b ∷ bs) N z w l =
    let e = le-leb b z (let x = w 0 (omega arith) in omega arith) in
    let r = all-below bs N z (λ k u. w (suc k) (omega arith)) l in
    rw e (omega arith)

-- from N up
pub outside_above : (N : ℕ) (column : Column) → IsColumn N column → (z : ℤ) → pos N ≤ℤ z → inside column.boundaries z ≡ false
outside_above N column c (pos z) l =
    let e = all-below column.boundaries N z c.within (leb→le N z l.le) in
    let o : length column.boundaries % 2 ≡ 1 → ⊥ = (λ q. omega (arith, c.even)) in
    ap (λ k. eqb (k % 2) 1) e ∙ ne_eqb (length column.boundaries % 2) 1 o
outside_above N column c (negsuc z) l = absurd l.le

-- ---- layers

no-voxel : (bs : List ℕ) (z : ℤ) (t : ℕ) → ((k : ℕ) → k < t → inside bs (z +ℤ pos k) ≡ false) → inside_count bs z t ≡ 0
no-voxel bs z zero f = refl
no-voxel bs z (suc t) f = ap₂ (λ (n : ℕ) (b : Bool). n + cond b 1 0) (no-voxel bs z t (λ k l. f k (omega arith))) (f t (omega arith))

ends_low : (z : ℤ) (k t : ℕ) → k < t → (z +ℤ pos t) ≤ℤ pos 0 → (z +ℤ pos k) <ℤ pos 0
ends_low (pos n) k t l e = absurd (let u = leb→le (n + t) 0 e.le in omega arith)
ends_low (negsuc n) k t l e = go (dec_lt k (suc n))
  where
    go : Dec (k < suc n) → (negsuc n +ℤ pos k) <ℤ pos 0
    go (yes m) = rw (lt-ltb k (suc n) m) (lt_z_yes tt)
    go (no m) = absurd (ends-high e.le)
      where
        ends-high : T (le_z (negsuc n +ℤ pos t) (pos 0)) → ⊥
        ends-high = rw (le-ltb t (suc n) (omega arith)) (λ u. omega (arith, leb→le (t - suc n) 0 u))

-- wholly under the plate
pub layer_below : (bs : List ℕ) (z : ℤ) (t : ℕ) → (z +ℤ pos t) ≤ℤ pos 0 → inside_count bs z t ≡ 0
layer_below bs z t e = no-voxel bs z t (λ k l. outside_below bs (z +ℤ pos k) (ends_low z k t l e))

-- wholly over it
pub layer-above : (N : ℕ) (column : Column) → IsColumn N column → (z : ℤ) (t : ℕ) → pos N ≤ℤ z → inside_count column.boundaries z t ≡ 0
layer-above N column c (pos z) t l =
    let low = leb→le N z l.le in
    no-voxel column.boundaries (pos z) t (λ k m. outside_above N column c (pos (z + k)) (le_z_yes (le→leb N (z + k) (omega arith))))
layer-above N column c (negsuc z) t l = absurd l.le
