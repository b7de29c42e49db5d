-- Document 01: 'The share isn't 0 exactly when some boundary lies strictly between z and z+t.' Where none does, the same boundaries are at
-- or below every voxel of the layer, so all voxels are alike. One that does has one more boundary at or below its own voxel than there are
-- at or below the voxel under it, so one of the two is inside and the other is not. Every whole number is a natural number less another,
-- so that each test is one of natural numbers, for layers anywhere. Assumes nothing.
use Prim.Native.Nat.{ℕ, zero, suc, ◌+◌, ◌-◌, ◌*◌, ◌%◌, ◌≤◌, ◌<◌}
use mathlib.Core.Path.{◌≡◌, refl, sym, ap, ap₂, ◌∙◌}
use mathlib.Core.Logic.{◌↔◌, ◌⊎◌, inl, inr}
use mathlib.Core.Bool.{Bool, true, false, cond}
use mathlib.Core.List.{List, [], ◌∷◌}
use native.Mathlib.Omega.{arith}
use native.Mathlib.Decide.{dec_lt, ℕ_discrete}
use lib.Dec.{leb, ltb, lt→ltb, ltb→lt}
use lib.IntN.{ℤ, pos, negsuc, ◌+ℤ◌, +ℤ_idr}
use lib.ListN.{length, get_or}
use lib.Signed.{le_z, lt_z, lt_z_yes}
use borrow.Author.Tests.{ltb-true, ltb-false, leb-true, leb-false, le-leb, lt-leb, lt-ltb}
use Rattle.paper.specs.Layer.{Column, IsColumn, at_or_below, inside_count, share, Between}
use Rattle.paper.specs.Table.{natural}
use Rattle.paper.proofs.Pictures.{inside-most}
use Rattle.plate.proofs.Datum.{leb-same}
use Rattle.column.proofs.Shares.{bit, odd}

-- the boundaries rise, so the first is the least
abbrev pub Rising : List ℕ → Type 0
Rising bs = (k : ℕ) → suc k < length bs → get_or bs k 0 < get_or bs (suc k) 0

first-least : (b : ℕ) (bs : List ℕ) → Rising (b ∷ bs) → (j : ℕ) → j < length bs → b < get_or bs j 0
first-least b bs r zero l = r 0 (omega arith)
first-least b bs r (suc j) l = omega (arith, first-least b bs r j (omega arith), r (suc j) (omega arith))

-- z is natural z less depth z
abbrev depth : ℤ → ℕ
depth (pos n) = 0
depth (negsuc n) = suc n

-- ---- the tests over natural numbers

reaches : (z : ℤ) (b k : ℕ) → le_z (pos b) (z +ℤ pos k) ≡ leb (b + depth z) (natural z + k)
reaches (pos n) b k = let e : b ≡ b + 0 = omega arith in ap (λ c. leb c (n + k)) e
reaches (negsuc n) b k = go (ltb k (suc n)) refl
  where
    go : (c : Bool) → ltb k (suc n) ≡ c → le_z (pos b) (cond c (negsuc (suc n - suc k)) (pos (k - suc n))) ≡ leb (b + suc n) (0 + k)
    go true e = sym (lt-leb (b + suc n) (0 + k) (omega (arith, ltb-true k (suc n) e)))
    go false e = let l = ltb-false k (suc n) e in leb-same b (k - suc n) (b + suc n) (0 + k) (λ x. omega arith) (λ x. omega arith)

after_is : (z : ℤ) (b : ℕ) → lt_z z (pos b) ≡ ltb (natural z) (b + depth z)
after_is (pos n) b = let e : b ≡ b + 0 = omega arith in ap (ltb n) e
after_is (negsuc n) b = sym (lt-ltb 0 (b + suc n) (omega arith))

before-is : (z : ℤ) (b t : ℕ) → lt_z (pos b) (z +ℤ pos t) ≡ ltb (b + depth z) (natural z + t)
before-is z b t =
    let e : suc b + depth z ≡ suc (b + depth z) = omega arith in
    go (z +ℤ pos t) ∙ reaches z (suc b) t ∙ ap (λ c. leb c (natural z + t)) e
  where
    go : (y : ℤ) → lt_z (pos b) y ≡ le_z (pos (suc b)) y
    go (pos n) = refl
    go (negsuc n) = refl

module _ (z : ℤ) where
  abbrev u : ℕ
  u = natural z

  abbrev d : ℕ
  d = depth z

  -- how many boundaries are at or below the voxel k of the layer
  abbrev below : List ℕ → ℕ → ℕ
  below bs k = at_or_below bs (z +ℤ pos k)

  bit-one : (b k : ℕ) → b + d ≤ u + k → bit (le_z (pos b) (z +ℤ pos k)) ≡ 1
  bit-one b k l = ap bit (reaches z b k ∙ le-leb (b + d) (u + k) l)

  bit-none : (b k : ℕ) → u + k < b + d → bit (le_z (pos b) (z +ℤ pos k)) ≡ 0
  bit-none b k l = ap bit (reaches z b k ∙ lt-leb (b + d) (u + k) l)

  -- a boundary strictly between z and z + t
  between : (bs : List ℕ) (i t : ℕ) → i < length bs → u < get_or bs i 0 + d → get_or bs i 0 + d < u + t → Between bs z t
  between bs i t h l k = record {
    index = i;
    there = h;
    after = lt_z_yes (rw (after_is z (get_or bs i 0)) (lt→ltb u (get_or bs i 0 + d) l));
    before = lt_z_yes (rw (before-is z (get_or bs i 0) t) (lt→ltb (get_or bs i 0 + d) (u + t) k));
  }

  after-at : (bs : List ℕ) (t : ℕ) (w : Between bs z t) → u < get_or bs w.index 0 + d
  after-at bs t w = ltb→lt u (get_or bs w.index 0 + d) (rw (after_is z (get_or bs w.index 0)) at w.after.lt)

  before_at : (bs : List ℕ) (t : ℕ) (w : Between bs z t) → get_or bs w.index 0 + d < u + t
  before_at bs t w = ltb→lt (get_or bs w.index 0 + d) (u + t) (rw (before-is z (get_or bs w.index 0) t) at w.before.lt)

  -- one voxel more
  more : (bs : List ℕ) (t : ℕ) → inside_count bs z (suc t) ≡ inside_count bs z t + below bs t % 2
  more bs t = ap (λ n. inside_count bs z t + n) (odd (below bs t))

  -- ---- none between: the voxels are alike

  -- a boundary between, or as many at or below the voxel t as at or below the first
  crossed : (bs : List ℕ) (t : ℕ) → Between bs z (suc t) ⊎ (below bs t ≡ below bs 0)
  crossed [] t = inr refl
  crossed (b ∷ bs) t = go (dec_lt u (b + d)) (dec_lt (u + t) (b + d)) (crossed bs t)
    where
      go : Dec (u < b + d) → Dec (u + t < b + d) → Between bs z (suc t) ⊎ (below bs t ≡ below bs 0)
          → Between (b ∷ bs) z (suc t) ⊎ (below (b ∷ bs) t ≡ below (b ∷ bs) 0)
      go l k (inl w) = inl (record { index = suc w.index; there = omega (arith, w.there); after = w.after; before = w.before })
      go (yes l) (yes k) (inr e) = inr (ap₂ ◌+◌ (bit-none b t k ∙ sym (bit-none b 0 (omega arith))) e)
      go (yes l) (no k) (inr e) = inl (between (b ∷ bs) 0 (suc t) (omega arith) l (omega arith))
      go (no l) k (inr e) = inr (ap₂ ◌+◌ (bit-one b t (omega arith) ∙ sym (bit-one b 0 (omega arith))) e)

  -- a boundary between, or all voxels inside or all outside
  alike : (bs : List ℕ) (t : ℕ) → Between bs z t ⊎ (inside_count bs z t ≡ t * (below bs 0 % 2))
  alike bs zero = inr (omega arith)
  alike bs (suc t) = go (alike bs t) (crossed bs t)
    where
      go : Between bs z t ⊎ (inside_count bs z t ≡ t * (below bs 0 % 2))
          → Between bs z (suc t) ⊎ (below bs t ≡ below bs 0)
          → Between bs z (suc t) ⊎ (inside_count bs z (suc t) ≡ suc t * (below bs 0 % 2))
      go (inl w) k = inl (between bs w.index (suc t) w.there (after-at bs t w) (omega (arith, before_at bs t w)))
      go (inr e) (inl w) = inl w
      go (inr e) (inr f) = inr (omega (arith, more bs t, e, ap (λ n. n % 2) f))

  to : (bs : List ℕ) (t : ℕ) → 0 < share bs z t → Between bs z t
  to bs t l = go (below bs 0 % 2) (omega arith) (alike bs t)
    where
      go : (r : ℕ) → r < 2 → Between bs z t ⊎ (inside_count bs z t ≡ t * r) → Between bs z t
      go r h (inl w) = w
      go zero h (inr e) = absurd (omega arith)
      go (suc zero) h (inr e) = absurd (omega arith)
      go (suc (suc r)) h (inr e) = absurd (omega arith)

  -- ---- one between: a voxel of each kind

  none_below : (bs : List ℕ) (k : ℕ) → ((j : ℕ) → j < length bs → u + k < get_or bs j 0 + d) → below bs k ≡ 0
  none_below [] k f = refl
  none_below (b ∷ bs) k f = ap₂ ◌+◌ (bit-none b k (f 0 (omega arith))) (none_below bs k (λ j l. f (suc j) (omega arith)))

  -- from the voxel under a boundary to the boundary's own
  one_more : (bs : List ℕ) (i k : ℕ) → Rising bs → i < length bs → get_or bs i 0 + d ≡ u + suc k
      → below bs (suc k) ≡ suc (below bs k)
  one_more [] i k r h e = absurd (omega arith)
  one_more (b ∷ bs) zero k r h e =
      let x = bit-one b (suc k) (omega arith) in
      let y = bit-none b k (omega arith) in
      let v = none_below bs (suc k) (λ j l. omega (arith, first-least b bs r j l)) in
      let w = none_below bs k (λ j l. omega (arith, first-least b bs r j l)) in
      omega arith
  one_more (b ∷ bs) (suc i) k r h e =
      let l = first-least b bs r i (omega arith) in
      let x = bit-one b (suc k) (omega arith) in
      let y = bit-one b k (omega arith) in
      let v = one_more bs i k (λ j m. r (suc j) (omega arith)) (omega arith) e in
      omega arith

  -- a layer counts each of its voxels as what it is
  counted : (bs : List ℕ) (t k : ℕ) → k < t
      → (below bs k % 2 ≤ inside_count bs z t) × (inside_count bs z t < t + below bs k % 2)
  counted bs zero k l = absurd (omega arith)
  counted bs (suc t) k l = go (ℕ_discrete k t) (λ m. counted bs t k m)
    where
      go : Dec (k ≡ t) → (k < t → (below bs k % 2 ≤ inside_count bs z t) × (inside_count bs z t < t + below bs k % 2))
          → (below bs k % 2 ≤ inside_count bs z (suc t)) × (inside_count bs z (suc t) < suc t + below bs k % 2)
      go (yes e) ih = let f = ap (below bs) e in let m = inside-most bs z t in let n = more bs t in (omega arith, omega arith)
      go (no e) ih = let y = ih (omega arith) in let n = more bs t in (omega arith, omega arith)

  from : (bs : List ℕ) (t : ℕ) → Rising bs → Between bs z t → 0 < share bs z t
  from bs t r w =
      let l = after-at bs t w in
      let m = before_at bs t w in
      let k = get_or bs w.index 0 + d - suc u in
      let x = counted bs t k (omega arith) in
      let y = counted bs t (suc k) (omega arith) in
      omega (arith, one_more bs w.index k r w.there (omega arith), x.0, x.1, y.0, y.1)

-- for every layer, also one that no table has
pub share-between : (N : ℕ) (column : Column) → IsColumn N column → (z : ℤ) (t : ℕ)
    → (0 < share column.boundaries z t) ↔ Between column.boundaries z t
share-between N column c z t = (to z column.boundaries t, from z column.boundaries t c.rising)

-- a boundary inside a layer is inside a thicker one from the same start
pub between-wider : (bs : List ℕ) (z : ℤ) (t most : ℕ) → t ≤ most → Between bs z t → Between bs z most
between-wider bs z t most l w = between z bs w.index most w.there (after-at z bs t w) (omega (arith, before_at z bs t w))

-- ---- the inside count and the boundaries passed, carried from one voxel to the next

-- one voxel more adds that voxel alone
pub count-carried : (bs : List ℕ) (z : ℤ) (t : ℕ) → inside_count bs z (t + 1) ≡ inside_count bs z t + at_or_below bs (z +ℤ pos t) % 2
count-carried bs z t = let e : t + 1 ≡ suc t = omega arith in ap (inside_count bs z) e ∙ more z bs t

-- a boundary that is the next voxel, by natural numbers
next_down : (z : ℤ) (b : ℕ) → pos b ≡ z +ℤ pos 1 → b + depth z ≡ natural z + 1
next_down z b e =
    let x = leb-true (b + depth z) (natural z + 1) (sym (reaches z b 1) ∙ ap (le_z (pos b)) (sym e) ∙ le-leb b b (omega arith)) in
    let y = leb-false (suc b + depth z) (natural z + 1) (sym (reaches z (suc b) 1) ∙ ap (le_z (pos (suc b))) (sym e) ∙ lt-leb (suc b) b (omega arith)) in
    omega arith

next_up : (z : ℤ) (b : ℕ) → b + depth z ≡ natural z + 1 → pos b ≡ z +ℤ pos 1
next_up (pos n) b e = ap pos (omega arith)
next_up (negsuc n) b e =
    let x : b ≡ 0 = omega arith in
    let y : n ≡ 0 = omega arith in
    rw (x, y) refl

-- at the next voxel one more boundary is passed where one is there, of boundaries that rise, and as many as before where none is
pub passed-flips : (bs : List ℕ) (z : ℤ) → Rising bs → (i : ℕ) → i < length bs → pos (get_or bs i 0) ≡ z +ℤ pos 1 → at_or_below bs (z +ℤ pos 1) ≡ at_or_below bs z + 1
passed-flips bs z r i l e =
    let o = one_more z bs i 0 r l (next_down z (get_or bs i 0) e) in
    omega (arith, o, ap (at_or_below bs) (+ℤ_idr z))

pub passed-stays : (bs : List ℕ) (z : ℤ) → ((i : ℕ) → i < length bs → pos (get_or bs i 0) ≡ z +ℤ pos 1 → ⊥) → at_or_below bs (z +ℤ pos 1) ≡ at_or_below bs z
passed-stays bs z never = go (crossed z bs 1)
  where
    go : Between bs z 2 ⊎ (at_or_below bs (z +ℤ pos 1) ≡ at_or_below bs (z +ℤ pos 0)) → at_or_below bs (z +ℤ pos 1) ≡ at_or_below bs z
    go (inl w) = absurd (never w.index w.there (next_up z (get_or bs w.index 0) (omega (arith, after-at z bs 2 w, before_at z bs 2 w))))
    go (inr e) = e ∙ ap (at_or_below bs) (+ℤ_idr z)
