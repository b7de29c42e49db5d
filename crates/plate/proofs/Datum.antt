-- The datum: the two directions undo each other, z + 32 is the datum height of every z that is not below it, and order, sum and difference
-- of heights are those of the whole numbers that they stand for. Orders are compared by cases, under the plate's foot (h < 32) and over
-- it; sums and differences are ℤ's own laws, since height_of h is h - 32. Assumes nothing.
use mathlib.Core.Path.{◌≡◌, refl, sym, ap, ap₂, ◌∙◌}
use mathlib.Core.Bool.{Bool, true, false, cond}
use Prim.Native.Nat.{ℕ, zero, suc, ◌+◌, ◌-◌, ◌≤◌, ◌<◌}
use native.Mathlib.Omega.{arith}
use native.Mathlib.Decide.{dec_lt, dec_le}
use lib.Dec.{leb, ltb, le→leb, leb→le, lt→ltb, ltb→lt}
use lib.IntN.{ℤ, pos, negsuc, neg_ℤ, nat_abs, sub_ℕ, ◌+ℤ◌, ◌-ℤ◌, +ℤ_assoc, +ℤ_comm, +ℤ-neg_ℤ_cancel}
use lib.Signed.{◌≤ℤ◌, ◌<ℤ◌, le_z, lt_z, le_z_yes, lt_z_yes}
use borrow.Author.Tests.{ltb-true, ltb-false, le-ltb, lt-ltb, le-leb, lt-leb}
use Rattle.paper.specs.Table.{natural}
use Rattle.plate.specs.Datum.{datum, height_of}

-- tests that ask the same answer the same
pub leb-same : (a b c d : ℕ) → (a ≤ b → c ≤ d) → (c ≤ d → a ≤ b) → leb a b ≡ leb c d
leb-same a b c d f g = go (dec_le a b) (dec_le c d)
  where
    go : Dec (a ≤ b) → Dec (c ≤ d) → leb a b ≡ leb c d
    go (yes l) k = le-leb a b l ∙ sym (le-leb c d (f l))
    go (no l) (yes k) = absurd (l (g k))
    go (no l) (no k) = lt-leb a b (omega arith) ∙ sym (lt-leb c d (omega arith))

ltb-same : (a b c d : ℕ) → (a < b → c < d) → (c < d → a < b) → ltb a b ≡ ltb c d
ltb-same a b c d f g = leb-same (suc a) b (suc c) d f g

-- a height under 0, and one from 0 on
under : (h : ℕ) → h < 32 → height_of h ≡ negsuc (31 - h)
under h l = ap (λ (b : Bool). cond b (negsuc (32 - suc h)) (pos (h - 32))) (lt-ltb h 32 l) ∙ ap negsuc (omega arith)

pub over : (h : ℕ) → 32 ≤ h → height_of h ≡ pos (h - 32)
over h l = ap (λ (b : Bool). cond b (negsuc (32 - suc h)) (pos (h - 32))) (le-ltb h 32 l)

pub datum-height : (h : ℕ) → datum (height_of h) ≡ h
datum-height h = go (ltb h 32) refl
  where
    go : (b : Bool) → ltb h 32 ≡ b → datum (cond b (negsuc (32 - suc h)) (pos (h - 32))) ≡ h
    go true e = omega (arith, ltb-true h 32 e)
    go false e = omega (arith, ltb-false h 32 e)

pub height-datum : (z : ℤ) → 1 ≤ datum z → height_of (datum z) ≡ z
height-datum (pos n) h =
    ap (λ (b : Bool). cond b (negsuc (32 - suc (n + 32))) (pos (n + 32 - 32))) (le-ltb (n + 32) 32 (omega arith)) ∙ ap pos (omega arith)
height-datum (negsuc n) h =
    ap (λ (b : Bool). cond b (negsuc (32 - suc (31 - n))) (pos (31 - n - 32))) (lt-ltb (31 - n) 32 (omega arith)) ∙ ap negsuc (omega arith)

-- a difference of natural numbers, and 0 where it is below 0
pub natural-sub : (a b : ℕ) → natural (sub_ℕ a b) ≡ a - b
natural-sub a b = go (ltb a b) refl
  where
    go : (t : Bool) → ltb a b ≡ t → natural (cond t (negsuc (b - suc a)) (pos (a - b))) ≡ a - b
    go true e = omega (arith, ltb-true a b e)
    go false e = refl

-- orders of whole numbers are orders of datum heights
pub below-height : (z : ℤ) (h : ℕ) → 1 ≤ h → lt_z z (height_of h) ≡ ltb (datum z) h
below-height z h p = go z (dec_lt h 32)
  where
    go : (z : ℤ) → Dec (h < 32) → lt_z z (height_of h) ≡ ltb (datum z) h
    go (pos n) (yes l) = ap (lt_z (pos n)) (under h l) ∙ sym (le-ltb (n + 32) h (omega arith))
    go (negsuc n) (yes l) = ap (lt_z (negsuc n)) (under h l) ∙ ltb-same (31 - h) n (31 - n) h (λ x. omega arith) (λ x. omega arith)
    go (pos n) (no l) = ap (lt_z (pos n)) (over h (omega arith)) ∙ ltb-same n (h - 32) (n + 32) h (λ x. omega arith) (λ x. omega arith)
    go (negsuc n) (no l) = ap (lt_z (negsuc n)) (over h (omega arith)) ∙ sym (lt-ltb (31 - n) h (omega arith))

pub above-height : (z : ℤ) (h : ℕ) → lt_z (height_of h) z ≡ ltb h (datum z)
above-height z h = go z (dec_lt h 32)
  where
    go : (z : ℤ) → Dec (h < 32) → lt_z (height_of h) z ≡ ltb h (datum z)
    go (pos n) (yes l) = ap (λ (x : ℤ). lt_z x (pos n)) (under h l) ∙ sym (lt-ltb h (n + 32) (omega arith))
    go (negsuc n) (yes l) = ap (λ (x : ℤ). lt_z x (negsuc n)) (under h l) ∙ ltb-same n (31 - h) h (31 - n) (λ x. omega arith) (λ x. omega arith)
    go (pos n) (no l) = ap (λ (x : ℤ). lt_z x (pos n)) (over h (omega arith)) ∙ ltb-same (h - 32) n h (n + 32) (λ x. omega arith) (λ x. omega arith)
    go (negsuc n) (no l) = ap (λ (x : ℤ). lt_z x (negsuc n)) (over h (omega arith)) ∙ sym (le-ltb h (31 - n) (omega arith))

-- what is above a height is higher over the datum
pub datum-above : (h : ℕ) (z : ℤ) → height_of h <ℤ z → h < datum z
datum-above h z l = ltb→lt h (datum z) (rw (above-height z h) at l.lt)

-- orders of two heights
pub lt-height : (h g : ℕ) → lt_z (height_of h) (height_of g) ≡ ltb h g
lt-height h g = above-height (height_of g) h ∙ ap (ltb h) (datum-height g)

pub le-height : (h g : ℕ) → le_z (height_of h) (height_of g) ≡ leb h g
le-height h g = go (dec_lt h 32) (dec_lt g 32)
  where
    go : Dec (h < 32) → Dec (g < 32) → le_z (height_of h) (height_of g) ≡ leb h g
    go (yes l) (yes k) = ap₂ le_z (under h l) (under g k) ∙ leb-same (31 - g) (31 - h) h g (λ x. omega arith) (λ x. omega arith)
    go (yes l) (no k) = ap₂ le_z (under h l) (over g (omega arith)) ∙ sym (le-leb h g (omega arith))
    go (no l) (yes k) = ap₂ le_z (over h (omega arith)) (under g k) ∙ sym (lt-leb h g (omega arith))
    go (no l) (no k) =
        ap₂ le_z (over h (omega arith)) (over g (omega arith)) ∙ leb-same (h - 32) (g - 32) h g (λ x. omega arith) (λ x. omega arith)

pub lt_up : (h g : ℕ) → h < g → height_of h <ℤ height_of g
lt_up h g l = lt_z_yes (rw (lt-height h g) (lt→ltb h g l))

pub lt-down : (h g : ℕ) → height_of h <ℤ height_of g → h < g
lt-down h g l = ltb→lt h g (rw (lt-height h g) at l.lt)

pub le_up : (h g : ℕ) → h ≤ g → height_of h ≤ℤ height_of g
le_up h g l = le_z_yes (rw (le-height h g) (le→leb h g l))

pub le_down : (h g : ℕ) → height_of h ≤ℤ height_of g → h ≤ g
le_down h g l = leb→le h g (rw (le-height h g) at l.le)

pub height-only : (h g : ℕ) → height_of h ≡ height_of g → h ≡ g
height-only h g e = sym (datum-height h) ∙ ap datum e ∙ datum-height g

-- document 01's numbers as heights, sums and differences of heights
pub pos-height : (n : ℕ) → pos n ≡ height_of (n + 32)
pos-height n = sym (over (n + 32) (omega arith) ∙ ap pos (omega arith))

pub neg-height : (n : ℕ) → n ≤ 32 → neg_ℤ (pos n) ≡ height_of (32 - n)
neg-height zero l = refl
neg-height (suc n) l = sym (under (32 - suc n) (omega arith) ∙ ap negsuc (omega arith))

pub sum-height : (h t : ℕ) → height_of h +ℤ pos t ≡ height_of (h + t)
sum-height h t = +ℤ_assoc (pos h) (negsuc 31) (pos t) ∙ ap (λ (z : ℤ). pos h +ℤ z) (+ℤ_comm (negsuc 31) (pos t)) ∙ sym (+ℤ_assoc (pos h) (pos t) (negsuc 31))

pub difference-height : (a b : ℕ) → a ≤ b → nat_abs (height_of b -ℤ height_of a) ≡ b - a
difference-height a b l = ap nat_abs (ap (λ (z : ℤ). z -ℤ height_of a) e ∙ +ℤ-neg_ℤ_cancel (pos (b - a)) (height_of a))
  where
    s : b ≡ a + (b - a)
    s = omega arith

    e : height_of b ≡ pos (b - a) +ℤ height_of a
    e = ap height_of s ∙ sym (sum-height a (b - a)) ∙ +ℤ_comm (height_of a) (pos (b - a))

-- a boundary at or below a voxel
pub reach-height : (b h : ℕ) → le_z (pos b) (height_of h) ≡ leb (b + 32) h
reach-height b h = ap (λ (z : ℤ). le_z z (height_of h)) (pos-height b) ∙ le-height (b + 32) h
