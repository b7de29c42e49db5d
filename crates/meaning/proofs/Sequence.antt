-- The shape of a layer, one layer, the two ends and the order of sequences, as document 01 has them and as they are worked with: each is the
-- same thing said at height_of h and at h, so each is carried over by the laws of the datum. Both orders compare the layers from the last
-- down. Assumes nothing.
use Prim.Native.Nat.{ℕ, zero, suc, ◌+◌, ◌-◌, ◌≤◌, ◌<◌}
use mathlib.Core.Path.{◌≡◌, refl, sym, ap, ◌∙◌}
use mathlib.Core.Logic.{inl, inr}
use mathlib.Core.Bool.{true}
use mathlib.Core.List.{List, [], ◌∷◌}
use native.Mathlib.Omega.{arith}
use lib.Dec.{leb, ltb→lt}
use lib.ListN.{length, get_or}
use lib.IntN.{ℤ, pos, negsuc, neg_ℤ, ◌+ℤ◌}
use lib.Signed.{◌≤ℤ◌, ◌<ℤ◌}
use borrow.Author.Tests.{leb-true, le-leb}
use Rattle.paper.specs.Layer.{Plate, tmax}
use Rattle.paper.specs.Sequence.{◌!◌, thickness, IsLayer, Thinner, Before}
use Rattle.paper.specs.Table.{natural}
use Rattle.paper.specs.Groups.{Usable}
use Rattle.paper.proofs.Thicknesses.{and-true, allowed-from, tmax-le}
use Rattle.plate.specs.Datum.{datum, height_of}
use Rattle.plate.proofs.Datum.{natural-sub, le_up, le_down, lt_up, lt-down, height-only, difference-height, sum-height, pos-height, neg-height, datum-above}
use Rattle.sequence.specs.Sequence as working
use Rattle.sequence.specs.Rules.{shape}
use Rattle.sequence.proofs.Layers.{start-in, start-from, start-to, shape-in, shape-allowed, shape-above, shape-below}
use Rattle.meaning.specs.Working.{rules_of}

-- ---- one layer

-- a layer has the shape of one exactly where a sequence can have it
module _ (N T h t : ℕ) where
  pub shape-up : shape N T h t ≡ true → Usable N T (height_of h) t
  shape-up e = record {
    member = shape-allowed N T h t e;
    ends_above = rw (sum-height h t, pos-height 0) (lt_up 32 (h + t) (shape-above N T h t e));
    starts-below = rw (pos-height N) (lt_up h (N + 32) (shape-below N T h t e));
  }

  pub shape-down : Usable N T (height_of h) t → shape N T h t ≡ true
  shape-down u =
      shape-in N T h t u.member (lt-down 32 (h + t) (rw (sum-height h t, pos-height 0) at u.ends_above))
      (lt-down h (N + 32) (rw (pos-height N) at u.starts-below))

-- what holds between each height and the next, from the lowest up, holds at each place
abbrev pub Steps : (ℕ → ℕ → Type 0) → ℕ → List ℕ → Type 0
Steps P a [] = Unit {0}
Steps P a (b ∷ bs) = P a b × Steps P b bs

pub step-at : (P : ℕ → ℕ → Type 0) (a : ℕ) (bs : List ℕ) → Steps P a bs → (k : ℕ) → k < length bs → P (get_or (a ∷ bs) k 0) (get_or (a ∷ bs) (suc k) 0)
step-at P a [] s k l = absurd (omega arith)
step-at P a (b ∷ bs) s zero l = s.0
step-at P a (b ∷ bs) s (suc k) l = step-at P b bs s.1 k (omega arith)

-- what is above -tmax, counted from the datum
pub start-datum : (T : ℕ) (z : ℤ) → neg_ℤ (pos (tmax T)) <ℤ z → 32 - tmax T < datum z
start-datum T z l = datum-above (32 - tmax T) z (rw (neg-height (tmax T) (tmax-le T)) at l)

-- what is above 0 is a natural number from 1 on
above-natural : (z : ℤ) → pos 0 <ℤ z → 1 ≤ natural z
above-natural (pos n) l = ltb→lt 0 n l.lt
above-natural (negsuc n) l = absurd l.lt

-- a layer that ends above 0 starts by less than its thickness under it
pub end-datum : (z : ℤ) (t : ℕ) → t ≤ 32 → pos 0 <ℤ (z +ℤ pos t) → 32 < datum z + t
end-datum (pos n) t l u = let a = above-natural (pos n +ℤ pos t) u in omega arith
end-datum (negsuc n) t l u = let a = above-natural (negsuc n +ℤ pos t) u in omega (arith, natural-sub t (suc n))

module _ (p : Plate) (bound : ℕ) where
  -- the layer from a up to b is permitted, as it is worked with
  abbrev pub PermittedBetween : ℕ → ℕ → Type 0
  PermittedBetween a b = (rules_of p bound).may a (b - a) ≡ true

  -- then it is document 01's, and back
  pub step-up : (a b : ℕ) → PermittedBetween a b → IsLayer p bound (height_of a) (height_of b)
  step-up a b e =
      let m = and-true (shape p.N p.T a (b - a)) (leb (p.layer_error (height_of a) (b - a)) bound) e in
      let t = shape-allowed p.N p.T a (b - a) m.0 in
      let l : a < b = omega (arith, allowed-from p.T (b - a) t) in
      let d = difference-height a b (omega arith) in
      record { rises = lt_up a b l; member = rw d t; within = rw d (leb-true _ _ m.1) }

  -- and it has something on it
  pub between-up : (a b : ℕ) → PermittedBetween a b → (pos 0 <ℤ height_of b) × (height_of a <ℤ pos p.N)
  between-up a b e =
      let m = (and-true (shape p.N p.T a (b - a)) (leb (p.layer_error (height_of a) (b - a)) bound) e).0 in
      let l = allowed-from p.T (b - a) (shape-allowed p.N p.T a (b - a) m) in (
        rw (pos-height 0) (lt_up 32 b (omega (arith, shape-above p.N p.T a (b - a) m))),
        rw (pos-height p.N) (lt_up a (p.N + 32) (shape-below p.N p.T a (b - a) m)),
      )

  pub step_down : (a b : ℕ) → Usable p.N p.T (height_of a) (b - a) → IsLayer p bound (height_of a) (height_of b) → PermittedBetween a b
  step_down a b u s =
      let l = lt-down a b s.rises in
      let w = rw (difference-height a b (omega arith)) at s.within in
      simp (shape-down p.N p.T a (b - a) u, le-leb (p.layer_error (height_of a) (b - a)) bound w)

  -- ---- the two ends

  pub starts-up : (h : ℕ) → working.starts (tmax p.T) h ≡ true → (neg_ℤ (pos (tmax p.T)) <ℤ height_of h) × (height_of h ≤ℤ pos 0)
  starts-up h s = (
    rw (neg-height (tmax p.T) (tmax-le p.T)) (lt_up (32 - tmax p.T) h (omega (arith, start-from (tmax p.T) h s, tmax-le p.T))),
    rw (pos-height 0) (le_up h 32 (start-to (tmax p.T) h s)),
  )

  pub starts-down : (h : ℕ) → neg_ℤ (pos (tmax p.T)) <ℤ height_of h → height_of h ≤ℤ pos 0 → working.starts (tmax p.T) h ≡ true
  starts-down h l m =
      let f = lt-down (32 - tmax p.T) h (rw (neg-height (tmax p.T) (tmax-le p.T)) at l) in
      start-in (tmax p.T) h (omega arith) (le_down h 32 m)

  pub ends-up : (h : ℕ) → working.Ends (rules_of p bound) h → (pos p.N ≤ℤ height_of h) × (height_of h <ℤ pos (p.N + tmax p.T))
  ends-up h e = (
    rw (pos-height p.N) (le_up (p.N + 32) h e.from),
    rw (pos-height (p.N + tmax p.T)) (lt_up h (p.N + tmax p.T + 32) (omega (arith, e.to))),
  )

  pub ends-down : (h : ℕ) → pos p.N ≤ℤ height_of h → height_of h <ℤ pos (p.N + tmax p.T) → working.Ends (rules_of p bound) h
  ends-down h l m =
      let f = lt-down h (p.N + tmax p.T + 32) (rw (pos-height (p.N + tmax p.T)) at m) in
      record { from = le_down (p.N + 32) h (rw (pos-height p.N) at l); to = omega arith }

-- ---- the order

-- the thicknesses of the layers under zk, from the last down
abbrev pub layers_under : List ℤ → ℕ → List ℕ
layers_under zs zero = []
layers_under zs (suc k) = thickness zs k ∷ layers_under zs k

pub length-under : (zs : List ℤ) (k : ℕ) → length (layers_under zs k) ≡ k
length-under zs zero = refl
length-under zs (suc k) = ap suc (length-under zs k)

pub thinner-first : (xs ys : List ℤ) (k : ℕ) → Thinner xs ys k → working.First (layers_under xs k) (layers_under ys k)
thinner-first xs ys zero t = tt
thinner-first xs ys (suc k) (inl l) = inl l
thinner-first xs ys (suc k) (inr t) = inr (t.0, thinner-first xs ys k t.1)

pub first-thinner : (xs ys : List ℤ) (k : ℕ) → working.First (layers_under xs k) (layers_under ys k) → Thinner xs ys k
first-thinner xs ys zero t = tt
first-thinner xs ys (suc k) (inl l) = inl l
first-thinner xs ys (suc k) (inr t) = inr (t.0, first-thinner xs ys k t.1)

-- the n layers of zs are the sequence s, from its top down
pub record Down (n : ℕ) (zs : List ℤ) (s : working.Sequence) : Type 0 where
  pub top : zs ! n ≡ height_of s.top
  pub layers : layers_under zs n ≡ s.layers

pub before-up : (n : ℕ) (xs ys : List ℤ) (s r : working.Sequence) → Down n xs s → Down n ys r → working.Before s r → Before n xs ys
before-up n xs ys s r d e (inl l) = inl (rw (d.top, e.top) (lt_up s.top r.top l))
before-up n xs ys s r d e (inr f) =
    inr (d.top ∙ ap height_of f.0 ∙ sym e.top, first-thinner xs ys n (rw (d.layers, e.layers) f.1))

pub before-down : (n : ℕ) (xs ys : List ℤ) (s r : working.Sequence) → Down n xs s → Down n ys r → Before n xs ys → working.Before s r
before-down n xs ys s r d e (inl l) = inl (lt-down s.top r.top (rw (d.top, e.top) at l))
before-down n xs ys s r d e (inr f) =
    inr (height-only s.top r.top (sym d.top ∙ f.0 ∙ e.top), rw (d.layers, e.layers) at (thinner-first xs ys n f.1))
