-- What code over the sheets needs: what is built lies over the lowest start, sums are bounded, and a height can have only so many counts
-- and so few, since layers of at least `lo` rise from the lowest that ends above 0 and those of at most tmax from the highest start. A sequence's
-- last layer starts below N, so there are only so many in all. Each by induction on the layers from the top down. Assumes nothing.
use Prim.Native.Nat.{ℕ, suc, ◌+◌, ◌-◌, ◌*◌, ◌≤◌, ◌<◌}
use mathlib.Core.Path.{◌≡◌, refl, ◌∙◌, ap, subst}
use mathlib.Core.Bool.{true}
use mathlib.Core.Logic.{◌↔◌}
use mathlib.Core.Option.{Option, none, some}
use mathlib.Core.List.{List, [], ◌∷◌}
use native.Mathlib.Omega.{arith}
use lib.Dec.{leb}
use lib.ListN.{length}
use Rattle.paper.specs.Layer.{tmin}
use Rattle.paper.proofs.Thicknesses.{and-true, tmin-least}
use Rattle.sequence.specs.Sequence.{Rules, lowest_end, Layer, Built, error_of, Sequence, Admissible, count}
use Rattle.sequence.specs.Least.{least, walk}
use Rattle.sequence.specs.Rules.{shape, rules}
use Rattle.sequence.proofs.Layers.{start-from, start-to, shape-allowed, shape-above, shape-below}
use Rattle.sequence.proofs.Least.{AtMost, walk_is, least-le}

pub built-low : (p : Rules) (h : ℕ) (ts : List ℕ) → Built p h ts → 32 < h + p.tmax
built-low p h [] b = start-from p.tmax h b
built-low p h (t ∷ ts) b = let x = built-low p (h - t) ts b.1 in omega arith

is_none : (o : Option ℕ) → ((e : ℕ) → o ≡ some e → ⊥) → o ≡ none
is_none none f = refl
is_none (some e) f = absurd (f e refl)

-- none exactly where there is no sequence
pub least-none : (p : Rules) (m h : ℕ) → (least p m h ≡ none) ↔ ((ts : List ℕ) → length ts ≡ m → Built p h ts → ⊥)
least-none p m h = (to, λ f. is_none (least p m h) (λ e q. let w = walk_is p m h e q in f (walk p m h) w.counts w.built))
  where
    to : least p m h ≡ none → (ts : List ℕ) → length ts ≡ m → Built p h ts → ⊥
    to q ts l b = subst (λ (o : Option ℕ). AtMost o (error_of p h ts)) (ap (λ k. least p k h) l ∙ q) (least-le p h ts b)

-- sums
pub error-bound : (p : Rules) (B : ℕ) → ((h t : ℕ) → Layer p h t → p.cell (h - t) t ≤ B) → (h : ℕ) (ts : List ℕ) → Built p h ts → error_of p h ts ≤ length ts * B
error-bound p B f h [] b = omega arith
error-bound p B f h (t ∷ ts) b =
    let x = error-bound p B f (h - t) ts b.1 in
    let y = f h t b.0 in
    omega arith

pub least-bound : (p : Rules) (B : ℕ) → ((h t : ℕ) → Layer p h t → p.cell (h - t) t ≤ B) → (m h e : ℕ) → least p m h ≡ some e → e ≤ m * B
least-bound p B f m h e q =
    let w = walk_is p m h e q in
    let x = error-bound p B f h (walk p m h) w.built in
    subst (λ (k : ℕ). e ≤ k * B) w.counts (omega (arith, x, w.errs))

-- counts

-- what is known of every permitted layer: it is at least `lo` thick, ends above 0 and starts below N
pub record Known (p : Rules) (lo : ℕ) : Type 0 where
  pub thick : (h t : ℕ) → Layer p h t → lo ≤ t
  pub above : (h t : ℕ) → Layer p h t → 32 < h
  pub below : (h t : ℕ) → Layer p h t → h - t < lowest_end p.height

-- of the rules of a height, a thickness set and a bound it is known by the shape of a layer, with tmin
pub rules-known : (N T bound : ℕ) (cell : ℕ → ℕ → ℕ) → Known (rules N T bound cell) (tmin T)
rules-known N T bound cell = record {
  thick = λ h t l. (tmin-least T t (shape-allowed N T (h - t) t (in-shape h t l))).1;
  above = λ h t l. omega (arith, l.above, shape-above N T (h - t) t (in-shape h t l));
  below = λ h t l. shape-below N T (h - t) t (in-shape h t l);
}
  where
    in-shape : (h t : ℕ) → Layer (rules N T bound cell) h t → shape N T (h - t) t ≡ true
    in-shape h t l = (and-true (shape N T (h - t) t) (leb (cell (h - t) t) bound) l.allowed).0

module _ (p : Rules) (lo : ℕ) (known : Known p lo) where
  -- the lowest layer ends above 0, and those on it rise
  count_low : (h t : ℕ) (ts : List ℕ) → Built p h (t ∷ ts) → length ts * lo + 33 ≤ h
  count_low h t [] b = omega (arith, known.above h t b.0)
  count_low h t (u ∷ us) b =
      let x = count_low (h - t) u us b.1 in
      let y = known.thick h t b.0 in
      omega arith

  -- and the last one starts below N
  pub count_most : (s : Sequence) → Admissible p s → 2 ≤ count s → (count s - 2) * lo + 2 ≤ p.height
  count_most s a l = go s.layers a.built l
    where
      go : (ts : List ℕ) → Built p s.top ts → 2 ≤ length ts → (length ts - 2) * lo + 2 ≤ p.height
      go [] b l = absurd (omega arith)
      go (t ∷ []) b l = absurd (omega arith)
      go (t ∷ u ∷ us) b l =
          let x = count_low (s.top - t) u us b.1 in
          let y = known.below s.top t b.0 in
          let e : suc (suc (length us)) - 2 ≡ length us = omega arith in
          rw e (omega arith)

-- and at least as many as the rise asks for
pub count-high : (p : Rules) (h : ℕ) (ts : List ℕ) → Built p h ts → h ≤ 32 + length ts * p.tmax
count-high p h [] b = omega (arith, start-to p.tmax h b)
count-high p h (t ∷ ts) b =
    let x = count-high p (h - t) ts b.1 in
    let y = b.0.thin in
    let z = b.0.above in
    omega arith

-- the counts that a height can have
pub least-many : (p : Rules) (lo : ℕ) → Known p lo → (m h : ℕ) → h < m * lo + 33 → least p (suc m) h ≡ none
least-many p lo known m h l = (least-none p (suc m) h).1 go
  where
    go : (ts : List ℕ) → length ts ≡ suc m → Built p h ts → ⊥
    go [] e b = omega arith
    go (t ∷ ts) e b =
        let x = count_low p lo known h t ts b in
        let d : length ts ≡ m = omega arith in
        let y : length ts * lo ≡ m * lo = ap (λ (k : ℕ). k * lo) d in
        omega arith

pub least-few : (p : Rules) (m h : ℕ) → 32 + m * p.tmax < h → least p m h ≡ none
least-few p m h l =
    (least-none p m h).1 (λ ts e b. let x = count-high p h ts b in let y : length ts * p.tmax ≡ m * p.tmax = ap (λ (k : ℕ). k * p.tmax) e in omega arith)
