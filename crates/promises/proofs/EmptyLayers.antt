-- Document 02 b). The record of an admissible sequence has the two rules as its fields, and `paper/Stacks` says that they are rules on every layer. Of one
-- layer z1 is zn, which is not below N, and z0 is not above 0. M is reached by layers of tmin, the lowest of which ends at 1. Entries of a layer or
-- more at a height of 0 or less would have a layer that ends there. Assumes nothing.
use Prim.Native.Nat.{ℕ, zero, suc, ◌+◌, ◌-◌, ◌*◌, ◌/◌, ◌≤◌, ◌<◌}
use mathlib.Core.Path.{◌≡◌, refl, sym, ap, ◌∙◌, subst}
use mathlib.Core.Logic.{◌↔◌}
use mathlib.Core.Bool.{true}
use mathlib.Core.List.{List, [], ◌∷◌}
use native.Mathlib.Decide.{ℕ_discrete}
use native.Mathlib.Nat.{add-mul, div-mul-le_self, div-lt_iff_lt-mul, mul-le-mul_left, mul-le-mul_right}
use native.Mathlib.Omega.{arith}
use borrow.Author.Tests.{le-leb}
use lib.IntN.{ℤ, pos, negsuc, neg_ℤ}
use lib.ListN.{length}
use lib.Signed.{◌≤ℤ◌, ◌<ℤ◌, lt_z_yes, <ℤ-≤ℤ_trans, clash_ℤ}
use lib.Dec.{leb→le, lt→ltb}
use Rattle.paper.specs.Layer.{Plate, Settings, allowed, tmin, tmax}
use Rattle.paper.specs.Sequence.{◌!◌, count, Admissible, M}
use Rattle.paper.specs.Sheets.{heights, entries, missing, Ending, Entries}
use Rattle.paper.proofs.Counts.{counts-one, counts-more, counts_some, counts-before}
use Rattle.paper.proofs.Stacks.{something-on-each}
use Rattle.paper.proofs.Thicknesses.{tmin-member, tmin-least, allowed-to, allowed-tmax}
use Rattle.plate.specs.Datum.{height_of}
use Rattle.sequence.specs.Sequence as working
use Rattle.sequence.proofs.Layers.{start-in, shape-in}
use Rattle.meaning.specs.Working.{rules_of, boundaries_of}
use Rattle.meaning.proofs.Choice.{from-working, count-in-range}
use Rattle.promises.specs.EmptyLayers.{ByDocument01, SomethingOnEach, MBefore, NoEmptyLayers}

-- what is not above 0 is below N
low_below : (z : ℤ) (N : ℕ) → z ≤ℤ pos 0 → 1 ≤ N → z <ℤ pos N
low_below (pos n) N l h = lt_z_yes (lt→ltb n N (let m = leb→le n 0 l.le in omega arith))
low_below (negsuc n) N l h = lt_z_yes tt

module _ (p : Plate) (bound : ℕ) (zs : List ℤ) where
  before : Admissible p bound zs → ByDocument01 p bound zs
  before a = record {
    layered = a.layered;
    starts-above = a.stack.starts-above;
    starts_by = a.stack.starts_by;
    ends-from = a.ends-from;
    ends-below = a.ends-below;
    layers = a.stack.layers;
  }

  with-rules : ByDocument01 p bound zs → SomethingOnEach p zs → Admissible p bound zs
  with-rules d s = record {
    layered = d.layered;
    stack = record {
      starts-above = d.starts-above;
      starts_by = d.starts_by;
      layers = d.layers;
      z1-above = λ l. s.z1-above;
      before-last-below = λ l. s.before-last-below;
    };
    ends-from = d.ends-from;
    ends-below = d.ends-below;
  }

  also : Admissible p bound zs ↔ (ByDocument01 p bound zs × SomethingOnEach p zs)
  also = (
    λ a. (before a, record { z1-above = a.stack.z1-above a.layered; before-last-below = a.stack.before-last-below a.layered }),
    λ x. with-rules x.0 x.1,
  )

  every-layer : Admissible p bound zs ↔ (ByDocument01 p bound zs × ((k : ℕ) → k < count zs → (pos 0 <ℤ zs ! suc k) × (zs ! k <ℤ pos p.N)))
  every-layer = (
    λ a. (before a, (something-on-each zs (count zs) (λ k l. (a.stack.layers k l).rises) p.N).0 (a.stack.z1-above, a.stack.before-last-below)),
    λ x.
        let s = (something-on-each zs (count zs) (λ k l. (x.0.layers k l).rises) p.N).1 x.1 in
        with-rules x.0 (record { z1-above = s.0 x.0.layered; before-last-below = s.1 x.0.layered }),
  )

  one-layer : 1 ≤ p.N → count zs ≡ 1 → ByDocument01 p bound zs → Admissible p bound zs
  one-layer high one d =
      let up : pos 0 <ℤ pos p.N = lt_z_yes (lt→ltb 0 p.N high) in
      with-rules d
      (record {
        z1-above = <ℤ-≤ℤ_trans up (subst (λ (n : ℕ). pos p.N ≤ℤ zs ! n) one d.ends-from);
        before-last-below = low_below (zs ! (count zs - 1)) p.N (subst (λ (n : ℕ). zs ! (n - 1) ≤ℤ pos 0) (sym one) d.starts_by) high;
      })

-- ---- M layers of tmin

abbrev piled : ℕ → ℕ → List ℕ
piled t zero = []
piled t (suc n) = t ∷ piled t n

piled-long : (t n : ℕ) → length (piled t n) ≡ n
piled-long t zero = refl
piled-long t (suc n) = ap suc (piled-long t n)

module _ (p : Plate) (bound : ℕ) (settings : Settings p.N p.T) (free : (z : ℤ) (t : ℕ) → p.layer_error z t ≤ bound) where
  abbrev N : ℕ
  N = p.N

  abbrev t : ℕ
  t = tmin p.T

  abbrev m : ℕ
  m = M N p.T

  member : allowed p.T t ≡ true
  member = tmin-member p.T settings.some-thickness

  thick : 1 ≤ t
  thick = (tmin-least p.T t member).0

  -- how high they reach, counted from the datum: the lowest ends at 1
  abbrev reach : ℕ → ℕ
  reach n = 33 - t + n * t

  -- the last starts below N, and ends at N or above
  record Fits : Type 0 where
    last-below : (n : ℕ) → n < m → n * t + 1 < N + t
    ends-from : N + t ≤ m * t + 1
    ends-below : m * t + 1 < N + tmax p.T + t

  fits : Fits
  fits = go (ℕ_discrete N 1)
    where
      go : Dec (N ≡ 1) → Fits
      go (yes e) =
          let one = counts-one N p.T e in
          record {
            last-below = λ n l. let z : n ≡ 0 = omega arith in rw (z, e) (omega (arith, thick));
            ends-from = rw (one, e) (omega arith);
            ends-below = rw (one, e) (omega (arith, settings.some-thickness));
          }
      go (no e) =
          let q = (N - 2) / t in
          let more = counts-more N p.T e in
          let low = div-mul-le_self (N - 2) t in
          let high : N - 2 < (q + 1) * t = (div-lt_iff_lt-mul thick).0 (omega arith) in
          record {
            last-below = λ n l. let u : n * t ≤ (q + 1) * t = mul-le-mul_right t (omega arith) in omega (arith, u, add-mul q 1 t, low, settings.least-height, e);
            ends-from = rw more (omega (arith, add-mul q 1 t, add-mul q 2 t, high));
            ends-below = rw more (omega (arith, add-mul q 2 t, low, allowed-tmax p.T t member, settings.least-height, e));
          }

  built : (n : ℕ) → n ≤ m → working.Built (rules_of p bound) (reach n) (piled t n)
  built zero l = start-in (tmax p.T) (reach 0) (omega (arith, allowed-tmax p.T t member, allowed-to p.T t member)) (omega (arith, thick))
  built (suc n) l =
      let thin = allowed-to p.T t member in
      let e : reach (suc n) - t ≡ reach n = omega arith in
      rw e (
        record {
          thick = thick;
          thin = allowed-tmax p.T t member;
          above = omega arith;
          allowed = rw e
              (simp (shape-in N p.T (reach n) t member (omega (arith, thin)) (omega (arith, thin, fits.last-below n l)), le-leb (p.layer_error (height_of (reach n)) t) bound (free (height_of (reach n)) t)));
        },
        built n (omega arith),
      )

  reached : (zs : List ℤ) × Admissible p bound zs × (count zs ≡ M p.N p.T)
  reached =
      let s : working.Sequence = record { top = reach m; layers = piled t m } in
      let thin = allowed-to p.T t member in
      let a : working.Admissible (rules_of p bound) s = record {
        ends = record { from = omega (arith, thin, fits.ends-from); to = omega (arith, thin, fits.ends-below) };
        built = built m (omega arith);
      } in
      let w = from-working p bound m (counts_some N p.T thick) s a (piled-long t m) in
      (boundaries_of s, w.admissible, w.counts)

-- ---- the sheets

low-entries : (p : Plate) (bound m : ℕ) (z : ℤ) (e t : ℕ) → 1 ≤ m → z ≤ℤ pos 0 → Entries p bound m z e t → (e ≡ missing) × (t ≡ 0)
low-entries p bound m z e t some low n = n.none none-ends
  where
    none-ends : (zs : List ℤ) → Ending p bound m z zs → ⊥
    none-ends zs a =
        let k = m - 1 in
        let i : suc k ≡ m = omega arith in
        let up = ((something-on-each zs m (λ k l. (a.stack.layers k l).rises) p.N).0 (a.stack.z1-above, a.stack.before-last-below) k (omega arith)).0 in
        clash_ℤ (subst (λ (x : ℤ). pos 0 <ℤ x) (ap (λ (j : ℕ). zs ! j) i ∙ a.ends) up) low

no-layer : (p : Plate) (bound : ℕ) (z : ℤ) (e t : ℕ) → neg_ℤ (pos (tmax p.T)) <ℤ z → z ≤ℤ pos 0 → Entries p bound 0 z e t → (e ≡ 0) × (t ≡ 0)
no-layer p bound z e t from by n = n.chosen (z ∷ []) (record { ending = ending; least = λ ys a. omega arith; first = λ ys a q. tt })
  where
    ending : Ending p bound 0 z (z ∷ [])
    ending = record {
      counts = refl;
      ends = refl;
      stack = record {
        starts-above = from;
        starts_by = by;
        layers = λ k l. absurd (omega arith);
        z1-above = λ l. absurd (omega arith);
        before-last-below = λ l. absurd (omega arith);
      };
    }

buffers : (N T : ℕ) → Settings N T → entries N T ≤ heights N T * (MBefore N T + 1)
unfolding entries
buffers N T s = mul-le-mul_left (heights N T) (let b = counts-before N T s.least-height s.some-thickness in omega arith)

-- THE REQUEST
pub no-empty-layers : NoEmptyLayers
no-empty-layers = record {
  also = also;
  every-layer = every-layer;
  one-layer = one-layer;
  most = count-in-range;
  reached = reached;
  no-greater = λ N T s. counts-before N T s.least-height s.some-thickness;
  buffers = buffers;
  low-entries = low-entries;
  no-layer = no-layer;
}
