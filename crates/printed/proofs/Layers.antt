-- The reader's tests accept exactly the layers that are possible, and as long as they pass, some possible layers go on from there: there
-- are no dead ends. What decides is the lowest start from which the first layer ends above 0, 1 - first: if the last layer starts below N from any
-- start, it does from this one; where the layers would end below N from it, a higher one serves. And from a boundary below N the first thickness
-- again and again ends in N .. N + tmax - 1. Assumes nothing.
use Prim.Native.Nat.{ℕ, zero, suc, ◌+◌, ◌-◌, ◌≤◌, ◌<◌}
use mathlib.Core.Path.{◌≡◌, refl}
use mathlib.Core.Logic.{◌↔◌}
use mathlib.Core.Bool.{true, false}
use mathlib.Core.List.{List, [], ◌∷◌, ◌++◌}
use native.Mathlib.Omega.{arith}
use native.Mathlib.Decide.{dec_lt, dec_le}
use native.Mathlib.Numerals.{sub-one}
use lib.Dec.{ltb, leb}
use lib.ListN.{length, get_or}
use borrow.Author.Tests.{ltb-true, leb-true, lt-ltb, le-leb}
use Rattle.paper.specs.Layer.{allowed, tmax}
use Rattle.paper.proofs.Thicknesses.{and-true, allowed-from, allowed-to, allowed-tmax}
use Rattle.printed.specs.Possible.{cure_of, usable, rise, Stands, Possible, Extends}
use Rattle.printed.specs.Tests.{may_lift, lifts, passes, finishes, accepts}

-- ---- a usable thickness

pub usable-allowed : (T : ℕ) (cures : List ℕ) (t : ℕ) → usable T cures t ≡ true → allowed T t ≡ true
unfolding usable
usable-allowed T cures t u = (and-true (allowed T t) (ltb 0 (cure_of cures t)) u).0

pub usable-from : (T : ℕ) (cures : List ℕ) (t : ℕ) → usable T cures t ≡ true → 1 ≤ t
usable-from T cures t u = allowed-from T t (usable-allowed T cures t u)

pub usable-to : (T : ℕ) (cures : List ℕ) (t : ℕ) → usable T cures t ≡ true → t ≤ tmax T
usable-to T cures t u = allowed-tmax T t (usable-allowed T cures t u)

-- ---- heights

pub rise-none : (ts : List ℕ) → rise ts 0 ≡ 0
unfolding rise
rise-none ts = refl

pub rise-suc : (t : ℕ) (ts : List ℕ) (k : ℕ) → rise (t ∷ ts) (suc k) ≡ t + rise ts k
unfolding rise
rise-suc t ts k = refl

-- all layers but the last
pub rise-but-last : (t : ℕ) (ts : List ℕ) → rise (t ∷ ts) (length (t ∷ ts) - 1) ≡ rise (t ∷ ts) (length ts)
rise-but-last t ts = rw sub-one

-- the last layer
pub rise-last : (t : ℕ) (ts : List ℕ) (b : ℕ) → ((k : ℕ) → k < length (t ∷ ts) → get_or (t ∷ ts) k 0 ≤ b)
    → rise (t ∷ ts) (suc (length ts)) ≤ rise (t ∷ ts) (length ts) + b
unfolding rise
rise-last t [] b f = let x = f 0 (omega arith) in omega arith
rise-last t (u ∷ us) b f = let x = rise-last u us b (λ k l. f (suc k) (omega arith)) in omega arith

pub rise-less : (t : ℕ) (ts : List ℕ) → ((k : ℕ) → k < length (t ∷ ts) → 1 ≤ get_or (t ∷ ts) k 0)
    → rise (t ∷ ts) (length ts) < rise (t ∷ ts) (suc (length ts))
unfolding rise
rise-less t [] f = let x = f 0 (omega arith) in omega arith
rise-less t (u ∷ us) f = let x = rise-less u us (λ k l. f (suc k) (omega arith)) in omega arith

-- ---- lifts that pass

module _ (N T : ℕ) (cures : List ℕ) where
  -- what they come to
  pub record Room (first h : ℕ) (ts : List ℕ) : Type 0 where
    pub usables : (k : ℕ) → k < length ts → usable T cures (get_or ts k 0) ≡ true
    pub room : 1 ≤ length ts → h + rise ts (length ts - 1) + 1 < N + first

  pub lift-may : (first h t : ℕ) → usable T cures t ≡ true → h + 1 < N + first → may_lift N T cures first h t ≡ true
  unfolding may_lift
  lift-may first h t u l = simp (u, lt-ltb _ _ l)

  pub may-lift : (first h t : ℕ) → may_lift N T cures first h t ≡ true → (usable T cures t ≡ true) × (h + 1 < N + first)
  unfolding may_lift
  may-lift first h t p = let b = and-true _ _ p in (b.0, ltb-true _ _ b.1)

  pub lifts-cons : (first h t : ℕ) (ts : List ℕ) → lifts N T cures first h (t ∷ ts) ≡ true
      → (may_lift N T cures first h t ≡ true) × (lifts N T cures first (h + t) ts ≡ true)
  unfolding lifts
  lifts-cons first h t ts p = and-true (may_lift N T cures first h t) (lifts N T cures first (h + t) ts) p

  pub cons-lifts : (first h t : ℕ) (ts : List ℕ) → may_lift N T cures first h t ≡ true → lifts N T cures first (h + t) ts ≡ true
      → lifts N T cures first h (t ∷ ts) ≡ true
  unfolding lifts
  cons-lifts first h t ts p q = simp (p, q)

  pub lifts-nil : (first h : ℕ) → lifts N T cures first h [] ≡ true
  unfolding lifts
  lifts-nil first h = refl

  pub lifts-room : (first h : ℕ) (ts : List ℕ) → lifts N T cures first h ts ≡ true → Room first h ts
  lifts-room first h [] p = record { usables = λ k l. absurd (omega arith); room = λ l. absurd (omega arith) }
  lifts-room first h (t ∷ ts) p =
      let b = lifts-cons first h t ts p in
      let m = may-lift first h t b.0 in
      let r = lifts-room first (h + t) ts b.1 in
      record { usables = each m.0 r.usables; room = λ l. rw (rise-but-last t ts) (above ts m.1 r.room) }
    where
      each : usable T cures t ≡ true → ((k : ℕ) → k < length ts → usable T cures (get_or ts k 0) ≡ true)
          → (k : ℕ) → k < length (t ∷ ts) → usable T cures (get_or (t ∷ ts) k 0) ≡ true
      each u f zero l = u
      each u f (suc k) l = f k (omega arith)

      above : (us : List ℕ) → h + 1 < N + first → (1 ≤ length us → h + t + rise us (length us - 1) + 1 < N + first)
          → h + rise (t ∷ us) (length us) + 1 < N + first
      above [] l f = omega (arith, rise-none (t ∷ []))
      above (u ∷ us) l f = omega (arith, f (omega arith), rise-but-last u us, rise-suc t (u ∷ us) (length us))

  pub room-lifts : (first h : ℕ) (ts : List ℕ) → Room first h ts → lifts N T cures first h ts ≡ true
  room-lifts first h [] r = lifts-nil first h
  room-lifts first h (t ∷ ts) r =
      let l : h + rise (t ∷ ts) (length ts) + 1 < N + first = rw (rise-but-last t ts) at (r.room (omega arith)) in
      cons-lifts first h t ts (lift-may first h t (r.usables 0 (omega arith)) (omega arith))
      (room-lifts first (h + t) ts (record { usables = λ k l. r.usables (suc k) (omega arith); room = above ts l }))
    where
      above : (us : List ℕ) → h + rise (t ∷ us) (length us) + 1 < N + first → 1 ≤ length us → h + t + rise us (length us - 1) + 1 < N + first
      above [] l f = absurd (omega arith)
      above (u ∷ us) l f = omega (arith, rise-but-last u us, rise-suc t (u ∷ us) (length us))

  -- lifts, one part after the other
  pub lifts-front : (first h : ℕ) (ts us : List ℕ) → lifts N T cures first h (ts ++ us) ≡ true → lifts N T cures first h ts ≡ true
  lifts-front first h [] us p = lifts-nil first h
  lifts-front first h (t ∷ ts) us p =
      let b = lifts-cons first h t (ts ++ us) p in cons-lifts first h t ts b.0 (lifts-front first (h + t) ts us b.1)

  -- ---- a finish after lifts

  pub finishes-cons : (first h t : ℕ) (ts : List ℕ) → finishes N T cures first h (t ∷ ts) ≡ true
      → (may_lift N T cures first h t ≡ true) × (finishes N T cures first (h + t) ts ≡ true)
  unfolding finishes
  finishes-cons first h t ts p = and-true (may_lift N T cures first h t) (finishes N T cures first (h + t) ts) p

  pub cons-finishes : (first h t : ℕ) (ts : List ℕ) → may_lift N T cures first h t ≡ true → finishes N T cures first (h + t) ts ≡ true
      → finishes N T cures first h (t ∷ ts) ≡ true
  unfolding finishes
  cons-finishes first h t ts p q = simp (p, q)

  pub finishes-nil : (first h : ℕ) → finishes N T cures first h [] ≡ leb N h
  unfolding finishes
  finishes-nil first h = refl

  pub finishes-lifts : (first h : ℕ) (ts : List ℕ) → finishes N T cures first h ts ≡ true
      → (lifts N T cures first h ts ≡ true) × (N ≤ h + rise ts (length ts))
  finishes-lifts first h [] p = let l = leb-true N h (rw (finishes-nil first h) at p) in (lifts-nil first h, omega arith)
  finishes-lifts first h (t ∷ ts) p =
      let b = finishes-cons first h t ts p in
      let i = finishes-lifts first (h + t) ts b.1 in
      (cons-lifts first h t ts b.0 i.0, omega (arith, i.1, rise-suc t ts (length ts)))

  pub lifts-finishes : (first h : ℕ) (ts : List ℕ) → lifts N T cures first h ts ≡ true → N ≤ h + rise ts (length ts)
      → finishes N T cures first h ts ≡ true
  lifts-finishes first h [] p l = rw (finishes-nil first h) (le-leb N h (omega (arith, rise-none [])))
  lifts-finishes first h (t ∷ ts) p l =
      let b = lifts-cons first h t ts p in
      cons-finishes first h t ts b.0 (lifts-finishes first (h + t) ts b.1 (omega (arith, rise-suc t ts (length ts))))

  -- ---- no dead ends: the same thickness again and again

  pub record Completed (first h : ℕ) : Type 0 where
    pub more : List ℕ
    pub passed : finishes N T cures first h more ≡ true

  -- n tells how far it is at most
  complete : (first h n : ℕ) → usable T cures first ≡ true → N + first ≤ h + 1 + n → Completed first h
  complete first h zero u l =
      let f = usable-from T cures first u in
      record { more = []; passed = rw (finishes-nil first h) (le-leb N h (omega arith)) }
  complete first h (suc n) u l = go (dec_lt (h + 1) (N + first)) (complete first (h + first) n u (let f = usable-from T cures first u in omega arith))
    where
      go : Dec (h + 1 < N + first) → Completed first (h + first) → Completed first h
      go (yes m) c = record { more = first ∷ c.more; passed = cons-finishes first h first c.more (lift-may first h first u m) c.passed }
      go (no m) c =
          let f = usable-from T cures first u in
          record { more = []; passed = rw (finishes-nil first h) (le-leb N h (omega arith)) }

  pub completed : (first h : ℕ) → usable T cures first ≡ true → Completed first h
  completed first h u = complete first h (N + first) u (omega arith)

  -- so lifts that pass can be gone on with
  pub lifts-completed : (first h : ℕ) (ts : List ℕ) → usable T cures first ≡ true → lifts N T cures first h ts ≡ true
      → (more : List ℕ) × (finishes N T cures first h (ts ++ more) ≡ true)
  lifts-completed first h [] u p = let c = completed first h u in (c.more, c.passed)
  lifts-completed first h (t ∷ ts) u p =
      let b = lifts-cons first h t ts p in
      let c = lifts-completed first (h + t) ts u b.1 in
      (c.0, cons-finishes first h t (ts ++ c.0) b.0 c.1)

  -- ---- from the first layer on

  pub accepts-cons : (t : ℕ) (ts : List ℕ) → accepts N T cures (t ∷ ts) ≡ true → (usable T cures t ≡ true) × (finishes N T cures t t ts ≡ true)
  unfolding accepts
  accepts-cons t ts p = and-true (usable T cures t) (finishes N T cures t t ts) p

  pub cons-accepts : (t : ℕ) (ts : List ℕ) → usable T cures t ≡ true → finishes N T cures t t ts ≡ true → accepts N T cures (t ∷ ts) ≡ true
  unfolding accepts
  cons-accepts t ts p q = simp (p, q)

  pub accepts-nil : accepts N T cures [] ≡ false
  unfolding accepts
  accepts-nil = refl

  pub passes-cons : (t : ℕ) (ts : List ℕ) → passes N T cures (t ∷ ts) ≡ true → (usable T cures t ≡ true) × (lifts N T cures t t ts ≡ true)
  unfolding passes
  passes-cons t ts p = and-true (usable T cures t) (lifts N T cures t t ts) p

  pub cons-passes : (t : ℕ) (ts : List ℕ) → usable T cures t ≡ true → lifts N T cures t t ts ≡ true → passes N T cures (t ∷ ts) ≡ true
  unfolding passes
  cons-passes t ts p q = simp (p, q)

  -- ---- accepted is possible

  -- the layers over the first, and all of them
  stands-room : (t : ℕ) (ts : List ℕ) (h : ℕ) → Stands N T cures (t ∷ ts) h → Room t t ts
  stands-room t ts h s = record { usables = λ k l. s.usables (suc k) (omega arith); room = above ts s.before-last-below }
    where
      above : (us : List ℕ) → h + rise (t ∷ us) (length (t ∷ us) - 1) < N + 32 → 1 ≤ length us → t + rise us (length us - 1) + 1 < N + t
      above [] l f = absurd (omega arith)
      above (u ∷ us) l f =
          omega
          (arith, s.z1-above, rise-suc t ts 0, rise-none ts, rise-but-last t (u ∷ us), rise-but-last u us, rise-suc t (u ∷ us) (length us))

  pub possible-accepts : (ts : List ℕ) → Possible N T cures ts → accepts N T cures ts ≡ true
  possible-accepts [] p = absurd (let l = p.stands.layered in omega arith)
  possible-accepts (t ∷ ts) p =
      let s = p.stands in
      cons-accepts t ts (s.usables 0 (omega arith))
      (lifts-finishes t t ts (room-lifts t t ts (stands-room t ts p.start s))
      (omega (arith, s.ends-from, s.starts_by, rise-suc t ts (length ts))))

  -- from the lowest start, or from a higher one where the layers end below N otherwise
  module _ (some-height : 1 ≤ N) (t : ℕ) (ts : List ℕ) (u : usable T cures t ≡ true) (r : Room t t ts) (l : N ≤ t + rise ts (length ts)) where
    each : (k : ℕ) → k < length (t ∷ ts) → usable T cures (get_or (t ∷ ts) k 0) ≡ true
    each zero m = u
    each (suc k) m = r.usables k (omega arith)

    -- from the lowest start the last layer starts below N: one layer alone does since N ≥ 1
    under_last : (us : List ℕ) → ts ≡ us → rise (t ∷ us) (length us) + 1 < N + t
    under_last [] e = let f = usable-from T cures t u in omega (arith, rise-none (t ∷ []))
    under_last (v ∷ vs) e =
        let x : 1 ≤ length (v ∷ vs) → t + rise (v ∷ vs) (length (v ∷ vs) - 1) + 1 < N + t = rw e at r.room in
        omega (arith, x (omega arith), rise-but-last v vs, rise-suc t (v ∷ vs) (length vs))

    stands_at : (h : ℕ) → 32 < h + t → h ≤ 32 → N + 32 ≤ h + rise (t ∷ ts) (suc (length ts)) → h + rise (t ∷ ts) (length ts) < N + 32
        → Stands N T cures (t ∷ ts) h
    stands_at h a b c d =
        let m = usable-to T cures t u in
        let x = rise-last t ts (tmax T) (λ k l. usable-to T cures (get_or (t ∷ ts) k 0) (each k l)) in
        record {
          layered = omega arith;
          usables = each;
          starts-above = omega arith;
          starts_by = b;
          ends-from = c;
          ends-below = omega arith;
          z1-above = omega (arith, rise-suc t ts 0, rise-none ts);
          before-last-below = rw (rise-but-last t ts) d;
        }

    stands : Possible N T cures (t ∷ ts)
    stands = go (dec_le (N + 32) (33 - t + rise (t ∷ ts) (suc (length ts)))) (under_last ts refl)
      where
        go : Dec (N + 32 ≤ 33 - t + rise (t ∷ ts) (suc (length ts))) → rise (t ∷ ts) (length ts) + 1 < N + t → Possible N T cures (t ∷ ts)
        go (yes e) o =
            let f = usable-from T cures t u in
            let g = allowed-to T t (usable-allowed T cures t u) in
            record { start = 33 - t; stands = stands_at (33 - t) (omega arith) (omega arith) e (omega arith) }
        go (no e) o =
            let f = usable-from T cures t u in
            let g = allowed-to T t (usable-allowed T cures t u) in
            let x = rise-less t ts (λ k l. usable-from T cures (get_or (t ∷ ts) k 0) (each k l)) in
            let y = rise-suc t ts (length ts) in
            record {
              start = N + 32 - rise (t ∷ ts) (suc (length ts));
              stands = stands_at (N + 32 - rise (t ∷ ts) (suc (length ts))) (omega arith) (omega arith) (omega arith) (omega arith);
            }

  pub accepts-possible : 1 ≤ N → (ts : List ℕ) → accepts N T cures ts ≡ true → Possible N T cures ts
  accepts-possible n [] p = absurd (let e = accepts-nil in let z : ◌≡◌ {A = ℕ} 0 1 = cc in omega arith)
  accepts-possible n (t ∷ ts) p =
      let b = accepts-cons t ts p in
      let f = finishes-lifts t t ts b.1 in
      stands n t ts b.0 (lifts-room t t ts f.0) f.1

  pub accepts-exact : 1 ≤ N → (ts : List ℕ) → (accepts N T cures ts ≡ true) ↔ Possible N T cures ts
  accepts-exact n ts = (accepts-possible n ts, possible-accepts ts)

  -- ---- lifts that pass are the lowest of possible layers; there must be one lift, since with no usable thickness nothing is possible

  pub passes-extends : 1 ≤ N → (ts : List ℕ) → 1 ≤ length ts → passes N T cures ts ≡ true → Extends N T cures ts
  passes-extends n [] s p = absurd (omega arith)
  passes-extends n (t ∷ ts) s p =
      let b = passes-cons t ts p in
      let c = lifts-completed t t ts b.0 b.1 in
      record { more = c.0; possible = accepts-possible n (t ∷ ts ++ c.0) (cons-accepts t (ts ++ c.0) b.0 c.1) }

  pub extends-passes : (ts : List ℕ) → 1 ≤ length ts → Extends N T cures ts → passes N T cures ts ≡ true
  extends-passes [] s e = absurd (omega arith)
  extends-passes (t ∷ ts) s e =
      let b = accepts-cons t (ts ++ e.more) (possible-accepts (t ∷ ts ++ e.more) e.possible) in
      cons-passes t ts b.0 (lifts-front t t ts e.more (finishes-lifts t t (ts ++ e.more) b.1).0)

  pub passes-exact : 1 ≤ N → (ts : List ℕ) → 1 ≤ length ts → (passes N T cures ts ≡ true) ↔ Extends N T cures ts
  passes-exact n ts s = (passes-extends n ts s, extends-passes ts s)

  -- before the first lift: something is possible exactly if some thickness is usable
  pub some-usable : 1 ≤ N → Extends N T cures [] ↔ ((t : ℕ) × (usable T cures t ≡ true))
  some-usable n = (to, from)
    where
      first_of : (ts : List ℕ) → Possible N T cures ts → (t : ℕ) × (usable T cures t ≡ true)
      first_of [] p = absurd (let l = p.stands.layered in omega arith)
      first_of (t ∷ ts) p = (t, p.stands.usables 0 (omega arith))

      to : Extends N T cures [] → (t : ℕ) × (usable T cures t ≡ true)
      to e = first_of e.more e.possible

      from : ((t : ℕ) × (usable T cures t ≡ true)) → Extends N T cures []
      from u =
          let e = passes-extends n (u.0 ∷ []) (omega arith) (cons-passes u.0 [] u.1 (lifts-nil u.0 u.0)) in
          record { more = u.0 ∷ e.more; possible = e.possible }
