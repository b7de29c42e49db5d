-- The sheets: what `least`, `last` and `walk` give is a sequence of permitted layers, of least error, and the first of those.
-- Assumes nothing.
use Prim.Native.Nat.{ℕ, zero, suc, ◌+◌, ◌-◌, ◌≤◌, ◌<◌}
use mathlib.Core.Path.{◌≡◌, refl, sym, ◌∙◌, ap, subst}
use mathlib.Core.Logic.{inl, inr}
use mathlib.Core.Bool.{Bool, true, false, cond, ◌&&◌}
use mathlib.Core.Option.{Option, none, some}
use mathlib.Core.List.{List, [], ◌∷◌}
use native.Mathlib.Omega.{arith}
use native.Mathlib.Decide.{dec_lt}
use lib.Dec.{leb}
use lib.ListN.{length}
use borrow.Author.Tests.{leb-true, le-leb}
use Rattle.lists.specs.Best.{Best, nothing, found, value, place, best_of}
use Rattle.paper.proofs.Thicknesses.{and-true}
use Rattle.sequence.specs.Sequence.{Rules, starts, Layer, Built, error_of, First}
use Rattle.sequence.specs.Least.{plus, via, best_to, least, last, walk}
use Rattle.lists.proofs.Best.{Beats, none-not-some, best-in, best-beats}

-- o is there, and at most e
abbrev pub AtMost : Option ℕ → ℕ → Type 0
AtMost none e = ⊥
AtMost (some e₀) e = e₀ ≤ e

-- no layers
pub starts-some : (p : Rules) (h : ℕ) → starts p.tmax h ≡ true → least p 0 h ≡ some 0
unfolding least best_to
starts-some p h s = simp s

pub some-starts : (p : Rules) (h e : ℕ) → least p 0 h ≡ some e → (starts p.tmax h ≡ true) × (e ≡ 0)
unfolding least best_to
some-starts p h e q = go (starts p.tmax h) refl q
  where
    go : (c : Bool) → starts p.tmax h ≡ c → value (cond c (found 0 0) nothing) ≡ some e → (starts p.tmax h ≡ true) × (e ≡ 0)
    go true t r = (t, cc)
    go false t r = absurd (none-not-some r)

pub last-zero : (p : Rules) (h : ℕ) → last p 0 h ≡ 0
unfolding last best_to
last-zero p h = go (starts p.tmax h)
  where
    go : (b : Bool) → place (cond b (found 0 0) nothing) ≡ 0
    go true = refl
    go false = refl

-- where there is none the last thickness is 0
pub last_none : (p : Rules) (m h : ℕ) → least p m h ≡ none → last p m h ≡ 0
unfolding least last
last_none p m h q = go (best_to p m h p.tmax) q
  where
    go : (b : Best) → value b ≡ none → place b ≡ 0
    go nothing q = refl
    go (found e t) q = absurd (none-not-some (sym q))

-- one layer
pub via-some : (p : Rules) (below : ℕ → Option ℕ) (h t e : ℕ) → via p below h t ≡ some e
    → (t ≤ h) × (p.may (h - t) t ≡ true) × ((d : ℕ) × (below (h - t) ≡ some d) × (d + p.cell (h - t) t ≡ e))
via-some p below h t e q = go (leb t h && p.may (h - t) t) refl q
  where
    last_of : (o : Option ℕ) → below (h - t) ≡ o → plus (p.cell (h - t) t) o ≡ some e → (d : ℕ) × (below (h - t) ≡ some d) × (d + p.cell (h - t) t ≡ e)
    last_of none w r = absurd (none-not-some r)
    last_of (some d) w r = (d, w, cc)

    go : (c : Bool) → leb t h && p.may (h - t) t ≡ c → cond c (plus (p.cell (h - t) t) (below (h - t))) none ≡ some e
        → (t ≤ h) × (p.may (h - t) t ≡ true) × ((d : ℕ) × (below (h - t) ≡ some d) × (d + p.cell (h - t) t ≡ e))
    go true w r = let b = and-true _ _ w in (leb-true _ _ b.0, b.1, last_of (below (h - t)) refl r)
    go false w r = absurd (none-not-some r)

pub via-layer : (p : Rules) (below : ℕ → Option ℕ) (h t d : ℕ) → Layer p h t → below (h - t) ≡ some d → via p below h t ≡ some (d + p.cell (h - t) t)
via-layer p below h t d l q = simp (le-leb _ _ l.above, l.allowed, q)

-- (a) what `walk` gives
pub record Walked (p : Rules) (m h e : ℕ) : Type 0 where
  pub built : Built p h (walk p m h)
  pub counts : length (walk p m h) ≡ m
  pub errs : error_of p h (walk p m h) ≡ e

value_found : (b : Best) (e : ℕ) → value b ≡ some e → b ≡ found e (place b)
value_found nothing e q = absurd (none-not-some q)
value_found (found e₀ t) e q = cc

-- the row of count m + 1 at h, as `best_of` has it
abbrev pub row : Rules → ℕ → ℕ → Best
row p m h = best_of (λ t. via p (λ g. least p m g) h t) 1 p.tmax

pub record Step (p : Rules) (m h t e : ℕ) : Type 0 where
  pub layer : Layer p h t
  pub rest : ℕ
  pub below : least p m (h - t) ≡ some rest
  pub adds : rest + p.cell (h - t) t ≡ e

pub least_step : (p : Rules) (m h e : ℕ) → least p (suc m) h ≡ some e → Step p m h (last p (suc m) h) e
unfolding best_to least last
least_step p m h e q =
    let b : row p m h ≡ found e (place (row p m h)) = value_found (row p m h) e q in
    let i = best-in (λ t. via p (λ g. least p m g) h t) 1 p.tmax e (place (row p m h)) b in
    let v = via-some p (λ g. least p m g) h (place (row p m h)) e i.2 in
    record {
      layer = record { thick = i.0; thin = omega arith; above = v.0; allowed = v.1 };
      rest = v.2.0;
      below = v.2.1;
      adds = v.2.2;
    }

pub walk_is : (p : Rules) (m h e : ℕ) → least p m h ≡ some e → Walked p m h e
unfolding walk
walk_is p zero h e q = let s = some-starts p h e q in record { built = s.0; counts = refl; errs = sym s.1 }
walk_is p (suc m) h e q = go (least_step p m h e q) (λ d r. walk_is p m (h - last p (suc m) h) d r)
  where
    go : Step p m h (last p (suc m) h) e → ((d : ℕ) → least p m (h - last p (suc m) h) ≡ some d → Walked p m (h - last p (suc m) h) d) → Walked p (suc m) h e
    go s ih =
        let w = ih s.rest s.below in
        record { built = (s.layer, w.built); counts = ap suc w.counts; errs = ap (λ n. n + p.cell (h - last p (suc m) h) (last p (suc m) h)) w.errs ∙ s.adds }

-- (b) nothing is less
pub least-beats : (p : Rules) (m h t d : ℕ) → Layer p h t → least p m (h - t) ≡ some d → Beats (row p m h) (d + p.cell (h - t) t) t
least-beats p m h t d l q =
    best-beats (λ u. via p (λ g. least p m g) h u) 1 p.tmax (d + p.cell (h - t) t) t l.thick (let x = l.thin in omega arith)
    (via-layer p (λ g. least p m g) h t d l q)

pub at-most-some : (o : Option ℕ) (e : ℕ) → AtMost o e → (d : ℕ) × (o ≡ some d) × (d ≤ e)
at-most-some none e h = absurd h
at-most-some (some d) e h = (d, refl, h)

beats-at-most : (b : Best) (e t e' : ℕ) → Beats b e t → e ≤ e' → AtMost (value b) e'
beats-at-most nothing e t e' h l = absurd h
beats-at-most (found e₀ t₀) e t e' h l = omega arith

pub least-le : (p : Rules) (h : ℕ) (ts : List ℕ) → Built p h ts → AtMost (least p (length ts) h) (error_of p h ts)
unfolding best_to least
least-le p h [] b = rw (starts-some p h b) (omega arith)
least-le p h (t ∷ ts) b = go (at-most-some _ _ (least-le p (h - t) ts b.1))
  where
    go : (d : ℕ) × (least p (length ts) (h - t) ≡ some d) × (d ≤ error_of p (h - t) ts)
        → AtMost (value (row p (length ts) h)) (error_of p (h - t) ts + p.cell (h - t) t)
    go x = beats-at-most (row p (length ts) h) (x.0 + p.cell (h - t) t) t _ (least-beats p (length ts) h t x.0 b.0 x.1) (omega arith)

-- (c) the walk is the first of those of least error
pub walk_first : (p : Rules) (h : ℕ) (ts : List ℕ) → Built p h ts → least p (length ts) h ≡ some (error_of p h ts) → First (walk p (length ts) h) ts
unfolding walk best_to least last
walk_first p h [] b q = tt
walk_first p h (t ∷ ts) b q = go (at-most-some _ _ (least-le p (h - t) ts b.1)) (λ r. walk_first p (h - t) ts b.1 r)
  where
    step : (d : ℕ) → d ≡ error_of p (h - t) ts → place (row p (length ts) h) ≤ t → Dec (place (row p (length ts) h) < t) → First (walk p (length ts) (h - t)) ts
        → First (place (row p (length ts) h) ∷ walk p (length ts) (h - place (row p (length ts) h))) (t ∷ ts)
    step d e l (yes u) f = inl u
    step d e l (no u) f =
        let same : place (row p (length ts) h) ≡ t = omega arith in
        inr (same, subst (λ (u : ℕ). First (walk p (length ts) (h - u)) ts) (sym same) f)

    go : (d : ℕ) × (least p (length ts) (h - t) ≡ some d) × (d ≤ error_of p (h - t) ts)
        → (least p (length ts) (h - t) ≡ some (error_of p (h - t) ts) → First (walk p (length ts) (h - t)) ts)
        → First (walk p (suc (length ts)) h) (t ∷ ts)
    go x ih =
        let bs = least-beats p (length ts) h t x.0 b.0 x.1 in
        let eq = value_found (row p (length ts) h) (error_of p (h - t) ts + p.cell (h - t) t) q in
        let cs = subst (λ (o : Best). Beats o (x.0 + p.cell (h - t) t) t) eq bs in
        let z : x.0 ≡ error_of p (h - t) ts = omega (arith, cs.0) in
        step x.0 z (cs.1 (omega arith)) (dec_lt _ t) (ih (x.1 ∙ ap some z))
