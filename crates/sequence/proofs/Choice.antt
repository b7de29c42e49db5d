-- The chosen sequence of a plate: there is one exactly where there is an admissible one of that count, and it is the only one.
-- Assumes nothing.
use Prim.Native.Nat.{ℕ, ◌+◌, ◌≤◌, ◌<◌}
use mathlib.Core.Path.{◌≡◌, refl, sym, ◌∙◌, ap, subst}
use mathlib.Core.Logic.{inl, inr, ◌↔◌}
use mathlib.Core.Option.{Option, none, some}
use native.Mathlib.Omega.{arith}
use native.Mathlib.Decide.{dec_lt}
use Rattle.lists.specs.Best.{Best, nothing, found, value}
use Rattle.sequence.specs.Sequence.{Rules, Sequence, Admissible, count, error, First, Before, Chosen}
use Rattle.sequence.specs.Least.{least, walk, top, from_top, chosen, least_of}
use Rattle.lists.proofs.Best.{Beats, none-not-some, best-in, best-beats}
use Rattle.sequence.proofs.Order.{before-antisym}
use Rattle.sequence.proofs.Least.{AtMost, at-most-some, Walked, walk_is, least-le, walk_first}

-- the sheet's entry under an admissible sequence
at_top : (p : Rules) (n : ℕ) (r : Sequence) → Admissible p r → count r ≡ n → (d : ℕ) × (least p n r.top ≡ some d) × (d ≤ error p r)
at_top p n r a c = at-most-some _ _ (subst (λ (m : ℕ). AtMost (least p m r.top) (error p r)) c (least-le p r.top r.layers a.built))

top-beats : (p : Rules) (n : ℕ) (r : Sequence) → Admissible p r → (d : ℕ) → least p n r.top ≡ some d → Beats (top p n) d r.top
unfolding top
top-beats p n r a d q = best-beats (λ h. least p n h) (p.height + 32) p.tmax d r.top a.ends.from a.ends.to q

abbrev seq : Rules → ℕ → ℕ → Sequence
seq p n h = record { top = h; layers = walk p n h }

pub top-chosen : (p : Rules) (n e h : ℕ) → top p n ≡ found e h → Chosen p n (seq p n h) × (error p (seq p n h) ≡ e)
unfolding top
top-chosen p n e h q = (
  record {
    admissible = record { ends = record { from = i.0; to = i.1 }; built = w.built };
    counts = w.counts;
    least = no_less;
    first = is-first;
  },
  w.errs,
)
  where
    i : (p.height + 32 ≤ h) × (h < p.height + 32 + p.tmax) × (least p n h ≡ some e)
    i = best-in (λ g. least p n g) (p.height + 32) p.tmax e h q

    w : Walked p n h e
    w = walk_is p n h e i.2

    no_less : (r : Sequence) → Admissible p r → count r ≡ n → error p (seq p n h) ≤ error p r
    no_less r a c =
        let x = at_top p n r a c in
        let b = subst (λ (o : Best). Beats o x.0 r.top) q (top-beats p n r a x.0 x.1) in
        omega (arith, b.0, x.2, w.errs)

    is-first : (r : Sequence) → Admissible p r → count r ≡ n → error p r ≡ error p (seq p n h) → Before (seq p n h) r
    is-first r a c s =
        let x = at_top p n r a c in
        let b = subst (λ (o : Best). Beats o x.0 r.top) q (top-beats p n r a x.0 x.1) in
        let z : e ≡ x.0 = omega (arith, b.0, x.2, w.errs) in
        let y : error p r ≡ x.0 = omega (arith, w.errs) in
        go (dec_lt h r.top) (b.1 z) (x.1 ∙ ap some (sym y))
      where
        go : Dec (h < r.top) → h ≤ r.top → least p n r.top ≡ some (error p r) → Before (seq p n h) r
        go (yes l) g k = inl l
        go (no l) g k =
            let same : r.top ≡ h = omega arith in
            let f = walk_first p r.top r.layers a.built (subst (λ (m : ℕ). least p m r.top ≡ some (error p r)) (sym c) k) in
            inr (sym same, subst (λ (u : ℕ). First (walk p n u) r.layers) same (subst (λ (m : ℕ). First (walk p m r.top) r.layers) c f))

-- what `chosen` gives is the chosen one
pub chosen_is : (p : Rules) (n : ℕ) (s : Sequence) → chosen p n ≡ some s → Chosen p n s
unfolding chosen
chosen_is p n s q = go (top p n) refl q
  where
    go : (b : Best) → top p n ≡ b → from_top p n b ≡ some s → Chosen p n s
    go nothing t r = absurd (let z : ◌≡◌ {A = ℕ} 0 1 = cc in omega arith)
    go (found e h) t r = let x : seq p n h ≡ s = cc in subst (λ (o : Sequence). Chosen p n o) x (top-chosen p n e h t).0

-- where it gives none, there is no admissible one
pub chosen_none : (p : Rules) (n : ℕ) → chosen p n ≡ none → (r : Sequence) → Admissible p r → count r ≡ n → ⊥
unfolding chosen
chosen_none p n q r a c = go (top p n) refl q
  where
    go : (b : Best) → top p n ≡ b → from_top p n b ≡ none → ⊥
    go nothing t u = let x = at_top p n r a c in subst (λ (o : Best). Beats o x.0 r.top) t (top-beats p n r a x.0 x.1)
    go (found e h) t u = let z : ◌≡◌ {A = ℕ} 0 1 = cc in omega arith

-- there is at most one
pub chosen-unique : (p : Rules) (n : ℕ) (s r : Sequence) → Chosen p n s → Chosen p n r → s ≡ r
chosen-unique p n s r a b =
    let l = a.least r b.admissible b.counts in
    let g = b.least s a.admissible a.counts in
    before-antisym s r (a.first r b.admissible b.counts (omega arith)) (b.first s a.admissible a.counts (omega arith))

-- so `chosen` is the meaning of `Chosen`
pub chosen-exact : (p : Rules) (n : ℕ) (s : Sequence) → Chosen p n s ↔ (chosen p n ≡ some s)
chosen-exact p n s = (λ c. go (chosen p n) refl c, chosen_is p n s)
  where
    go : (o : Option Sequence) → chosen p n ≡ o → Chosen p n s → chosen p n ≡ some s
    go none q c = absurd (chosen_none p n q s c.admissible c.counts)
    go (some r) q c = q ∙ ap some (chosen-unique p n r s (chosen_is p n r q) c)

-- and it gives one exactly where there is an admissible one
pub chosen-exists : (p : Rules) (n : ℕ) (r : Sequence) → Admissible p r → count r ≡ n → (s : Sequence) × (chosen p n ≡ some s)
chosen-exists p n r a c = go (chosen p n) refl
  where
    go : (o : Option Sequence) → chosen p n ≡ o → (s : Sequence) × (chosen p n ≡ some s)
    go none q = absurd (chosen_none p n q r a c)
    go (some s) q = (s, q)

-- the least error of a count is the chosen one's
pub least-of : (p : Rules) (n e : ℕ) → least_of p n ≡ some e → (s : Sequence) × (chosen p n ≡ some s) × (error p s ≡ e)
unfolding least_of chosen
least-of p n e q = go (top p n) refl q
  where
    go : (b : Best) → top p n ≡ b → value b ≡ some e → (s : Sequence) × (from_top p n b ≡ some s) × (error p s ≡ e)
    go nothing t u = absurd (none-not-some u)
    go (found e₀ h) t u = let x : e₀ ≡ e = cc in (seq p n h, refl, (top-chosen p n e₀ h t).1 ∙ x)

pub chosen-least-of : (p : Rules) (n : ℕ) (s : Sequence) → chosen p n ≡ some s → least_of p n ≡ some (error p s)
unfolding least_of chosen
chosen-least-of p n s q = go (top p n) refl q
  where
    go : (b : Best) → top p n ≡ b → from_top p n b ≡ some s → value b ≡ some (error p s)
    go nothing t u = absurd (let z : ◌≡◌ {A = ℕ} 0 1 = cc in omega arith)
    go (found e h) t u = let x : seq p n h ≡ s = cc in ap some (sym (top-chosen p n e h t).1 ∙ ap (error p) x)
