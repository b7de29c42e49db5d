-- What `best_of` gives: an element at a place of its range, and none before it.
-- Assumes nothing.
use Prim.Native.Nat.{ℕ, zero, suc, ◌+◌, ◌≤◌, ◌<◌}
use mathlib.Core.Path.{◌≡◌, refl, ap₂, subst}
use mathlib.Core.Logic.{◌⊎◌, inl, inr, ⊎_elim}
use mathlib.Core.Bool.{Bool, true, false, cond}
use mathlib.Core.Option.{Option, none, some}
use native.Mathlib.Omega.{arith}
use native.Mathlib.Decide.{dec_lt}
use lib.Dec.{ltb}
use borrow.Author.Tests.{ltb-true, ltb-false}
use Rattle.lists.specs.Best.{Best, nothing, found, better, best_of}

-- b is found, at most e, and where it is e its place is at most t
abbrev pub Beats : Best → ℕ → ℕ → Type 0
Beats nothing e t = ⊥
Beats (found e₀ t₀) e t = (e₀ ≤ e) × (e₀ ≡ e → t₀ ≤ t)

pub nothing-not-found : {e t : ℕ} → nothing ≡ found e t → ⊥
nothing-not-found p = let z : ◌≡◌ {A = ℕ} 0 1 = cc in omega arith

pub none-not-some : {e : ℕ} → ◌≡◌ {A = Option ℕ} none (some e) → ⊥
none-not-some p = let z : ◌≡◌ {A = ℕ} 0 1 = cc in omega arith

better-cases : (b : Best) (s : ℕ) (o : Option ℕ) (e t : ℕ) → better b s o ≡ found e t → (b ≡ found e t) ⊎ ((o ≡ some e) × (s ≡ t))
better-cases b s none e t p = inl p
better-cases nothing s (some e₁) e t p = inr (cc, cc)
better-cases (found e₀ t₀) s (some e₁) e t p = go (ltb e₁ e₀) p
  where
    go : (c : Bool) → cond c (found e₁ s) (found e₀ t₀) ≡ found e t → (found e₀ t₀ ≡ found e t) ⊎ ((some e₁ ≡ some e) × (s ≡ t))
    go true q = inr (cc, cc)
    go false q = inl q

-- what is found stands in the range
pub best-in : (f : ℕ → Option ℕ) (a k e t : ℕ) → best_of f a k ≡ found e t → (a ≤ t) × (t < a + k) × (f t ≡ some e)
unfolding best_of
best-in f a zero e t p = absurd (nothing-not-found p)
best-in f a (suc k) e t p = ⊎_elim (λ q. old (best-in f a k e t q)) new (better-cases (best_of f a k) (a + k) (f (a + k)) e t p)
  where
    old : (a ≤ t) × (t < a + k) × (f t ≡ some e) → (a ≤ t) × (t < a + suc k) × (f t ≡ some e)
    old h = (h.0, omega arith, h.2)

    new : (f (a + k) ≡ some e) × (a + k ≡ t) → (a ≤ t) × (t < a + suc k) × (f t ≡ some e)
    new h = (omega arith, omega arith, subst (λ (n : ℕ). f n ≡ some e) h.1 h.0)

better-keeps : (b : Best) (s : ℕ) (o : Option ℕ) (e t : ℕ) → Beats b e t → Beats (better b s o) e t
better-keeps b s none e t h = h
better-keeps nothing s (some e₁) e t h = absurd h
better-keeps (found e₀ t₀) s (some e₁) e t h = go (ltb e₁ e₀) refl
  where
    go : (c : Bool) → ltb e₁ e₀ ≡ c → Beats (cond c (found e₁ s) (found e₀ t₀)) e t
    go true q = let l : e₁ < e₀ = ltb-true _ _ q in (omega arith, λ x. omega arith)
    go false q = h

better-takes : (b : Best) (s e : ℕ) → ((e₀ t₀ : ℕ) → b ≡ found e₀ t₀ → t₀ ≤ s) → Beats (better b s (some e)) e s
better-takes nothing s e h = (omega arith, λ x. omega arith)
better-takes (found e₀ t₀) s e h = go (ltb e e₀) refl
  where
    go : (c : Bool) → ltb e e₀ ≡ c → Beats (cond c (found e s) (found e₀ t₀)) e s
    go true q = (omega arith, λ x. omega arith)
    go false q = let l : e₀ ≤ e = ltb-false _ _ q in (l, λ x. h e₀ t₀ refl)

-- and nothing of the range is before it
pub best-beats : (f : ℕ → Option ℕ) (a k e t : ℕ) → a ≤ t → t < a + k → f t ≡ some e → Beats (best_of f a k) e t
unfolding best_of
best-beats f a zero e t l u q = absurd (omega arith)
best-beats f a (suc k) e t l u q = go (dec_lt t (a + k)) (λ v. best-beats f a k e t l v q)
  where
    go : Dec (t < a + k) → (t < a + k → Beats (best_of f a k) e t) → Beats (better (best_of f a k) (a + k) (f (a + k))) e t
    go (yes v) ih = better-keeps (best_of f a k) (a + k) (f (a + k)) e t (ih v)
    go (no v) ih =
        let at : t ≡ a + k = omega arith in
        rw (← at, q) (better-takes (best_of f a k) t e (λ e₀ t₀ w. let z = best-in f a k e₀ t₀ w in omega arith))

-- only the places of the range count
pub best-same : (f g : ℕ → Option ℕ) (a k : ℕ) → ((t : ℕ) → a ≤ t → t < a + k → f t ≡ g t) → best_of f a k ≡ best_of g a k
unfolding best_of
best-same f g a zero e = refl
best-same f g a (suc k) e =
    ap₂ (λ b o. better b (a + k) o) (best-same f g a k (λ t l u. e t l (omega arith))) (e (a + k) (omega arith) (omega arith))
