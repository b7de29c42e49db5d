-- Entries as a loop over candidates meets them: of two marked numbers the smaller is the better one, and an earlier place keeps a tie. So
-- `if candidate < best` is the step of `best_of`. Assumes nothing.
use Prim.Native.Nat.{ℕ, zero, suc, ◌+◌, ◌≤◌, ◌<◌}
use mathlib.Core.Path.{◌≡◌, refl, sym}
use mathlib.Core.Bool.{Bool, true, false, cond}
use mathlib.Core.Option.{Option, none, some}
use native.Mathlib.Numerals.{add-one}
use native.Mathlib.Omega.{arith}
use lib.Dec.{ltb, eqb}
use borrow.Author.Tests.{lt-ltb, le-ltb, ne_eqb, eqb-true, eqb-false}
use Rattle.lists.specs.Best.{Best, nothing, found, value, place, better, best_of}
use Rattle.paper.specs.Sheets.{missing}
use Rattle.sequence.specs.Sheets.{mark, unmark}

-- a number that is there is below the mark for none
abbrev pub Small : Option ℕ → Type 0
Small none = Unit {0}
Small (some e) = e < missing

pub unmark-mark : (o : Option ℕ) → Small o → unmark (mark o) ≡ o
unfolding unmark
unmark-mark none s = refl
unmark-mark (some e) s = simp (ne_eqb e missing (λ x. omega arith))

pub mark-unmark : (x : ℕ) → mark (unmark x) ≡ x
unfolding unmark
mark-unmark x = go (eqb x missing) refl
  where
    go : (b : Bool) → eqb x missing ≡ b → mark (cond b none (some x)) ≡ x
    go true e = sym (eqb-true x missing e)
    go false e = refl

pub unmark-small : (x : ℕ) → x ≤ missing → Small (unmark x)
unfolding unmark
unmark-small x l = go (eqb x missing) refl
  where
    go : (b : Bool) → eqb x missing ≡ b → Small (cond b none (some x))
    go true e = tt
    go false e = let n = eqb-false x missing e in omega arith

-- a marked number is at most the mark
pub mark-le : (o : Option ℕ) → Small o → mark o ≤ missing
mark-le none s = omega arith
mark-le (some e) s = omega arith

-- the step: a candidate that is less takes the place, and any other leaves it
pub better-less : (b : Best) (t : ℕ) (o : Option ℕ) → Small (value b) → mark o < mark (value b)
    → (mark (value (better b t o)) ≡ mark o) × (place (better b t o) ≡ t)
better-less b t none s l = absurd (let u = mark-le (value b) s in omega arith)
better-less nothing t (some e) s l = (refl, refl)
better-less (found e₀ t₀) t (some e) s l = simp (lt-ltb e e₀ l) (refl, refl)

pub better-keep : (b : Best) (t : ℕ) (o : Option ℕ) → Small o → mark (value b) ≤ mark o → better b t o ≡ b
better-keep b t none s l = refl
better-keep nothing t (some e) s l = absurd (omega arith)
better-keep (found e₀ t₀) t (some e) s l = simp (le-ltb e e₀ l)

better-small : (b : Best) (t : ℕ) (o : Option ℕ) → Small (value b) → Small o → Small (value (better b t o))
better-small b t none s u = s
better-small nothing t (some e) s u = u
better-small (found e₀ t₀) t (some e) s u = go (ltb e e₀)
  where
    go : (c : Bool) → Small (value (cond c (found e t) (found e₀ t₀)))
    go true = u
    go false = s

-- the best of small ones is small
pub best-small : (f : ℕ → Option ℕ) (a k : ℕ) → ((t : ℕ) → a ≤ t → t < a + k → Small (f t)) → Small (value (best_of f a k))
unfolding best_of
best-small f a zero s = tt
best-small f a (suc k) s =
    better-small (best_of f a k) (a + k) (f (a + k)) (best-small f a k (λ t l u. s t l (omega arith))) (s (a + k) (omega arith) (omega arith))

-- one place more, as a loop has it
pub best-more : (f : ℕ → Option ℕ) (a k : ℕ) → best_of f a (k + 1) ≡ better (best_of f a k) (a + k) (f (a + k))
unfolding best_of
best-more f a k = rw add-one
