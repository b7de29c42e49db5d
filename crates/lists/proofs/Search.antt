-- The lowest index that passes a test, for a loop that goes up and remembers that none passed so far. Every way out of such a
-- loop is `found` or `missed`; a loop over rows adds a row by `row-missed` and leaves it by `row-found`. Assumes nothing.
use mathlib.Core.Path.{◌≡◌, refl, sym, ap, ◌∙◌, subst}
use mathlib.Core.Bool.{Bool, true, false, cond, ◌||◌}
use Prim.Native.Nat.{ℕ, zero, suc, ◌+◌, ◌-◌, ◌≤◌, ◌<◌}
use native.Mathlib.Nat.{not-suc-le-zero, le_of_suc-le-suc}
use native.Mathlib.Omega.{arith}
use native.Mathlib.Decide.{dec_lt}
use Rattle.lists.specs.Search.{lowest, IsLowest, some_below}
use Rattle.std.specs.Prelude.{Option, None, Some, MatchOption}
use Rattle.lists.proofs.Checks.{or-false}

pub lowest-hit : (p : ℕ → Bool) (n i : ℕ) → i < n → ((k : ℕ) → k < i → p k ≡ false) → p i ≡ true → lowest p n ≡ i
unfolding lowest
lowest-hit p zero i h b e = absurd (not-suc-le-zero h)
lowest-hit p (suc n) zero h b e = rw e
lowest-hit p (suc n) (suc i) h b e =
    rw (b 0 (omega arith)) (ap suc (lowest-hit (λ j. p (suc j)) n i (le_of_suc-le-suc h) (λ k l. b (suc k) (omega arith)) e))

pub lowest-none : (p : ℕ → Bool) (n : ℕ) → ((k : ℕ) → k < n → p k ≡ false) → lowest p n ≡ n
unfolding lowest
lowest-none p zero b = refl
lowest-none p (suc n) b =
    rw (b 0 (omega arith)) (ap suc (lowest-none (λ j. p (suc j)) n (λ k l. b (suc k) (omega arith))))

pub lowest-le : (p : ℕ → Bool) (n : ℕ) → lowest p n ≤ n
unfolding lowest
lowest-le p zero = omega arith
lowest-le p (suc n) = go (p 0) (lowest-le (λ j. p (suc j)) n)
  where
    go : (b : Bool) → lowest (λ j. p (suc j)) n ≤ n → cond b 0 (suc (lowest (λ j. p (suc j)) n)) ≤ suc n
    go true h = omega arith
    go false h = omega arith

-- below the lowest none passes
pub lowest-before : (p : ℕ → Bool) (n k : ℕ) → k < lowest p n → p k ≡ false
unfolding lowest
lowest-before p zero k h = absurd (not-suc-le-zero h)
lowest-before p (suc n) k h = go (p 0) refl (λ j l. lowest-before (λ i. p (suc i)) n j l) k h
  where
    go : (b : Bool) → p 0 ≡ b → ((j : ℕ) → j < lowest (λ i. p (suc i)) n → p (suc j) ≡ false) → (j : ℕ)
        → j < cond b 0 (suc (lowest (λ i. p (suc i)) n)) → p j ≡ false
    go true e r j l = absurd (not-suc-le-zero l)
    go false e r zero l = e
    go false e r (suc j) l = r j (le_of_suc-le-suc l)

-- the lowest passes, where there is one
pub lowest-passes : (p : ℕ → Bool) (n : ℕ) → lowest p n < n → p (lowest p n) ≡ true
unfolding lowest
lowest-passes p zero h = absurd (not-suc-le-zero h)
lowest-passes p (suc n) h = go (p 0) refl (λ l. lowest-passes (λ i. p (suc i)) n l) h
  where
    go : (b : Bool) → p 0 ≡ b → (lowest (λ i. p (suc i)) n < n → p (suc (lowest (λ i. p (suc i)) n)) ≡ true)
        → cond b 0 (suc (lowest (λ i. p (suc i)) n)) < suc n → p (cond b 0 (suc (lowest (λ i. p (suc i)) n))) ≡ true
    go true e r l = e
    go false e r l = r (le_of_suc-le-suc l)

-- only the tests below n count
pub lowest-same : (p q : ℕ → Bool) (n : ℕ) → ((k : ℕ) → k < n → p k ≡ q k) → lowest p n ≡ lowest q n
unfolding lowest
lowest-same p q zero e = refl
lowest-same p q (suc n) e =
    rw (e 0 (omega arith))
    (ap (λ (x : ℕ). cond (q 0) 0 (suc x)) (lowest-same (λ k. p (suc k)) (λ k. q (suc k)) n (λ k l. e (suc k) (omega arith))))

-- the answer of a search through a range: what passes there is the lowest, and where nothing does there is none
pub lowest-found : (p : ℕ → Bool) (n : ℕ) (answer : Option ℕ)
    → MatchOption answer ((k : ℕ) → 0 ≤ k → k < n → p k ≡ false) (λ i. (0 ≤ i) × (i < n) × (p i ≡ true) × ((k : ℕ) → 0 ≤ k → k < i → p k ≡ false))
    → IsLowest answer p n
lowest-found p n None none = lowest-none p n (λ k l. none k (omega arith) l)
lowest-found p n (Some i) some = (lowest-hit p n i some.1 (λ k l. some.3 k (omega arith) l) some.2, some.1)

-- the two ways out of a loop that goes up from 0 and has found none below i
pub found : (p : ℕ → Bool) (n i : ℕ) → i < n → ((k : ℕ) → k < i → p k ≡ false) → p i ≡ true → i ≡ lowest p n
found p n i h b e = sym (lowest-hit p n i h b e)

pub missed : (p : ℕ → Bool) (n i : ℕ) → i ≤ n → n ≤ i → ((k : ℕ) → k < i → p k ≡ false) → i ≡ lowest p n
missed p n i h l b = let e : i ≡ n = omega arith in rw e (sym (lowest-none p n (λ k m. b k (omega arith))))

-- a loop over rows of w: none passes below the row from a on, whose places were searched by the test q, and x is what that search found
module _ (p : ℕ → Bool) (a w : ℕ) (before : (k : ℕ) → k < a → p k ≡ false) (q : ℕ → Bool) (same : (j : ℕ) → j < w → p (a + j) ≡ q j) (x : ℕ) (e : x ≡ lowest q w) where
  none-under : (k : ℕ) → k < a + x → p k ≡ false
  none-under k l = go (dec_lt k a)
    where
      go : Dec (k < a) → p k ≡ false
      go (yes u) = before k u
      go (no u) =
          let i : a + (k - a) ≡ k = omega arith in
          subst (λ (i : ℕ). p i ≡ false) i (same (k - a) (omega (arith, lowest-le q w)) ∙ lowest-before q w (k - a) (omega arith))

  -- none in the row: none below the next row
  pub row-missed : w ≤ x → (k : ℕ) → k < a + w → p k ≡ false
  row-missed h k l = none-under k (omega arith)

  -- one in the row: it is the lowest of all
  pub row-found : (n : ℕ) → a + w ≤ n → x < w → a + x ≡ lowest p n
  row-found n r h =
      found p n (a + x) (omega arith) none-under (same x h ∙ ap q e ∙ lowest-passes q w (omega arith))

-- ---- whether some index passes, for a loop that goes through all of them

pub none_passes : (p : ℕ → Bool) (n : ℕ) → ((k : ℕ) → k < n → p k ≡ false) → some_below p n ≡ false
unfolding some_below
none_passes p zero e = refl
none_passes p (suc n) e = rw (none_passes p n (λ k l. e k (omega arith))) (e n (omega arith))

pub none_passed : (p : ℕ → Bool) (n : ℕ) → some_below p n ≡ false → (k : ℕ) → k < n → p k ≡ false
unfolding some_below
none_passed p zero e k l = absurd (not-suc-le-zero l)
none_passed p (suc n) e k l = let q = or-false (some_below p n) (p n) e in go (dec_lt k n) (none_passed p n q.0 k) q.1
  where
    go : Dec (k < n) → (k < n → p k ≡ false) → p n ≡ false → p k ≡ false
    go (yes u) before last = before u
    go (no u) before last = let i : n ≡ k = omega arith in subst (λ (i : ℕ). p i ≡ false) i last

pub same-below : (p q : ℕ → Bool) (n : ℕ) → ((k : ℕ) → k < n → p k ≡ q k) → some_below p n ≡ some_below q n
unfolding some_below
same-below p q zero e = refl
same-below p q (suc n) e = (λ i. same-below p q n (λ k l. e k (omega arith)) i || e n (omega arith) i)
