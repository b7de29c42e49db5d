-- The order of a column: what each test of the code says of `misplaced`. Where each boundary is above the one before, the last is the highest, so
-- that none is misplaced where the last is not above N. Assumes nothing.
use mathlib.Core.Path.{◌≡◌, ap}
use mathlib.Core.Bool.{false}
use mathlib.Core.List.{List}
use Prim.Native.Nat.{ℕ, zero, suc, ◌+◌, ◌-◌, ◌≤◌, ◌<◌}
use native.Mathlib.Omega.{arith}
use borrow.Author.Tests.{le-ltb, lt-leb, ne_eqb}
use lib.ListN.{length, get_or}
use Rattle.column.specs.Order.{misplaced}

module _ (bs : List ℕ) where
  -- among the first n, each is above the one before
  abbrev pub Rises : ℕ → Type 0
  Rises n = (k : ℕ) → suc k < n → get_or bs k 0 < get_or bs (suc k) 0

  highest : (n : ℕ) → Rises n → (k d : ℕ) → k + d < n → get_or bs k 0 ≤ get_or bs (k + d) 0
  highest n rises k zero l = let e : k + 0 ≡ k = omega arith in rw e (omega arith)
  highest n rises k (suc d) l =
      let e : k + suc d ≡ suc (k + d) = omega arith in
      rw e (omega (arith, highest n rises k d (omega arith), rises (k + d) (omega arith)))

  pub none-misplaced : (N : ℕ) → ((k : ℕ) → k < length bs → get_or bs k 0 ≤ N) → Rises (length bs) → (k : ℕ) → k < length bs → misplaced N bs k ≡ false
  unfolding misplaced
  none-misplaced N low rises zero l = simp (le-ltb N (get_or bs 0 0) (low 0 l))
  none-misplaced N low rises (suc k) l =
      let e : suc k - 1 ≡ k = omega arith in
      let n : suc k ≡ 0 → ⊥ = (λ z. omega arith) in
      simp (le-ltb N (get_or bs (suc k) 0) (low (suc k) l), ne_eqb (suc k) 0 n, e, lt-leb (get_or bs (suc k) 0) (get_or bs k 0) (rises k l))

  -- so it is enough to ask of the last
  pub none-by-last : (N : ℕ) → get_or bs (length bs - 1) 0 ≤ N → Rises (length bs) → (k : ℕ) → k < length bs → misplaced N bs k ≡ false
  none-by-last N low rises =
      none-misplaced N
      (λ k l.
      let d = length bs - 1 - k in
      let e : k + d ≡ length bs - 1 = omega arith in
      let last = ap (λ (i : ℕ). get_or bs i 0) e in
      omega (arith, highest (length bs) rises k d (omega arith), last))
      rises
