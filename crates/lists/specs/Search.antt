-- The lowest index that passes a test, every 'first such index' of document 01; and whether there is one. Assumes nothing.
use Rattle.std.specs.Prelude.{ℕ, zero, suc, ◌<◌, ◌≡◌, Bool, false, cond, ◌||◌, Option, MatchOption}

-- the lowest k below n with p k, and n where there is none
unfoldable pub lowest : (ℕ → Bool) → ℕ → ℕ
lowest p zero = 0
lowest p (suc n) = cond (p 0) 0 (suc (lowest (λ k. p (suc k)) n))

-- what a search answers: the lowest index below n that passes a test, and nothing where there is none
abbrev pub IsLowest : Option ℕ → (ℕ → Bool) → ℕ → Type 0
IsLowest answer p n = MatchOption answer (lowest p n ≡ n) (λ i. (lowest p n ≡ i) × (i < n))

-- some k below n passes
unfoldable pub some_below : (ℕ → Bool) → ℕ → Bool
some_below p zero = false
some_below p (suc n) = some_below p n || p n
