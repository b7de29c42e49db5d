-- The least of several numbers, some of which may be missing, and the lowest place that has it. Assumes nothing.
use Rattle.std.specs.Prelude.{ℕ, zero, suc, ◌+◌, cond, ltb}
use Rattle.std.proofs.Math.Option.{Option, none, some}

-- found e t: the least is e, and t is the lowest place that has it
pub data Best : Type 0 where
  nothing : Best
  found : ℕ → ℕ → Best

abbrev pub value : Best → Option ℕ
value nothing = none
value (found e t) = some e

abbrev pub place : Best → ℕ
place nothing = 0
place (found e t) = t

-- the best so far, and then what stands at a later place t
abbrev pub better : Best → ℕ → Option ℕ → Best
better b t none = b
better nothing t (some e) = found e t
better (found e₀ t₀) t (some e) = cond (ltb e e₀) (found e t) (found e₀ t₀)

-- the best of the k places from a on
unfoldable pub best_of : (ℕ → Option ℕ) → ℕ → ℕ → Best
best_of f a zero = nothing
best_of f a (suc k) = better (best_of f a k) (a + k) (f (a + k))
