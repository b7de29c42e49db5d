-- How long a number's text is at most. Assumes nothing.
use mathlib.Core.Bool.{Bool, true, false, cond}
use mathlib.Core.List.{[], ◌∷◌, ◌++◌}
use Prim.Native.Nat.{ℕ, zero, suc, ◌+◌, ◌/◌, ◌%◌, ◌≤◌}
use native.Mathlib.Omega.{arith}
use lib.Dec.{ltb}
use lib.IntN.{ℤ, pos, negsuc}
use lib.ListN.{length, length-append}
use Rattle.text.specs.Numbers.{spelled, decimal, signed}

spelled-length : (k n : ℕ) → length (spelled k n) ≤ k
unfolding spelled
spelled-length zero n = omega arith
spelled-length (suc k) n = go (ltb n 10) (spelled-length k (n / 10))
  where
    go : (b : Bool) → length (spelled k (n / 10)) ≤ k → length (cond b ((48 + n) ∷ []) (spelled k (n / 10) ++ ((48 + n % 10) ∷ []))) ≤ suc k
    go true l = omega arith
    go false l = omega (arith, length-append (spelled k (n / 10)) ((48 + n % 10) ∷ []))

pub decimal-length : (n : ℕ) → length (decimal n) ≤ 20
unfolding decimal
decimal-length n = spelled-length 20 n

pub signed-length : (z : ℤ) → length (signed z) ≤ 21
unfolding signed
signed-length (pos n) = let l = decimal-length n in omega arith
signed-length (negsuc n) = let l = decimal-length (suc n) in omega arith
