-- The text of a number with its sign is that of what is left without it, behind the sign below 0. Assumes nothing.
use Rattle.std.proofs.Common.{◌≡◌, ℕ, ℤ, pos, true, false, ◌∷◌, ap, subst, arith}
use Rattle.std.proofs.Math.IntN.{negsuc}
use borrow.Author.Tests.{ltb-true}
use lib.Dec.{T}
use lib.Signed.{lt_z}
use Rattle.std.specs.Int.RustNames.{unsigned_abs}
use Rattle.text.specs.Numbers.{decimal, signed}

pub below-text : (z : ℤ) (n : ℕ) → lt_z z (pos 0) ≡ true → n ≡ unsigned_abs z → 45 ∷ decimal n ≡ signed z
unfolding signed
below-text (pos k) n e is = absurd (omega (arith, ltb-true k 0 e))
below-text (negsuc k) n e is = ap (λ (m : ℕ). 45 ∷ decimal m) is

pub above-text : (z : ℤ) (n : ℕ) → lt_z z (pos 0) ≡ false → n ≡ unsigned_abs z → decimal n ≡ signed z
unfolding signed
above-text (pos k) n e is = ap decimal is
above-text (negsuc k) n e is = absurd (subst T e tt)
