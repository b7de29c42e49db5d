-- What the machine reads back from the bits of an i32, z + 32 in 64 bits, and h - 32 of a 16-bit h: neither can overflow. Assumes nothing.
use mathlib.Core.Path.{◌≡◌, refl, sym, subst, ap, ◌∙◌}
use mathlib.Core.Bool.{Bool, true, false, cond}
use Prim.Native.Nat.{ℕ, suc, ◌+◌, ◌-◌, ◌≤◌, ◌<◌}
use native.Mathlib.Omega.{arith}
use lib.Dec.{T, ltb}
use lib.IntN.{ℤ, pos, negsuc, nat_abs, sub_ℕ, ◌+ℤ◌, ◌-ℤ◌}
use lib.Signed.{mag, lt_z, non_neg}
use mir.Syntax.{w32, w64}
use mir.Val.{Fits, SFits, to_z, of_z}
use mir.ValLaws.{to_z-of_z, to_z_pos}
use borrow.Author.Tests.{ltb-true}
use Rattle.paper.specs.Table.{natural}
use Rattle.plate.specs.Datum.{datum, height_of}

pub wide64 : {z : ℤ} → SFits w32 z → SFits w64 z
wide64 f = record { sfits = omega (arith, f.sfits) }

pub mag-sub : (a b : ℕ) → mag (sub_ℕ a b) ≤ a + b
mag-sub a b = go (ltb a b)
  where
    go : (t : Bool) → mag (cond t (negsuc (b - suc a)) (pos (a - b))) ≤ a + b
    go true = omega arith
    go false = omega arith

pub plus32 : (z : ℤ) → SFits w32 z → SFits w64 (z +ℤ pos 32)
plus32 (pos n) f = record { sfits = omega (arith, f.sfits) }
plus32 (negsuc n) f = record { sfits = omega (arith, f.sfits, mag-sub 32 (suc n)) }

-- an i32 cast to an i64, and 32 more
pub read64 : (z : ℤ) → SFits w32 z → to_z w64 (of_z w64 (to_z w32 (of_z w32 z))) ≡ z
read64 z f = subst (λ (x : ℤ). to_z w64 (of_z w64 x) ≡ z) (sym (to_z-of_z w32 z f)) (to_z-of_z w64 z (wide64 f))

pub sum_fits : (z : ℤ) → SFits w32 z → SFits w64 (to_z w64 (of_z w64 (to_z w32 (of_z w32 z))) +ℤ pos 32)
sum_fits z f = subst (λ (x : ℤ). SFits w64 (x +ℤ pos 32)) (sym (read64 z f)) (plus32 z f)

pub summed : (z : ℤ) → SFits w32 z → to_z w64 (of_z w64 (to_z w64 (of_z w64 (to_z w32 (of_z w32 z))) +ℤ pos 32)) ≡ z +ℤ pos 32
summed z f = to_z-of_z w64 _ (sum_fits z f) ∙ ap (λ (x : ℤ). x +ℤ pos 32) (read64 z f)

-- a small height as an i32
pub minus32-fits : (h : ℕ) → h < 65536 → SFits w32 (to_z w32 h -ℤ pos 32)
minus32-fits h p = subst (λ (x : ℤ). SFits w32 (x -ℤ pos 32)) (sym (to_z_pos w32 h (omega arith))) (record { sfits = omega (arith, mag-sub h 32) })

-- the datum height of an i32, as it is read back from its bits
pub datum-back : (z : ℤ) → SFits w32 z → datum (to_z w32 (of_z w32 z)) ≡ datum z
datum-back z f = ap datum (to_z-of_z w32 z f)
