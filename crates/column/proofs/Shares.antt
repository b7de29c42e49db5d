-- The inside voxels that are counted from the datum are document 01's, so what is derived from them is its picture. Assumes nothing.
use Prim.Native.Nat.{ℕ, zero, suc, ◌+◌, ◌-◌, ◌%◌, min}
use mathlib.Core.Path.{◌≡◌, refl, sym, ap, ap₂, ◌∙◌}
use mathlib.Core.Bool.{Bool, cond}
use mathlib.Core.List.{List, [], ◌∷◌}
use native.Mathlib.Omega.{arith}
use native.Mathlib.Decide.{ℕ_discrete}
use lib.Dec.{eqb, ltb}
use lib.IntN.{ℤ, pos, ◌-ℤ◌}
use borrow.Author.Tests.{eq-eqb, ne_eqb}
use Rattle.paper.specs.Layer as paper
use Rattle.plate.specs.Datum.{height_of}
use Rattle.plate.proofs.Datum.{reach-height, sum-height}
use Rattle.column.specs.Inside.{reached_by, passed, inside}
use Rattle.column.specs.Picture.{judgement}

abbrev pub bit : Bool → ℕ
bit b = cond b 1 0

passed_is : (bs : List ℕ) (h : ℕ) → paper.at_or_below bs (height_of h) ≡ passed bs h
unfolding passed reached_by
passed_is [] h = refl
passed_is (b ∷ bs) h = ap₂ ◌+◌ (ap bit (reach-height b h)) (passed_is bs h)

-- the last digit of a number, as the test for odd numbers tells it
pub odd : (n : ℕ) → bit (eqb (n % 2) 1) ≡ n % 2
odd n = go (ℕ_discrete (n % 2) 1)
  where
    go : Dec (n % 2 ≡ 1) → bit (eqb (n % 2) 1) ≡ n % 2
    go (yes e) = ap bit (eq-eqb (n % 2) 1 e) ∙ sym e
    go (no e) = ap bit (ne_eqb (n % 2) 1 e) ∙ omega arith

pub inside_is : (bs : List ℕ) (h t : ℕ) → paper.inside_count bs (height_of h) t ≡ inside bs h t
unfolding inside
inside_is bs h zero = refl
inside_is bs h (suc t) =
    ap₂ ◌+◌ (inside_is bs h t)
    (ap (λ (z : ℤ). bit (paper.inside bs z)) (sum-height h t) ∙ odd (paper.at_or_below bs (height_of (h + t))) ∙ ap (λ n. n % 2) (passed_is bs (h + t)))

-- what is derived from the inside voxels is the picture
pub derived : (bs : List ℕ) (z : ℤ) (t i : ℕ) → i ≡ paper.inside_count bs z t → {filled : Bool} {share : ℕ} {difference : ℤ}
    → filled ≡ ltb (t - i) i → share ≡ min i (t - i) → difference ≡ pos i -ℤ pos (t - i)
    → record { filled = filled; share = share; difference = difference } ≡ judgement bs z t
derived bs z t i e f s d =
    (λ k. record { filled = f k; share = s k; difference = d k })
    ∙ ap (λ (n : ℕ). record { filled = ltb (t - n) n; share = min n (t - n); difference = pos n -ℤ pos (t - n) }) e
