-- One more boundary counted, one more voxel counted: the steps of the loops. Assumes nothing.
use mathlib.Core.Path.{◌≡◌, refl}
use mathlib.Core.Bool.{Bool, true, false, cond}
use mathlib.Core.List.{List}
use Prim.Native.Nat.{ℕ, zero, suc, ◌+◌, ◌%◌, ◌≤◌, ◌<◌}
use borrow.Author.Tests.{le-leb, lt-leb}
use native.Mathlib.Numerals.{add-one}
use native.Mathlib.Omega.{arith}
use lib.Dec.{leb}
use mir.Val.{bool_byte}
use lib.ListN.{length, get_or, drop, drop_of_length-le}
use lib.Seq.{drop-cons}
use Rattle.column.specs.Inside.{reached_by, passed, inside}

pub reached-yes : (b h : ℕ) → b + 32 ≤ h → (1 ≡ reached_by b h) × (◌≤◌ 1 1)
unfolding reached_by
reached-yes b h l = (simp le-leb, omega arith)

pub reached-no : (b h : ℕ) → h < b + 32 → (0 ≡ reached_by b h) × (◌≤◌ 0 1)
unfolding reached_by
reached-no b h l = (simp lt-leb, omega arith)

-- a boundary's test as the number that it is counted by
pub reached-counts : (b h : ℕ) → bool_byte (leb (b + 32) h) ≡ reached_by b h
unfolding reached_by
reached-counts b h = go (leb (b + 32) h)
  where
    go : (reached : Bool) → bool_byte reached ≡ cond reached 1 0
    go true = refl
    go false = refl

pub reached-le : (b h : ℕ) → reached_by b h ≤ 1
unfolding reached_by
reached-le b h = go (leb (b + 32) h)
  where
    go : (reached : Bool) → cond reached 1 0 ≤ 1
    go true = omega arith
    go false = omega arith

pub passed-more : (bs : List ℕ) (h i : ℕ) → i < length bs → passed (drop i bs) h ≡ reached_by (get_or bs i 0) h + passed (drop (i + 1) bs) h
unfolding passed
passed-more bs h i l = rw (add-one, drop-cons bs i 0)

pub passed-end : (bs : List ℕ) (h i : ℕ) → length bs ≤ i → passed (drop i bs) h ≡ 0
unfolding passed
passed-end bs h i l = rw (drop_of_length-le bs l)

pub inside-none : (bs : List ℕ) (h : ℕ) → inside bs h 0 ≡ 0
unfolding inside
inside-none bs h = refl

pub inside-more : (bs : List ℕ) (h k : ℕ) → inside bs h (k + 1) ≡ inside bs h k + passed bs (h + k) % 2
unfolding inside
inside-more bs h k = rw add-one

pub inside-le : (bs : List ℕ) (h t : ℕ) → inside bs h t ≤ t
unfolding inside
inside-le bs h zero = omega arith
inside-le bs h (suc t) = omega (arith, inside-le bs h t)
