-- The start of a row in two bytes. A whole number that has 16 bits is got back from them, and 16 bits from the number they are; so comparing the
-- bits of a start is comparing the start. And the rows of a file are document 01's: row r has the cells of its start, thickness running fastest.
-- Assumes nothing.
use mathlib.Core.Path.{◌≡◌, refl, sym, ap, ◌∙◌}
use mathlib.Core.Logic.{◌↔◌}
use mathlib.Core.Bool.{Bool, true, false, cond}
use Prim.Native.Nat.{ℕ, zero, suc, ◌+◌, ◌-◌, ◌*◌, ◌%◌, ◌<◌}
use native.Mathlib.Omega.{arith}
use borrow.Author.Tests.{le-ltb, lt-ltb, ltb-true, ltb-false}
use lib.Arith.{digits_div}
use lib.Dec.{ltb}
use lib.IntN.{ℤ, pos, negsuc, ◌-ℤ◌}
use Rattle.paper.specs.Layer.{tmax}
use Rattle.paper.specs.Table.{start_at, thickness_at}
use Rattle.paper.proofs.Thicknesses.{tmax-le}
use Rattle.table.proofs.Cells.{thickness-row}
use Rattle.sent.specs.Start.{row_start, twos16, signed16}

pub twos_small : (z : ℤ) → twos16 z < 65_536
unfolding twos16
twos_small (pos n) = omega arith
twos_small (negsuc n) = omega arith

-- the low 16 bits of a difference that wraps around 2 ^ 64, which is a multiple of 2 ^ 16
pub bits_are : (a b : ℕ) → a < 18446744073709551616 → b < 18446744073709551616 → (a + (18446744073709551616 - b)) % 18446744073709551616 % 65536 ≡ twos16 (pos a -ℤ pos b)
unfolding twos16
bits_are a zero l m = omega arith
bits_are a (suc b) l m = go (ltb a (suc b)) refl
  where
    go : (x : Bool) → ltb a (suc b) ≡ x → (a + (18446744073709551616 - suc b)) % 18446744073709551616 % 65536 ≡ twos16 (cond x (negsuc (suc b - suc a)) (pos (a - suc b)))
    go true e = let l = ltb-true a (suc b) e in omega arith
    go false e = let l = ltb-false a (suc b) e in omega arith

-- a number that has 16 bits
abbrev pub Short : ℤ → Type 0
Short (pos n) = n < 32_768
Short (negsuc n) = n < 32_768

pub signed-twos : (z : ℤ) → Short z → signed16 (twos16 z) ≡ z
unfolding signed16 twos16
signed-twos (pos n) l = let e : n % 65_536 ≡ n = omega arith in rw (e, lt-ltb n 32_768 l) refl
signed-twos (negsuc n) l =
    let e : n % 65_536 ≡ n = omega arith in
    let f : 65_535 - (65_535 - n) ≡ n = omega arith in
    rw (e, le-ltb (65_535 - n) 32_768 (omega arith), f) refl

pub twos-signed : (n : ℕ) → n < 65_536 → twos16 (signed16 n) ≡ n
unfolding signed16 twos16
twos-signed n l = go (ltb n 32_768) refl
  where
    go : (b : Bool) → ltb n 32_768 ≡ b → twos16 (cond b (pos n) (negsuc (65_535 - n))) ≡ n
    go true e = let w = ltb-true n 32_768 e in omega arith
    go false e = let w = ltb-false n 32_768 e in omega arith

short-difference : (a b : ℕ) → a < 32_768 → b < 32_768 → Short (pos a -ℤ pos b)
short-difference a zero l m = omega arith
short-difference a (suc b) l m = go (ltb a (suc b)) refl
  where
    go : (x : Bool) → ltb a (suc b) ≡ x → Short (cond x (negsuc (suc b - suc a)) (pos (a - suc b)))
    go true e = omega arith
    go false e = omega arith

-- the 16 bits are those of the start exactly if, read as a signed number, they are it
pub start_is : (T r n : ℕ) → r < 32_768 → n < 65_536 → (n ≡ twos16 (row_start T r)) ↔ (signed16 n ≡ row_start T r)
unfolding row_start
start_is T r n l m = (
  λ e. ap signed16 e ∙ signed-twos (row_start T r) (short-difference r (tmax T - 1) l (let w = tmax-le T in omega arith)),
  λ e. sym (twos-signed n m) ∙ ap twos16 e,
)

-- row r has document 01's cells of that start, thickness running fastest from 1
pub row-cell : (T r j : ℕ) → j < tmax T → (start_at T (r * tmax T + j) ≡ row_start T r) × (thickness_at T (r * tmax T + j) ≡ j + 1)
unfolding start_at row_start
row-cell T r j l = (ap (λ (n : ℕ). pos n -ℤ pos (tmax T - 1)) (digits_div r l), thickness-row T (tmax T) r j refl l)
