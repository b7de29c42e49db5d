-- A row and the first boundary above its start. The voxels of the row's layers below that boundary are alike; from it on they are those carried
-- up from the boundary, so the inside count goes from one thickness to the next by the one voxel more. Assumes nothing.
use mathlib.Core.Path.{◌≡◌, sym, ap, ◌∙◌}
use mathlib.Core.List.{List}
use Prim.Native.Nat.{ℕ, zero, suc, ◌+◌, ◌-◌, ◌*◌, ◌%◌, ◌≤◌, ◌<◌, max}
use native.Mathlib.Omega.{arith}
use lib.ListN.{length, get_or}
use Rattle.plate.specs.Datum.{at_row}
use Rattle.column.specs.Inside.{passed, inside}
use Rattle.column.proofs.Between.{Rising}
use Rattle.column.proofs.Inside.{inside-none, inside-more}
use Rattle.near.specs.Carried.{state_at, States}
use Rattle.near.specs.Facing.{Under, Facing, Near}
use Rattle.near.proofs.Carried.{rising-to, passed_is, carried-is}

-- ---- the boundaries at or below a row's start

pub under_none : (bs : List ℕ) (m row : ℕ) → Under bs m row 0
under_none bs m row = record { are = λ i l. absurd (omega arith) }

pub under-later : {bs : List ℕ} {m row k : ℕ} (next : ℕ) → row ≤ next → Under bs m row k → Under bs m next k
under-later next l w = record { are = λ i u. omega (arith, w.are i u) }

-- from the row that starts at boundary k on
pub under_more : {bs : List ℕ} {m row k : ℕ} → Rising bs → k < length bs → get_or bs k 0 + m ≤ row + 1 → Under bs m row (k + 1)
under_more {bs} {m} {row} {k} r l u = record { are = λ i v. omega (arith, rising-to bs r i k (omega arith) l) }

-- ---- the rows near a boundary

-- the rows near boundary k, from `row` on, where the boundaries before are at or below it and boundary k is not
pub near-from : {bs : List ℕ} {m row k : ℕ} (from b : ℕ) → k < length bs → b ≡ get_or bs k 0 → 1 ≤ m → Under bs m row k → row + 1 ≤ get_or bs k 0 + m → from ≡ max row b
    → Near bs m from (b + m - 1) k
near-from from b l is p u o e = record { there = l; under = under-later from (omega arith) u; place = omega arith; near = omega arith; order = omega arith }

-- ---- a row's layers

module _ (bs : List ℕ) (r : Rising bs) {m row k first : ℕ} (thick : m ≤ 32) (f : Facing bs m row k first) where
  abbrev h : ℕ
  h = at_row m row

  -- under the boundary
  passed-below : (i : ℕ) → i < first → passed bs (h + i) ≡ k
  passed-below i l =
      passed_is bs (h + i) k (omega (arith, f.there)) (λ j u. omega (arith, f.under.are j u))
      (λ j u v. omega (arith, rising-to bs r k j u v, f.place))

  pub inside-below : (j : ℕ) → j ≤ first → inside bs h j ≡ k % 2 * j
  inside-below zero l = inside-none bs h ∙ omega arith
  inside-below (suc j) l =
      let e : suc j ≡ j + 1 = omega arith in
      ap (inside bs h) e ∙ inside-more bs h j ∙ omega (arith, inside-below j (omega arith), ap (λ n. n % 2) (passed-below j (omega arith)))

  -- from it on: one voxel more
  pub inside-carried : {states : List ℕ} → States bs k (m - 1) states → (j : ℕ) → first ≤ j → j < m
      → inside bs h (j + 1) ≡ inside bs h j + get_or states (j - first) 0
  unfolding state_at
  inside-carried {states} w j l u =
      let e : h + j ≡ get_or bs k 0 + 32 + (j - first) = omega (arith, f.place) in
      inside-more bs h j
      ∙ ap (λ x. inside bs h j + x % 2) (ap (passed bs) e ∙ carried-is bs r k f.there (j - first))
      ∙ ap (λ x. inside bs h j + x) (sym (w.are (j - first) (omega (arith, f.above))))
