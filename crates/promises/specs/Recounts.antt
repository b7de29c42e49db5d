-- Recounting as statements: which indices of a sequence are at fault, in the documents' own words over whole numbers, and that 13 is given at the
-- lowest of them, and to no admissible sequence. Assumes nothing.
use Rattle.std.specs.Prelude.{ℕ, zero, suc, ◌+◌, ◌-◌, ◌≤◌, ◌<◌, ◌≡◌, ◌↔◌, Bool, true, false, not, ◌&&◌, ◌||◌, List, ltb, eqb, ℤ, pos, neg_ℤ, ◌-ℤ◌, length}
use Rattle.std.specs.Int.Signed.{le_z, lt_z}
use Rattle.paper.specs.Layer.{Plate, allowed, tmax}
use Rattle.paper.specs.Table.{natural}
use Rattle.paper.specs.Sequence.{◌!◌, count, error_at, error, Admissible}
use Rattle.plate.specs.Call.{answer_of}
use Rattle.plate.specs.Head.{Held}
use Rattle.plate.specs.Refusal.{done, refused}
use Rattle.recount.specs.Recount.{recounting}
use Rattle.promises.specs.Plans.{plate_of, Refused}

-- the index i is at fault
abbrev pub at_fault : Plate → ℕ → List ℤ → ℕ → Bool
-- 'Fewer than two boundaries, or z0 out of range: 13 at 0.'
at_fault p bound zs zero = ltb (length zs) 2 || (le_z (zs ! 0) (neg_ℤ (pos (tmax p.T))) || lt_z (pos 0) (zs ! 0))
-- 'whose difference from the boundary before isn't in T, which is above N+tmax-1, or whose layer is over the bound'; 'at index 1 if z1 is 0 or
-- less, and at n if the boundary before zn is N or more'; 'zn below N, at n'
at_fault p bound zs (suc k) =
    (not (allowed p.T (natural (zs ! suc k -ℤ zs ! k))) || (lt_z (pos (p.N + tmax p.T - 1)) (zs ! suc k) || ltb bound (error_at p zs k)))
    || ((eqb k 0 && le_z (zs ! suc k) (pos 0)) || (eqb (suc k) (count zs) && (le_z (pos p.N) (zs ! k) || lt_z (zs ! suc k) (pos p.N))))

-- 'lowest index of all first'
pub record LowestFault (p : Plate) (bound : ℕ) (zs : List ℤ) (i : ℕ) : Type 0 where
  pub within : i ≤ count zs
  pub at-fault : at_fault p bound zs i ≡ true
  pub none_before : (j : ℕ) → j < i → at_fault p bound zs j ≡ false

-- recounting over a table in bounds
pub record RecountsExactly (held : Held) (bound : ℕ) (zs : List ℤ) : Type 0 where
  -- the error is answered of an admissible sequence, and of no other
  pub answers : (e : ℕ) → (answer_of (recounting held bound zs) ≡ done e) ↔ (Admissible (plate_of held) bound zs × (error (plate_of held) zs ≡ e))
  -- it is refused exactly where it isn't admissible
  pub exactly : Refused (answer_of (recounting held bound zs)) ↔ (Admissible (plate_of held) bound zs → ⊥)
  -- by 13, at the lowest index at fault
  pub refuses : (number place : ℕ) → (answer_of (recounting held bound zs) ≡ refused number place) ↔ ((number ≡ 13) × LowestFault (plate_of held) bound zs place)
