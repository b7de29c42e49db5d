-- An index at fault, by what is at fault there; where nothing is, each test passed (`fault-parts`). Before the first fault boundaries rise from a start
-- on, so they lie over the datum (`over`), and there the tests are the documents' own words (`fault-words`). Assumes nothing.
use mathlib.Core.Path.{◌≡◌, ap, ap₂}
use mathlib.Core.Bool.{Bool, true, false, not, ◌&&◌, ◌||◌}
use mathlib.Core.List.{List}
use Prim.Native.Nat.{ℕ, zero, suc, ◌+◌, ◌-◌, ◌≤◌, ◌<◌}
use native.Mathlib.Decide.{ℕ_discrete}
use native.Mathlib.Omega.{arith}
use borrow.Author.Tests.{le-leb, lt-leb, leb-false, ltb-false, eq-eqb, ne_eqb, not-false}
use lib.Dec.{leb, ltb, eqb}
use lib.IntN.{ℤ, pos, ◌-ℤ◌}
use lib.Signed.{le_z, lt_z}
use Rattle.lists.proofs.Checks.{or-false}
use Rattle.paper.specs.Layer.{allowed, tmax}
use Rattle.paper.specs.Table.{natural, of_table}
use Rattle.paper.specs.Sequence.{◌!◌, count, error_at}
use Rattle.paper.proofs.Thicknesses.{allowed-from}
use Rattle.plate.specs.Datum.{datum}
use Rattle.sequence.specs.Sequence.{starts, lowest_end}
use Rattle.sequence.proofs.Layers.{and-false, or_right, start-from}
use Rattle.table.specs.Cells.{cell_from}
use Rattle.recount.specs.Recount.{out_between, layer_out, last_out, fault_at}
use Rattle.recount.proofs.Words.{layer-words, first-words, before-last-words, end-words}

module _ (N T : ℕ) (table : List ℕ) (bound : ℕ) (zs : List ℤ) where
  pub fault-first : datum (zs ! 1) ≤ 32 → fault_at N T table bound zs 0 ≡ true
  unfolding fault_at
  fault-first l = or_right (layer_out N T table bound zs 0) _ (simp (le-leb (datum (zs ! 1)) 32 l))

  module _ (k : ℕ) where
    pub fault-layer : layer_out N T table bound zs k ≡ true → fault_at N T table bound zs k ≡ true
    unfolding fault_at
    fault-layer e = simp e

    pub fault-last : suc k ≡ count zs → last_out N (datum (zs ! k)) (datum (zs ! suc k)) ≡ true → fault_at N T table bound zs k ≡ true
    unfolding fault_at
    fault-last i e =
        or_right (layer_out N T table bound zs k) _
        (or_right (eqb k 0 && leb (datum (zs ! suc k)) 32) _ (simp (eq-eqb (suc k) (count zs) i, e)))

    pub fault-none : layer_out N T table bound zs k ≡ false → 32 < datum (zs ! 1) → (suc k ≡ count zs → last_out N (datum (zs ! k)) (datum (zs ! suc k)) ≡ false)
        → fault_at N T table bound zs k ≡ false
    unfolding fault_at
    fault-none e above ends = simp e (neither (first (ℕ_discrete k 0)) (last (ℕ_discrete (suc k) (count zs))))
      where
        neither : {a b : Bool} → a ≡ false → b ≡ false → a || b ≡ false
        neither p q = simp (p, q)

        first : Dec (k ≡ 0) → eqb k 0 && leb (datum (zs ! suc k)) 32 ≡ false
        first (yes i) = let l : 32 < datum (zs ! suc k) = rw i above in and-false (eqb k 0) _ (lt-leb (datum (zs ! suc k)) 32 l)
        first (no i) = simp (ne_eqb k 0 i)

        last : Dec (suc k ≡ count zs) → eqb (suc k) (count zs) && last_out N (datum (zs ! k)) (datum (zs ! suc k)) ≡ false
        last (yes i) = and-false (eqb (suc k) (count zs)) _ (ends i)
        last (no i) = simp (ne_eqb (suc k) (count zs) i)

-- no fault
pub record Faultless (N T : ℕ) (table : List ℕ) (bound : ℕ) (zs : List ℤ) (k : ℕ) : Type 0 where
  pub member : allowed T (datum (zs ! suc k) - datum (zs ! k)) ≡ true
  pub ends : datum (zs ! suc k) ≤ N + tmax T + 31
  pub within : cell_from T table (datum (zs ! k)) (datum (zs ! suc k) - datum (zs ! k)) ≤ bound
  pub first_above : k ≡ 0 → 32 < datum (zs ! suc k)
  pub last-below : suc k ≡ count zs → datum (zs ! k) < lowest_end N
  pub last-from : suc k ≡ count zs → lowest_end N ≤ datum (zs ! suc k)

module _ (N T : ℕ) (table : List ℕ) (bound : ℕ) (zs : List ℤ) where
  pub fault-parts : (k : ℕ) → fault_at N T table bound zs k ≡ false → Faultless N T table bound zs k
  unfolding fault_at layer_out out_between
  fault-parts k e = record {
    member = not-false _ l.0;
    ends = ltb-false _ _ m.0;
    within = ltb-false _ _ m.1;
    first_above = λ i. leb-false _ _ (rw (eq-eqb k 0 i) at r.0);
    last-below = λ i. leb-false _ _ (ended i).0;
    last-from = λ i. ltb-false _ _ (ended i).1;
  }
    where
      t : ℕ
      t = datum (zs ! suc k) - datum (zs ! k)

      o : (layer_out N T table bound zs k ≡ false)
          × (((eqb k 0 && leb (datum (zs ! suc k)) 32) || (eqb (suc k) (count zs) && last_out N (datum (zs ! k)) (datum (zs ! suc k)))) ≡ false)
      o = or-false _ _ e

      l : (not (allowed T t) ≡ false) × ((ltb (N + tmax T + 31) (datum (zs ! suc k)) || ltb bound (cell_from T table (datum (zs ! k)) t)) ≡ false)
      l = or-false _ _ o.0

      m : (ltb (N + tmax T + 31) (datum (zs ! suc k)) ≡ false) × (ltb bound (cell_from T table (datum (zs ! k)) t) ≡ false)
      m = or-false _ _ l.1

      r : (eqb k 0 && leb (datum (zs ! suc k)) 32 ≡ false) × (eqb (suc k) (count zs) && last_out N (datum (zs ! k)) (datum (zs ! suc k)) ≡ false)
      r = or-false _ _ o.1

      ended : suc k ≡ count zs → (leb (lowest_end N) (datum (zs ! k)) ≡ false) × (ltb (datum (zs ! suc k)) (lowest_end N) ≡ false)
      ended i = or-false _ _ (rw (eq-eqb (suc k) (count zs) i) at r.1)

  -- boundaries under which no index is at fault
  pub over : starts (tmax T) (datum (zs ! 0)) ≡ true → (k : ℕ) → ((j : ℕ) → j < k → fault_at N T table bound zs j ≡ false) → 32 < datum (zs ! k) + tmax T
  over start zero before = start-from (tmax T) (datum (zs ! 0)) start
  over start (suc k) before =
      let o = over start k (λ j l. before j (omega arith)) in
      let f = fault-parts k (before k (omega arith)) in
      omega (arith, allowed-from T _ f.member)

  -- the index k + 1 in the documents' own words
  pub fault-words : (k : ℕ) → 1 ≤ tmax T → 32 < datum (zs ! k) + tmax T → fault_at N T table bound zs k
      ≡ ((not (allowed T (natural (zs ! suc k -ℤ zs ! k))) || (lt_z (pos (N + tmax T - 1)) (zs ! suc k) || ltb bound (error_at (of_table N T table) zs k)))
      || ((eqb k 0 && le_z (zs ! suc k) (pos 0)) || (eqb (suc k) (count zs) && (le_z (pos N) (zs ! k) || lt_z (zs ! suc k) (pos N)))))
  unfolding fault_at
  fault-words k some from =
      ap₂ ◌||◌ (layer-words N T table bound zs k some from)
      (ap₂ ◌||◌ (ap (λ (b : Bool). eqb k 0 && b) (first-words (zs ! suc k)))
      (ap₂ (λ (a b : Bool). eqb (suc k) (count zs) && (a || b)) (before-last-words N (zs ! k)) (end-words N (zs ! suc k))))
