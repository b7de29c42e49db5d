-- A sequence that passes 13 climbs: every difference is a thickness, so that each boundary lies above the one before and all of them over the datum,
-- and none is above N + tmax - 1. So distances are differences of datum heights, and there are no more layers than units. Assumes nothing.
use mathlib.Core.Path.{◌≡◌, sym}
use mathlib.Core.Bool.{true, false, not}
use mathlib.Core.List.{List, []}
use mathlib.Core.Option.{none}
use Prim.Native.Nat.{ℕ, zero, suc, ◌+◌, ◌-◌, ◌≤◌, ◌<◌}
use native.Mathlib.Omega.{arith}
use borrow.Author.Tests.{ltb-false, not-false}
use lib.Dec.{ltb}
use lib.IntN.{ℤ, nat_abs, ◌-ℤ◌}
use lib.ListN.{length}
use Rattle.lists.specs.Checks.{first}
use Rattle.lists.proofs.Checks.{or-false, first-none}
use Rattle.lists.proofs.Search.{lowest-before}
use Rattle.paper.specs.Limits.{largest_bound}
use Rattle.paper.specs.Layer.{tmax}
use Rattle.paper.specs.Sequence.{◌!◌, count}
use Rattle.paper.proofs.Thicknesses.{tmax-le, allowed-from}
use Rattle.plate.specs.Datum.{datum}
use Rattle.sequence.specs.Sequence.{starts}
use Rattle.sequence.proofs.Layers.{start-to}
use Rattle.recount.specs.Recount.{fault_at, first_fault, sequence_checks, unbounded_checks}
use Rattle.recount.proofs.Answers.{count-is}
use Rattle.recount.proofs.Faults.{fault-parts, over}
use Rattle.recount.proofs.Words.{rise}
use Rattle.orders.specs.Parts.{Climbs}

module _ (N T : ℕ) (zs : List ℤ) (low : N ≤ 512) (passes : none ≡ first (unbounded_checks N T zs)) where
  quiet : ((ltb (length zs) 2 ≡ false) × (starts (tmax T) (datum (zs ! 0)) ≡ true)) × (count zs ≤ first_fault N T [] largest_bound zs)
  unfolding sequence_checks
  quiet =
      let q = (first-none (sequence_checks N T [] largest_bound zs)).0 (sym passes) in
      let s = or-false (ltb (length zs) 2) (not (starts (tmax T) (datum (zs ! 0)))) q.0 in
      ((s.0, not-false _ s.1), ltb-false _ _ q.1.0)

  -- no index is at fault
  faultless : (k : ℕ) → k < count zs → fault_at N T [] largest_bound zs k ≡ false
  unfolding first_fault
  faultless k l = lowest-before (fault_at N T [] largest_bound zs) (count zs) k (omega (arith, quiet.1))

  from : (k : ℕ) → k ≤ count zs → 1 ≤ datum (zs ! k)
  from k l = omega (arith, over N T [] largest_bound zs quiet.0.1 k (λ j m. faultless j (omega arith)), tmax-le T)

  to : (k : ℕ) → k ≤ count zs → datum (zs ! k) ≤ 600
  to zero l = omega (arith, start-to (tmax T) (datum (zs ! 0)) quiet.0.1)
  to (suc k) l = omega (arith, (fault-parts N T [] largest_bound zs k (faultless k l)).ends, tmax-le T)

  pub climbs : Climbs zs
  climbs = record {
    layered = ltb-false (length zs) 2 quiet.0.0;
    rises = λ k l. omega (arith, allowed-from T _ (fault-parts N T [] largest_bound zs k (faultless k l)).member);
    within = λ k l. (from k l, to k l);
  }

-- ---- what climbs

module _ (zs : List ℤ) (c : Climbs zs) where
  pub layers-are : count zs ≡ length zs - 1
  layers-are = count-is zs

  above : (d k : ℕ) → k + suc d ≤ count zs → datum (zs ! k) < datum (zs ! (k + suc d))
  above zero k l = let e : k + 1 ≡ suc k = omega arith in rw e (c.rises k (omega arith))
  above (suc d) k l =
      let e : k + suc (suc d) ≡ suc (k + suc d) = omega arith in rw e (omega (arith, above d k (omega arith), c.rises (k + suc d) (omega arith)))

  -- of any two boundaries, the higher lies above the lower, by the difference of their datum heights
  module _ (j k : ℕ) (l : j < k) (m : k ≤ count zs) where
    pub rises-to : datum (zs ! j) < datum (zs ! k)
    rises-to = let e : j + suc (k - j - 1) ≡ k = omega arith in rw e at (above (k - j - 1) j (omega arith))

    pub distance_is : nat_abs (zs ! k -ℤ zs ! j) ≡ datum (zs ! k) - datum (zs ! j)
    distance_is = rise (zs ! j) (zs ! k) (c.within j (omega arith)).0 rises-to

  -- no more layers than units
  under : (k : ℕ) → k ≤ count zs → k ≤ datum (zs ! k)
  under zero l = omega arith
  under (suc k) l = omega (arith, under k (omega arith), c.rises k l)

  pub few-layers : count zs ≤ 600
  few-layers = omega (arith, under (count zs) (omega arith), (c.within (count zs) (omega arith)).1)
