-- A lift is judged by the thickness that it is by. Where no usable thickness leads to its bits, the search ends above tmax, and what is above tmax is
-- usable in no set. Where one does, it is usable; the first layer may then be so thick, and a later one if the layers below it still leave room.
-- Layers that passed stay low. Assumes nothing.
use mathlib.Core.Path.{◌≡◌, refl, sym, ◌∙◌}
use mathlib.Core.Bool.{Bool, true, false, cond}
use mathlib.Core.List.{List}
use mathlib.Core.Option.{none, some}
use Prim.Native.Nat.{ℕ, ◌+◌, ◌-◌, ◌≤◌, ◌<◌}
use Rattle.std.specs.Prelude.{Option, None, Some, MatchOption}
use native.Mathlib.Omega.{arith}
use borrow.Author.Tests.{lt-ltb, le-ltb, eq-eqb, ne_eqb}
use lib.Dec.{eqb}
use Rattle.lists.specs.Checks.{first}
use Rattle.lists.specs.Search.{lowest}
use Rattle.lists.proofs.Search.{lowest-passes, lowest-none, lowest-hit}
use Rattle.paper.specs.Layer.{tmax}
use Rattle.paper.proofs.Thicknesses.{and-true}
use Rattle.record.specs.Bytes.{le32}
use Rattle.record.specs.Frame.{body_at}
use Rattle.record.specs.Faults.{disagrees}
use Rattle.printed.specs.Possible.{usable}
use Rattle.printed.specs.Tests.{may_lift}
use Rattle.printed.proofs.Layers.{usable-to}
use Rattle.orders.specs.Layer.{height_bits}
use Rattle.orders.specs.File.{lift_place, grown, lifts_by, thickness_at, may_follow, lift_checks}
use Rattle.orders.specs.Parts.{Standing, IsThickness}
use Rattle.orders.specs.declared.Stack.{Stack}

above-tmax : (T : ℕ) (cures : List ℕ) (t : ℕ) → tmax T < t → usable T cures t ≡ false
above-tmax T cures t l = go (usable T cures t) refl
  where
    go : (b : Bool) → usable T cures t ≡ b → b ≡ false
    go true e = absurd (omega (arith, usable-to T cures t e))
    go false e = refl

-- the answer of a search through the thicknesses, where the test of a thickness is that of the number one less
pub thickness-found : (p q : ℕ → Bool) → ((i : ℕ) → q (i + 1) ≡ p i) → (n : ℕ) (answer : Option ℕ)
    → MatchOption answer ((k : ℕ) → 1 ≤ k → k < n + 1 → q k ≡ false) (λ t. (1 ≤ t) × (t < n + 1) × (q t ≡ true) × ((k : ℕ) → 1 ≤ k → k < t → q k ≡ false))
    → IsThickness answer (lowest p n) n
thickness-found p q same n None absent = lowest-none p n (λ i l. sym (same i) ∙ absent (i + 1) (omega arith) (omega arith))
thickness-found p q same n (Some t) hits =
    let e : t - 1 + 1 ≡ t = omega (arith, hits.0) in
    let passes : q (t - 1 + 1) ≡ true = rw e hits.2 in
    let hit =
    lowest-hit p n (t - 1) (omega (arith, hits.0, hits.1)) (λ i l. sym (same i) ∙ hits.3 (i + 1) (omega arith) (omega (arith, hits.0, l))) (sym (same (t - 1)) ∙ passes)
    in
    (omega (arith, hit, hits.0), omega (arith, hit, hits.0, hits.1))

module _ (N T step : ℕ) (cures file : List ℕ) (read : Stack) where
  -- what the search finds
  abbrev pub found : ℕ
  found = lowest (lifts_by T step cures read.rise (le32 file (body_at (lift_place read.layers)))) (tmax T)

  pub thickness-is : thickness_at T step cures file read ≡ found + 1
  unfolding thickness_at
  thickness-is = refl

  -- by none
  none-follows : (t : ℕ) → usable T cures t ≡ false → may_follow N T cures read t ≡ false
  unfolding may_lift
  none-follows t e = simp e (go (eqb read.layers 0))
    where
      go : (b : Bool) → cond b false false ≡ false
      go true = refl
      go false = refl

  pub lift-none : found ≡ tmax T → some (disagrees true (lift_place read.layers)).says ≡ first (lift_checks N T step cures file read)
  unfolding lift_checks thickness_at
  lift-none e = rw (none-follows (found + 1) (above-tmax T cures (found + 1) (omega arith))) refl

  -- by one
  module _ (l : found < tmax T) where
    pub found-usable : usable T cures (found + 1) ≡ true
    unfolding lifts_by
    found-usable =
        (and-true (usable T cures (found + 1)) (eqb (le32 file (body_at (lift_place read.layers))) (height_bits step (read.rise + (found + 1))))
        (lowest-passes (lifts_by T step cures read.rise (le32 file (body_at (lift_place read.layers)))) (tmax T) l)).0

    pub lift-first : read.layers ≡ 0 → none ≡ first (lift_checks N T step cures file read)
    unfolding lift_checks thickness_at
    lift-first e = simp (eq-eqb read.layers 0 e, found-usable)

    module _ (some-layer : read.layers ≡ 0 → ⊥) where
      pub lift-high : N + read.first ≤ read.rise + 1 → some (disagrees true (lift_place read.layers)).says ≡ first (lift_checks N T step cures file read)
      unfolding lift_checks thickness_at may_lift
      lift-high h = simp (ne_eqb read.layers 0 some-layer, found-usable, le-ltb (read.rise + 1) (N + read.first) h)

      pub lift-low : read.rise + 1 < N + read.first → none ≡ first (lift_checks N T step cures file read)
      unfolding lift_checks thickness_at may_lift
      lift-low h = simp (ne_eqb read.layers 0 some-layer, found-usable, lt-ltb (read.rise + 1) (N + read.first) h)

-- ---- one layer more

module _ (step : ℕ) (read : Stack) (s : Standing step read) (t : ℕ) (from : 1 ≤ t) (to : t ≤ 32) where
  pub stands-first : read.layers ≡ 0 → Standing step (grown read t)
  stands-first e =
      let z = s.empty e in
      let first-is : cond (eqb read.layers 0) t read.first ≡ t = simp (eq-eqb read.layers 0 e) in
      record { steps = s.steps; low = omega arith; few = omega arith; thin = omega (arith, first-is); empty = λ n. absurd (omega arith) }

  pub stands-more : (read.layers ≡ 0 → ⊥) → (N : ℕ) → N ≤ 512 → read.rise + 1 < N + read.first → Standing step (grown read t)
  stands-more n N low h =
      let first-is : cond (eqb read.layers 0) t read.first ≡ read.first = simp (ne_eqb read.layers 0 n) in
      record { steps = s.steps; low = omega (arith, s.thin); few = omega (arith, s.few); thin = omega (arith, first-is, s.thin); empty = λ n. absurd (omega arith) }
