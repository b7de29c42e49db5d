-- When no check of settings or of a column holds: in range, and in order. Assumes nothing.
use mathlib.Core.Path.{◌≡◌}
use mathlib.Core.Bool.{false, cond}
use mathlib.Core.List.{List}
use mathlib.Core.Option.{none}
use Prim.Native.Nat.{ℕ, suc, ◌-◌, ◌%◌, ◌<◌}
use native.Mathlib.Omega.{arith}
use borrow.Author.Tests.{le-ltb, ne_eqb, ltb-false, leb-false, eqb-false}
use lib.Dec.{ltb, leb, eqb}
use lib.ListN.{length, get_or}
use Rattle.lists.specs.Checks.{first}
use Rattle.lists.specs.Search.{lowest}
use Rattle.lists.proofs.Checks.{first-none, or-false}
use Rattle.lists.proofs.Search.{lowest-none, lowest-before}
use Rattle.paper.specs.Layer as paper
use Rattle.paper.specs.Limits.{most_boundaries, least_height, greatest_height, sets}
use Rattle.paper.specs.Layer.{Column, IsColumn, column_of}
use Rattle.paper.proofs.Thicknesses.{empty-is-zero}
use Rattle.plate.specs.Settings.{settings_checks}
use Rattle.plate.proofs.Sizes.{some-member}
use Rattle.column.specs.Order.{misplaced, first_misplaced, column_checks}
use Rattle.column.proofs.Order.{none-misplaced}

pub settings-fine : (N T : ℕ) → paper.Settings N T → first (settings_checks N T) ≡ none
unfolding settings_checks
settings-fine N T s =
    let l = s.least-height in
    let g = s.greatest-height in
    let n : T ≡ 0 → ⊥ = (λ e. let z = (empty-is-zero T s.bits).1 e in omega (arith, s.some-thickness)) in
    simp (le-ltb N least_height l, le-ltb greatest_height N g, ne_eqb T 0 n)

pub column-fine : (N : ℕ) (column : Column) → IsColumn N column → first (column_checks N column.boundaries) ≡ none
unfolding column_checks first_misplaced
column-fine N column c =
    let bs = column.boundaries in
    let e = lowest-none (misplaced N bs) (length bs) (none-misplaced bs N c.within c.rising) in
    let o : length bs % 2 ≡ 1 → ⊥ = (λ q. omega (arith, c.even)) in
    simp (ne_eqb (length bs % 2) 1 o, le-ltb most_boundaries (length bs) c.few, e, le-ltb (length bs) (length bs) (omega arith))

-- ---- and the other way: what passes is in order

pub settings-passed : (N T : ℕ) → T < sets → first (settings_checks N T) ≡ none → paper.Settings N T
unfolding settings_checks
settings-passed N T bits e =
    let q = (first-none (settings_checks N T)).0 e in
    let h = or-false (ltb N least_height) (ltb greatest_height N) q.0 in
    record {
      least-height = ltb-false N least_height h.0;
      greatest-height = ltb-false greatest_height N h.1;
      bits = bits;
      some-thickness = some-member T bits (eqb-false T 0 q.1.0);
    }

placed : (N : ℕ) (bs : List ℕ) → ltb (first_misplaced N bs) (length bs) ≡ false → (k : ℕ) → k < length bs → misplaced N bs k ≡ false
unfolding first_misplaced
placed N bs e k l = lowest-before (misplaced N bs) (length bs) k (let u = ltb-false (lowest (misplaced N bs) (length bs)) (length bs) e in omega arith)

pub column-passed : (N : ℕ) (bs : List ℕ) → first (column_checks N bs) ≡ none → IsColumn N (column_of bs)
unfolding column_checks misplaced
column-passed N bs e =
    let q = (first-none (column_checks N bs)).0 e in
    let c = or-false (eqb (length bs % 2) 1) (ltb most_boundaries (length bs)) q.0 in
    record {
      few = ltb-false most_boundaries (length bs) c.1;
      even = let o = eqb-false (length bs % 2) 1 c.0 in omega arith;
      rising = λ k l.
          let i : suc k - 1 ≡ k = omega arith in
          let n : suc k ≡ 0 → ⊥ = (λ z. omega arith) in
          let r = or-false (ltb N (get_or bs (suc k) 0)) (cond (eqb (suc k) 0) false (leb (get_or bs (suc k) 0) (get_or bs (suc k - 1) 0))) (placed N bs q.1.0 (suc k) l) in
          leb-false (get_or bs (suc k) 0) (get_or bs k 0) (simp (ne_eqb (suc k) 0 n, i) at r.1);
      within = λ k l. ltb-false N (get_or bs k 0) (or-false (ltb N (get_or bs k 0)) (cond (eqb k 0) false (leb (get_or bs k 0) (get_or bs (k - 1) 0))) (placed N bs q.1.0 k l)).0;
    }
