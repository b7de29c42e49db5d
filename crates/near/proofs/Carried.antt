-- The boundaries passed that are carried from voxel to voxel are those at or below the voxel, for a list that rises: the first of them that
-- is above a voxel is the next one, and no two are the same. Assumes nothing.
use mathlib.Core.Path.{◌≡◌, refl}
use mathlib.Core.List.{List, [], ◌∷◌}
use Prim.Native.Nat.{ℕ, zero, suc, ◌+◌, ◌≤◌, ◌<◌}
use native.Mathlib.Numerals.{add-one}
use native.Mathlib.Omega.{arith}
use native.Mathlib.Decide.{dec_lt, ℕ_discrete}
use borrow.Author.Tests.{lt-ltb, le-ltb, eq-eqb, ne_eqb}
use lib.ListN.{length, get_or}
use Rattle.lists.specs.Rewrite.{Span}
use Rattle.lists.proofs.Spans.{front-inside}
use Rattle.column.specs.Inside.{passed}
use Rattle.column.proofs.Between.{Rising}
use Rattle.column.proofs.Inside.{reached-yes, reached-no}
use Rattle.near.specs.Carried.{stepped, carried, state_at, States}

pub rising-to : (bs : List ℕ) → Rising bs → (i j : ℕ) → i ≤ j → j < length bs → get_or bs i 0 ≤ get_or bs j 0
rising-to bs r i zero l u = let e : i ≡ 0 = omega arith in rw e (omega arith)
rising-to bs r i (suc j) l u = go (ℕ_discrete i (suc j)) (λ v. rising-to bs r i j v (omega arith))
  where
    go : Dec (i ≡ suc j) → (i ≤ j → get_or bs i 0 ≤ get_or bs j 0) → get_or bs i 0 ≤ get_or bs (suc j) 0
    go (yes e) f = rw e (omega arith)
    go (no n) f = omega (arith, f (omega arith), r j u)

-- as many are passed as there are at or below
pub passed_is : (bs : List ℕ) (h k : ℕ) → k ≤ length bs → ((i : ℕ) → i < k → get_or bs i 0 + 32 ≤ h)
    → ((i : ℕ) → k ≤ i → i < length bs → h < get_or bs i 0 + 32) → passed bs h ≡ k
unfolding passed
passed_is [] h k l f g = omega arith
passed_is (b ∷ bs) h zero l f g =
    omega (arith, (reached-no b h (g 0 (omega arith) (omega arith))).0, passed_is bs h 0 (omega arith) (λ i u. absurd (omega arith)) (λ i u v. g (suc i) (omega arith) (omega arith)))
passed_is (b ∷ bs) h (suc k) l f g =
    omega (arith, (reached-yes b h (f 0 (omega arith))).0, passed_is bs h k (omega arith) (λ i u. f (suc i) (omega arith)) (λ i u v. g (suc i) (omega arith) (omega arith)))

-- at a voxel where the next boundary stands, and at one where it does not
pub stepped-on : (bs : List ℕ) (q v : ℕ) → q < length bs → get_or bs q 0 ≡ v → stepped bs q v ≡ suc q
unfolding stepped
stepped-on bs q v l e = simp (lt-ltb q (length bs) l, eq-eqb (get_or bs q 0) v e)

pub stepped_by : (bs : List ℕ) (q v : ℕ) → q < length bs → (get_or bs q 0 ≡ v → ⊥) → stepped bs q v ≡ q
unfolding stepped
stepped_by bs q v l e = simp (lt-ltb q (length bs) l, ne_eqb (get_or bs q 0) v e)

pub stepped-end : (bs : List ℕ) (q v : ℕ) → length bs ≤ q → stepped bs q v ≡ q
unfolding stepped
stepped-end bs q v l = simp (le-ltb q (length bs) l)

-- the first q boundaries are at or below the voxel v and the others above it
record Passing (bs : List ℕ) (q v : ℕ) : Type 0 where
  few : q ≤ length bs
  under : (i : ℕ) → i < q → get_or bs i 0 ≤ v
  over : (i : ℕ) → q ≤ i → i < length bs → v < get_or bs i 0

module _ (bs : List ℕ) (r : Rising bs) where
  -- the voxel above: from q boundaries below the voxel v, the others at it or above
  passing-on : (q v : ℕ) → q ≤ length bs → ((i : ℕ) → i < q → get_or bs i 0 ≤ v) → ((i : ℕ) → q ≤ i → i < length bs → v ≤ get_or bs i 0) → Passing bs (stepped bs q v) v
  passing-on q v few under over = go (dec_lt q (length bs)) (ℕ_discrete (get_or bs q 0) v)
    where
      go : Dec (q < length bs) → Dec (get_or bs q 0 ≡ v) → Passing bs (stepped bs q v) v
      go (yes l) (yes e) = rw (stepped-on bs q v l e) (record {
        few = l;
        under = λ i u. omega (arith, rising-to bs r i q (omega arith) l);
        over = λ i u w. omega (arith, rising-to bs r (suc q) i u w, r q (omega arith));
      })
      go (yes l) (no e) = rw (stepped_by bs q v l e) (record {
        few = few;
        under = under;
        over = λ i u w. let a = over q (omega arith) l in omega (arith, rising-to bs r q i u w);
      })
      go (no l) d = rw (stepped-end bs q v (omega arith)) (record { few = few; under = under; over = λ i u w. absurd (omega arith) })

  carried-passing : (k : ℕ) → k < length bs → (i : ℕ) → Passing bs (carried bs k (suc i)) (get_or bs k 0 + i)
  unfolding carried
  carried-passing k l zero =
      passing-on k (get_or bs k 0 + 0) (omega arith) (λ i u. omega (arith, rising-to bs r i k (omega arith) l)) (λ i u w. omega (arith, rising-to bs r k i u w))
  carried-passing k l (suc i) =
      let p = carried-passing k l i in
      passing-on (carried bs k (suc i)) (get_or bs k 0 + suc i) p.few (λ j u. omega (arith, p.under j u)) (λ j u w. omega (arith, p.over j u w))

  -- THE CARRYING LAW of the boundaries passed: those at or below the voxel i above boundary k
  pub carried-is : (k : ℕ) → k < length bs → (i : ℕ) → passed bs (get_or bs k 0 + 32 + i) ≡ carried bs k (suc i)
  carried-is k l i =
      let p = carried-passing k l i in
      passed_is bs (get_or bs k 0 + 32 + i) (carried bs k (suc i)) p.few (λ j u. omega (arith, p.under j u)) (λ j u w. omega (arith, p.over j u w))

-- none looked at, and one voxel more
pub carried_none : (bs : List ℕ) (k : ℕ) → k ≡ carried bs k 0
unfolding carried
carried_none bs k = refl

pub carried-next : (bs : List ℕ) (k i : ℕ) {passed from next : ℕ} → passed ≡ carried bs k i → from ≡ get_or bs k 0 → next ≡ stepped bs passed (from + i)
    → next ≡ carried bs k (i + 1)
unfolding carried
carried-next bs k i p f n = rw add-one (rw (p, f) at n)
