-- The groups' own least errors and the plate's. The plate's chosen sequence is admissible for every group, since a group's errors are no
-- more than the plate's, and its error is the sum of its errors for the groups; each of those is at least that group's own least. So the
-- sums are equal exactly where every one of them is that least. Nothing else is used of a plan than that there is a chosen sequence
-- where there is an admissible one. Assumes nothing.
use Prim.Native.Nat.{ℕ, zero, suc, ◌+◌, ◌≤◌}
use mathlib.Core.Path.{◌≡◌, refl, sym, ap₂, ◌∙◌}
use mathlib.Core.List.{List, [], ◌∷◌}
use native.Mathlib.Omega.{arith}
use lib.IntN.{ℤ}
use Rattle.paper.specs.Layer.{Plate}
use Rattle.paper.specs.Sequence.{count, Admissible, error_under, error, Chosen}
use Rattle.paper.specs.Groups.{part, sum_of, Divided, Least, LeastError, LeastErrors, total, LeastForEach, Shared, AddUp}
use Rattle.meaning.proofs.Choice.{found_some}
use Rattle.meaning.proofs.Usable.{smaller-admissible, same-admissible, same-error}

-- there is a least error where there is an admissible sequence, and only one
pub least-error : (p : Plate) (bound n : ℕ) (zs : List ℤ) → Admissible p bound zs → count zs ≡ n
    → (e : ℕ) × LeastError p bound n e × (e ≤ error p zs)
least-error p bound n zs a c =
    let x = found_some p bound n (let l = a.layered in omega arith) zs a c in
    let k = x.1 in
    (error p x.0, record { one = x.0; least = record { admissible = k.admissible; counts = k.counts; least = k.least }; its = refl }, k.least zs a c)

pub least-error-only : (p : Plate) (bound n e : ℕ) (zs : List ℤ) → LeastError p bound n e → Least p bound n zs → error p zs ≡ e
least-error-only p bound n e zs l m =
    omega (arith, l.its, l.least.least zs m.admissible m.counts, m.least l.one l.least.admissible l.least.counts)

module _ (p : Plate) (bound : ℕ) where
  error-none : (zs : List ℤ) (k : ℕ) → error_under (part p (sum_of [])) zs k ≡ 0
  error-none zs zero = refl
  error-none zs (suc k) = let e = error-none zs k in omega arith

  error-adds : (g : ℤ → ℕ → ℕ) (gs : List (ℤ → ℕ → ℕ)) (zs : List ℤ) (k : ℕ)
      → error_under (part p (sum_of (g ∷ gs))) zs k ≡ error_under (part p g) zs k + error_under (part p (sum_of gs)) zs k
  error-adds g gs zs zero = refl
  error-adds g gs zs (suc k) = let e = error-adds g gs zs k in omega arith

  -- a sequence admissible for all the groups together
  record Sums (n : ℕ) (groups : List (ℤ → ℕ → ℕ)) (zs : List ℤ) : Type 0 where
    own : List ℕ
    own-are : LeastErrors p bound n groups own
    no_more : total own ≤ error (part p (sum_of groups)) zs
    same : total own ≡ error (part p (sum_of groups)) zs → LeastForEach p bound n zs groups

  sums : (n : ℕ) (groups : List (ℤ → ℕ → ℕ)) (zs : List ℤ) → Admissible (part p (sum_of groups)) bound zs → count zs ≡ n → Sums n groups zs
  sums n [] zs a c = record { own = []; own-are = tt; no_more = omega arith; same = λ q. tt }
  sums n (g ∷ gs) zs a c = go (sums n gs zs (smaller-admissible (part p (sum_of (g ∷ gs))) (sum_of gs) (λ z t u. omega arith) bound zs a) c)
    where
      b : Admissible (part p g) bound zs
      b = smaller-admissible (part p (sum_of (g ∷ gs))) g (λ z t u. omega arith) bound zs a

      x : (e : ℕ) × LeastError (part p g) bound n e × (e ≤ error (part p g) zs)
      x = least-error (part p g) bound n zs b c

      m : error (part p (sum_of (g ∷ gs))) zs ≡ error (part p g) zs + error (part p (sum_of gs)) zs
      m = error-adds g gs zs (count zs)

      is-least : x.0 ≡ error (part p g) zs → Least (part p g) bound n zs
      is-least e = record { admissible = b; counts = c; least = λ ys k l. omega (arith, e, x.1.its, x.1.least.least ys k l) }

      go : Sums n gs zs → Sums n (g ∷ gs) zs
      go s = record {
        own = x.0 ∷ s.own;
        own-are = (x.1, s.own-are);
        no_more = omega (arith, x.2, s.no_more, m);
        same = λ q. (is-least (omega (arith, x.2, s.no_more, m, q)), s.same (omega (arith, x.2, s.no_more, m, q)));
      }

  each-sums : (n : ℕ) (groups : List (ℤ → ℕ → ℕ)) (own : List ℕ) (zs : List ℤ) → LeastErrors p bound n groups own → LeastForEach p bound n zs groups
      → total own ≡ error (part p (sum_of groups)) zs
  each-sums n [] [] zs o e = sym (error-none zs (count zs))
  each-sums n [] (x ∷ own) zs o e = absurd o
  each-sums n (g ∷ gs) [] zs o e = absurd o
  each-sums n (g ∷ gs) (x ∷ own) zs o e =
      ap₂ ◌+◌ (sym (least-error-only (part p g) bound n x zs o.0 e.0)) (each-sums n gs own zs o.1 e.1) ∙ sym (error-adds g gs zs (count zs))

-- 'the groups' own least errors add up to no more than the plate's, and to exactly as much if and only if one sequence admissible for
-- the plate is least for every group': for a count that the plate can be built in, under one bound
pub adds-up : (p : Plate) (groups : List (ℤ → ℕ → ℕ)) (bound : ℕ) (zs : List ℤ) → Divided p groups → Admissible p bound zs
    → AddUp p bound (count zs) groups
adds-up p groups bound zs d a = record {
  own = s.own;
  own-are = s.own-are;
  whole = error p k.0;
  whole_is = record { one = k.0; least = record { admissible = k.1.admissible; counts = k.1.counts; least = k.1.least }; its = refl };
  no_more = omega (arith, s.no_more, same k.0 k.1.admissible);
  exactly = (to, from);
}
  where
    same : (ys : List ℤ) → Admissible p bound ys → error p ys ≡ error (part p (sum_of groups)) ys
    same ys b = same-error p (sum_of groups) d bound ys b

    k : (ys : List ℤ) × Chosen p bound (count zs) ys
    k = found_some p bound (count zs) a.layered zs a refl

    s : Sums p bound (count zs) groups k.0
    s = sums p bound (count zs) groups k.0 (same-admissible p (sum_of groups) d bound k.0 k.1.admissible) k.1.counts

    to : total s.own ≡ error p k.0 → Shared p bound (count zs) groups
    to q = record { one = k.0; admissible = k.1.admissible; counts = k.1.counts; each = s.same (q ∙ same k.0 k.1.admissible) }

    from : Shared p bound (count zs) groups → total s.own ≡ error p k.0
    from o =
        let e = each-sums p bound (count zs) groups s.own o.one s.own-are o.each in
        omega (
          arith,
          e,
          same o.one o.admissible,
          same k.0 k.1.admissible,
          s.no_more,
          k.1.least o.one o.admissible o.counts,
        )
