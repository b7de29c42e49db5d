-- A plan looks only at layers that a sequence can have. Two plates of the same settings whose errors agree on those layers have the same
-- admissible sequences with the same errors, and so the same choice. Assumes nothing.
use Prim.Native.Nat.{ℕ, ◌≤◌, ◌<◌}
use mathlib.Core.Path.{◌≡◌, sym, ◌∙◌}
use mathlib.Core.List.{List}
use native.Mathlib.Omega.{arith}
use lib.IntN.{ℤ}
use Rattle.paper.specs.Layer.{Plate}
use Rattle.paper.specs.Sequence.{◌!◌, count, thickness, Admissible, error, Chosen, None}
use Rattle.paper.specs.Groups.{Usable, part}
use Rattle.paper.proofs.Stacks.{admissible-again, errors-again}
use Rattle.meaning.specs.Working.{Agree}
use Rattle.meaning.proofs.Stacks.{layers-usable}

-- the layers of an admissible sequence are usable
pub sequence-usable : (p : Plate) (bound : ℕ) (zs : List ℤ) → Admissible p bound zs → (k : ℕ) → k < count zs → Usable p.N p.T (zs ! k) (thickness zs k)
sequence-usable p bound zs a k l = layers-usable p bound zs (count zs) a.stack k l

-- what is admissible for a plate is so for another of the same height and thicknesses whose errors are no more
pub smaller-admissible : (p : Plate) (other : ℤ → ℕ → ℕ) → ((z : ℤ) (t : ℕ) → Usable p.N p.T z t → other z t ≤ p.layer_error z t)
    → (bound : ℕ) (zs : List ℤ) → Admissible p bound zs → Admissible (part p other) bound zs
smaller-admissible p other smaller bound zs a =
    admissible-again p other bound bound zs a
    (λ k l. omega (arith, (a.stack.layers k l).within, smaller (zs ! k) (thickness zs k) (sequence-usable p bound zs a k l)))

-- and one whose errors agree has the same admissible sequences, with the same errors
module _ (p : Plate) (other : ℤ → ℕ → ℕ) (agree : Agree p other) where
  pub same-admissible : (bound : ℕ) (zs : List ℤ) → Admissible p bound zs → Admissible (part p other) bound zs
  same-admissible bound zs a = smaller-admissible p other (λ z t u. omega (arith, agree z t u)) bound zs a

  pub same-error : (bound : ℕ) (zs : List ℤ) → Admissible p bound zs → error p zs ≡ error (part p other) zs
  same-error bound zs a = errors-again p other zs (count zs) (λ k l. agree (zs ! k) (thickness zs k) (sequence-usable p bound zs a k l))

  pub agree-back : Agree (part p other) p.layer_error
  agree-back z t u = sym (agree z t u)

-- so the two have the same choice
module _ (p : Plate) (other : ℤ → ℕ → ℕ) (agree : Agree p other) (bound n : ℕ) where
  back : (zs : List ℤ) → Admissible (part p other) bound zs → Admissible p bound zs
  back zs a = same-admissible (part p other) p.layer_error (agree-back p other agree) bound zs a

  pub same_chosen : (zs : List ℤ) → Chosen p bound n zs → Chosen (part p other) bound n zs
  same_chosen zs c = record {
    admissible = same-admissible p other agree bound zs c.admissible;
    counts = c.counts;
    least = λ ys a l. omega (arith, its, same-error p other agree bound ys (back ys a), c.least ys (back ys a) l);
    first = λ ys a l q. c.first ys (back ys a) l (same-error p other agree bound ys (back ys a) ∙ q ∙ sym its);
  }
    where
      its : error p zs ≡ error (part p other) zs
      its = same-error p other agree bound zs c.admissible

  pub same_none : None p bound n → None (part p other) bound n
  same_none f zs a l = f zs (back zs a) l
