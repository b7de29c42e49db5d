-- Two plates of the same settings whose errors agree on the layers that a sequence can have: they have the same entries of the sheets, and the
-- same least errors. The layers counted in an entry are ones that a sequence can have; on the two plates they are the same, with the same errors,
-- and so are the chosen ones. Assumes nothing.
use Prim.Native.Nat.{ℕ, ◌<◌}
use mathlib.Core.Path.{◌≡◌, sym, ◌∙◌}
use mathlib.Core.List.{List}
use native.Mathlib.Omega.{arith}
use lib.IntN.{ℤ}
use Rattle.paper.specs.Layer.{Plate}
use Rattle.paper.specs.Sequence.{◌!◌, thickness, error_at, error_under, error}
use Rattle.paper.specs.Sheets.{Ending, ChosenAt, Entries}
use Rattle.paper.specs.Groups.{part, LeastError}
use Rattle.paper.proofs.Stacks.{stack-again, errors-again}
use Rattle.meaning.specs.Working.{Agree}
use Rattle.meaning.proofs.Stacks.{layers-usable}
use Rattle.meaning.proofs.Usable.{same-admissible, same-error, agree-back}

-- one way
module _ (p : Plate) (other : ℤ → ℕ → ℕ) (agree : Agree p other) (bound m : ℕ) (z : ℤ) (zs : List ℤ)
    (a : Ending p bound m z zs) where
  same-layer : (k : ℕ) → k < m → error_at p zs k ≡ error_at (part p other) zs k
  same-layer k l = agree (zs ! k) (thickness zs k) (layers-usable p bound zs m a.stack k l)

  same-ending : Ending (part p other) bound m z zs
  same-ending = record {
    counts = a.counts;
    ends = a.ends;
    stack = stack-again p other bound bound zs m a.stack (λ k l. omega (arith, (a.stack.layers k l).within, same-layer k l));
  }

  same-under : error_under p zs m ≡ error_under (part p other) zs m
  same-under = errors-again p other zs m same-layer

-- and back, so the chosen ones and the entries are the same
module _ (p : Plate) (other : ℤ → ℕ → ℕ) (agree : Agree p other) (bound m : ℕ) (z : ℤ) where
  ending-back : (zs : List ℤ) → Ending (part p other) bound m z zs → Ending p bound m z zs
  ending-back zs a = same-ending (part p other) p.layer_error (agree-back p other agree) bound m z zs a

  under_back : (zs : List ℤ) → Ending (part p other) bound m z zs → error_under p zs m ≡ error_under (part p other) zs m
  under_back zs a = same-under p other agree bound m z zs (ending-back zs a)

  pub same-chosen-at : (zs : List ℤ) → ChosenAt p bound m z zs → ChosenAt (part p other) bound m z zs
  same-chosen-at zs c = record {
    ending = same-ending p other agree bound m z zs c.ending;
    least = λ ys a. omega (arith, its, under_back ys a, c.least ys (ending-back ys a));
    first = λ ys a q. c.first ys (ending-back ys a) (under_back ys a ∙ q ∙ sym its);
  }
    where
      its : error_under p zs m ≡ error_under (part p other) zs m
      its = same-under p other agree bound m z zs c.ending

pub same_entries : (p : Plate) (other : ℤ → ℕ → ℕ) → Agree p other → (bound m : ℕ) (z : ℤ) (e t : ℕ)
    → Entries p bound m z e t → Entries (part p other) bound m z e t
same_entries p other agree bound m z e t n = record {
  chosen = λ zs c.
      let b = same-chosen-at (part p other) p.layer_error (agree-back p other agree) bound m z zs c in
      let x = n.chosen zs b in
      (x.0 ∙ under_back p other agree bound m z zs c.ending, x.1);
  none = λ f. n.none (λ zs a. f zs (same-ending p other agree bound m z zs a));
}

-- the least error of a count is the same
pub same-least-error : (p : Plate) (other : ℤ → ℕ → ℕ) → Agree p other → (bound n e : ℕ) → LeastError p bound n e → LeastError (part p other) bound n e
same-least-error p other agree bound n e x = record {
  one = x.one;
  least = record {
    admissible = same-admissible p other agree bound x.one x.least.admissible;
    counts = x.least.counts;
    least = λ ys a l.
        let b = same-admissible (part p other) p.layer_error (agree-back p other agree) bound ys a in
        omega (arith, its, same-error p other agree bound ys b, x.least.least ys b l);
  };
  its = sym its ∙ x.its;
}
  where
    its : error p x.one ≡ error (part p other) x.one
    its = same-error p other agree bound x.one x.least.admissible
