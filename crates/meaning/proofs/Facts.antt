-- The facts of document 01's plate hold: cells and pictures by computing them, plans by computing what is found, which is what document
-- 01 names or none, and the motor height as crate `motor` has it. Assumes nothing.
use Prim.Native.Nat.{ℕ, zero, suc}
use mathlib.Core.Path.{◌≡◌, refl}
use mathlib.Core.Option.{none, some}
use mathlib.Core.List.{List, [], ◌∷◌}
use native.Mathlib.Omega.{arith}
use lib.IntN.{ℤ}
use Rattle.lists.specs.Best.{best_of}
use Rattle.paper.specs.Layer.{Column, column_of, allowed, least_above, tmin, greatest_to, tmax, inside_count}
use Rattle.paper.specs.Table.{rows, cells, start_at, thickness_at, cell_of}
use Rattle.paper.specs.Sequence.{error, M}
use Rattle.paper.specs.Facts as fact
use Rattle.paper.specs.Facts.{A, B, both, free, plate, Holds, All, facts}
use Rattle.paper.proofs.Differences.{difference-empty}
use Rattle.sequence.specs.Rules.{shape}
use Rattle.sequence.specs.Sequence.{starts}
use Rattle.sequence.specs.Least.{best_to, least, last, walk, top, chosen}
use Rattle.motor.proofs.Heights.{p13}
use Rattle.meaning.specs.Working.{found}
use Rattle.meaning.proofs.Choice.{found-exact, found_none}

nothing-inside : (z : ℤ) (t : ℕ) → inside_count [] z t ≡ 0
nothing-inside z zero = refl
nothing-inside z (suc t) = let e = nothing-inside z t in omega arith

no-share : Holds fact.empty
no-share z t = let e = nothing-inside z t in (omega arith, difference-empty [] z t e)

-- what computes is the chosen one, with its error; or there is none
is : (columns : List Column) (bound n e : ℕ) (zs : List ℤ) → found (plate columns) bound (suc n) ≡ some zs → error (plate columns) zs ≡ e
    → Holds (fact.plan columns bound (suc n) e zs)
is columns bound n e zs q r = ((found-exact (plate columns) bound (suc n) (omega arith) zs).1 q, r)

isn't : (columns : List Column) (bound n : ℕ) → found (plate columns) bound (suc n) ≡ none → Holds (fact.none columns bound (suc n))
isn't columns bound n q = (found_none (plate columns) bound (suc n) (omega arith)).0 q

infixr 5 ◌and◌
◌and◌ : {X Y : Type 0} → X → Y → X × Y
x and y = (x, y)

-- 'Marked P are to be proved as facts about the definitions, gathered into a single list that one theorem covers'
pub facts-hold : All facts
unfolding tmax greatest_to tmin least_above allowed rows cells start_at thickness_at cell_of M chosen top walk last least best_to best_of starts shape
facts-hold =
    -- P1 to P3
    (omega arith, refl, refl, refl)
    and (omega arith, refl, refl, refl)
    and (omega arith, refl, refl, refl)
    -- P4 to P6
    and (refl, refl, refl)
    and (refl, refl, refl)
    and no-share
    -- P7 to P9
    and is both free 1 _ _ refl refl
    and is (column_of A ∷ []) free 1 _ _ refl refl
    and is (column_of B ∷ []) free 1 _ _ refl refl
    -- P10 to P12
    and isn't both 0 1 refl
    and is both 1 1 _ _ refl refl
    and isn't both free 0 refl
    -- P13
    and p13
    -- the rest of what the plate prints
    and refl
    and is both free 2 _ _ refl refl
    and tt
