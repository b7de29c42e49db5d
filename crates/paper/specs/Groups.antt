-- Demand 3 on least errors, for any plates whose layers' errors add up: 'the groups' own least errors add up to no more than the
-- plate's, and to exactly as much if and only if one sequence admissible for the plate is least for every group'. Assumes nothing.
use Rattle.std.specs.Prelude.{ℕ, ◌+◌, ◌≤◌, ◌≡◌, ◌↔◌, true, List, [], ◌∷◌, ℤ, pos, ◌+ℤ◌, ◌<ℤ◌}
use Rattle.paper.specs.Layer.{Plate, allowed}
use Rattle.paper.specs.Sequence.{count, Admissible, error}

-- a layer that a sequence can have, from z and of thickness t: it ends above 0 and starts below N, so that it holds some of the plate's heights
pub record Usable (N T : ℕ) (z : ℤ) (t : ℕ) : Type 0 where
  pub member : allowed T t ≡ true
  pub ends_above : pos 0 <ℤ (z +ℤ pos t)
  pub starts-below : z <ℤ pos N

-- a group is given by its layers' errors; as a plate it has the height and the thicknesses of the whole
abbrev pub part : Plate → (ℤ → ℕ → ℕ) → Plate
part p group = record { N = p.N; T = p.T; layer_error = group }

abbrev pub sum_of : List (ℤ → ℕ → ℕ) → ℤ → ℕ → ℕ
sum_of [] z t = 0
sum_of (g ∷ gs) z t = g z t + sum_of gs z t

-- the plate is divided into the groups: each layer's error is the sum of the groups'
abbrev pub Divided : Plate → List (ℤ → ℕ → ℕ) → Type 0
Divided p groups = (z : ℤ) (t : ℕ) → Usable p.N p.T z t → p.layer_error z t ≡ sum_of groups z t

-- a sequence of n layers that is least for a plate
pub record Least (p : Plate) (bound n : ℕ) (zs : List ℤ) : Type 0 where
  pub admissible : Admissible p bound zs
  pub counts : count zs ≡ n
  pub least : (ys : List ℤ) → Admissible p bound ys → count ys ≡ n → error p zs ≤ error p ys

-- the least error of n layers
pub record LeastError (p : Plate) (bound n e : ℕ) : Type 0 where
  pub one : List ℤ
  pub least : Least p bound n one
  pub its : error p one ≡ e

-- the groups' own, one for each
abbrev pub LeastErrors : Plate → ℕ → ℕ → List (ℤ → ℕ → ℕ) → List ℕ → Type 0
LeastErrors p bound n [] [] = Unit {0}
LeastErrors p bound n [] (e ∷ es) = ⊥
LeastErrors p bound n (g ∷ gs) [] = ⊥
LeastErrors p bound n (g ∷ gs) (e ∷ es) = LeastError (part p g) bound n e × LeastErrors p bound n gs es

abbrev pub total : List ℕ → ℕ
total [] = 0
total (e ∷ es) = e + total es

abbrev pub LeastForEach : Plate → ℕ → ℕ → List ℤ → List (ℤ → ℕ → ℕ) → Type 0
LeastForEach p bound n zs [] = Unit {0}
LeastForEach p bound n zs (g ∷ gs) = Least (part p g) bound n zs × LeastForEach p bound n zs gs

-- one sequence admissible for the plate is least for every group
pub record Shared (p : Plate) (bound n : ℕ) (groups : List (ℤ → ℕ → ℕ)) : Type 0 where
  pub one : List ℤ
  pub admissible : Admissible p bound one
  pub counts : count one ≡ n
  pub each : LeastForEach p bound n one groups

-- the sentence
pub record AddUp (p : Plate) (bound n : ℕ) (groups : List (ℤ → ℕ → ℕ)) : Type 0 where
  pub own : List ℕ
  pub own-are : LeastErrors p bound n groups own
  pub whole : ℕ
  pub whole_is : LeastError p bound n whole
  pub no_more : total own ≤ whole
  pub exactly : (total own ≡ whole) ↔ Shared p bound n groups
