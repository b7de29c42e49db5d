-- Document 02 e)'s orders, 'lift to a height, cure for a time, or finish after a number of layers', as records: the file of some layers, and
-- reading one record after the other, each tested by what was read before it. Assumes nothing.
use Rattle.std.specs.Prelude.{ℕ, suc, ◌+◌, ◌-◌, ◌≡◌, Bool, cond, ◌&&◌, List, [], ◌∷◌, ◌++◌, eqb}
use Rattle.std.proofs.Math.Option.{Option, none, some}
use Rattle.printed.specs.Possible.{cure_of, Possible}
use Rattle.printed.specs.Tests.{may_begin, may_lift, may_finish}

-- lift to a height above the first boundary (in units), cure for a time (in 64ths), finish after a number of layers
pub data Record : Type 0 where
  lift : ℕ → Record
  cure : ℕ → Record
  finish : ℕ → Record

-- the file of the layers ts, over k layers of height h
unfoldable pub orders_over : List ℕ → ℕ → ℕ → List ℕ → List Record
orders_over cures k h [] = finish k ∷ []
orders_over cures k h (t ∷ ts) = lift (h + t) ∷ cure (cure_of cures t) ∷ orders_over cures (suc k) (h + t) ts

unfoldable pub orders : List ℕ → List ℕ → List Record
orders cures ts = orders_over cures 0 0 ts

-- what the reader knows after some records: nothing yet; k layers of height h, the first as thick as `first`, the last lacking its cure time
-- or not; or all
pub data State : Type 0 where
  fresh : State
  lifted : ℕ → ℕ → ℕ → ℕ → State
  layered : ℕ → ℕ → ℕ → State
  whole : State

-- the test, and what is known then
abbrev pub provided : Bool → State → Option State
provided passed s = cond passed (some s) none

unfoldable pub step : ℕ → ℕ → List ℕ → State → Record → Option State
step N T cures fresh (lift x) = provided (may_begin T cures x) (lifted 1 x x x)
step N T cures fresh (cure c) = none
step N T cures fresh (finish n) = none
step N T cures (lifted k first h t) (lift x) = none
step N T cures (lifted k first h t) (cure c) = provided (eqb c (cure_of cures t)) (layered k first h)
step N T cures (lifted k first h t) (finish n) = none
step N T cures (layered k first h) (lift x) = provided (may_lift N T cures first h (x - h)) (lifted (suc k) first x (x - h))
step N T cures (layered k first h) (cure c) = none
step N T cures (layered k first h) (finish n) = provided (eqb n k && may_finish N h) whole
step N T cures whole r = none

-- reading records one after the other
abbrev pub and_then : Option State → (State → Option State) → Option State
and_then none rest = none
and_then (some s) rest = rest s

unfoldable pub read_from : ℕ → ℕ → List ℕ → State → List Record → Option State
read_from N T cures s [] = some s
read_from N T cures s (r ∷ rs) = and_then (step N T cures s r) (λ s'. read_from N T cures s' rs)

-- every record passes its test
pub record Passes (N T : ℕ) (cures : List ℕ) (rs : List Record) : Type 0 where
  pub state : State
  pub reads : read_from N T cures fresh rs ≡ some state

-- rs is a file of the writer
pub record Written (N T : ℕ) (cures : List ℕ) (rs : List Record) : Type 0 where
  pub layers : List ℕ
  pub possible : Possible N T cures layers
  pub same : orders cures layers ≡ rs

-- such a file begins with rs
pub record Begins (N T : ℕ) (cures : List ℕ) (rs : List Record) : Type 0 where
  pub more : List Record
  pub written : Written N T cures (rs ++ more)
