-- The records' bytes as document 02 e) lays them out: a body length and a kind, two bytes each and little-endian, then the body. How a height, a
-- time and a number become bytes is left out: they are functions of the units, the 64ths and the count. With this layout the bytes tell the record
-- that comes next, if only the heights' bytes do: of cure times and counts just one is due at a time. Assumes nothing.
use Prim.Native.Nat.{ℕ, suc, ◌+◌, ◌-◌, ◌*◌, ◌≤◌}
use mathlib.Core.Path.{◌≡◌, ap}
use mathlib.Core.Bool.{◌&&◌}
use mathlib.Core.Option.{some}
use mathlib.Core.List.{List, ◌∷◌, ◌++◌}
use native.Mathlib.Omega.{arith}
use lib.Dec.{leb, eqb}
use borrow.Author.Tests.{eqb-true}
use Rattle.paper.specs.Layer.{tmax}
use Rattle.paper.proofs.Thicknesses.{and-true}
use Rattle.printed.specs.Possible.{cure_of, usable}
use Rattle.printed.specs.Tests.{may_lift}
use Rattle.printed.specs.Records.{Record, lift, cure, finish, State, fresh, lifted, layered, whole, step}
use Rattle.printed.specs.Bytes.{Distinct}
use Rattle.printed.proofs.Records.{none-some, provided-some}
use Rattle.printed.proofs.Reach.{Within, step-within, reached-within}

abbrev pub layout : (ℕ → List ℕ) → (ℕ → List ℕ) → (ℕ → List ℕ) → Record → List ℕ
layout height seconds number (lift x) = 4 ∷ 0 ∷ 48 ∷ 0 ∷ height x
layout height seconds number (cure c) = 4 ∷ 0 ∷ 49 ∷ 0 ∷ seconds c
layout height seconds number (finish n) = 2 ∷ 0 ∷ 50 ∷ 0 ∷ number n

-- up to the greatest height that a file can have, no two heights begin the same bytes
abbrev pub HeightsDiffer : ℕ → (ℕ → List ℕ) → Type 0
HeightsDiffer most height = (x y : ℕ) → x ≤ most → y ≤ most → (a b : List ℕ) → height x ++ a ≡ height y ++ b → x ≡ y

module _ (N T : ℕ) (cures : List ℕ) (some-height : 1 ≤ N) where
  -- a lift that passes is to no greater height than any file has
  low : (s : State) (x : ℕ) (o : State) → Within N T cures some-height s → step N T cures s (lift x) ≡ some o → x ≤ N + 2 * tmax T - 2
  unfolding step
  low s x o w e = at s (step-within N T cures some-height s (lift x) o w e) e
    where
      at : (s : State) → Within N T cures some-height o → step N T cures s (lift x) ≡ some o → x ≤ N + 2 * tmax T - 2
      at fresh v e =
          let u = provided-some (usable T cures x) (lifted 1 x x x) o e in
          let b : Within N T cures some-height (lifted 1 x x x) = rw (← u.1) at v in
          omega (arith, b.0.height)
      at (lifted k first h t) v e = absurd (none-some e)
      at (layered k first h) v e =
          let u = provided-some (may_lift N T cures first h (x - h)) (lifted (suc k) first x (x - h)) o e in
          let b : Within N T cures some-height (lifted (suc k) first x (x - h)) = rw (← u.1) at v in
          omega (arith, b.0.height)
      at whole v e = absurd (none-some e)

  -- the one cure time and the one count that are due
  the-cure : (k first h t c : ℕ) (o : State) → step N T cures (lifted k first h t) (cure c) ≡ some o → c ≡ cure_of cures t
  unfolding step
  the-cure k first h t c o e = eqb-true c (cure_of cures t) (provided-some (eqb c (cure_of cures t)) (layered k first h) o e).0

  the-count : (k first h n : ℕ) (o : State) → step N T cures (layered k first h) (finish n) ≡ some o → n ≡ k
  unfolding step
  the-count k first h n o e = eqb-true n k (and-true (eqb n k) (leb N h) (provided-some (eqb n k && leb N h) whole o e).0).0

  module _ (height seconds number : ℕ → List ℕ) (differ : HeightsDiffer (N + 2 * tmax T - 2) height) where
    abbrev code : Record → List ℕ
    code = layout height seconds number

    lifts-same : (s : State) (x y : ℕ) (o o' : State) → Within N T cures some-height s → step N T cures s (lift x) ≡ some o
        → step N T cures s (lift y) ≡ some o' → (a b : List ℕ) → code (lift x) ++ a ≡ code (lift y) ++ b → lift x ≡ lift y
    lifts-same s x y o o' w e f a b g = ap lift (differ x y (low s x o w e) (low s y o' w f) a b (cc))

    one : (s : State) (r r' : Record) (o o' : State) → Within N T cures some-height s → step N T cures s r ≡ some o
        → step N T cures s r' ≡ some o' → (a b : List ℕ) → code r ++ a ≡ code r' ++ b → r ≡ r'
    unfolding step
    one fresh (lift x) (lift y) o o' w e f a b g = lifts-same fresh x y o o' w e f a b g
    one fresh (lift x) (cure d) o o' w e f a b g = absurd (none-some f)
    one fresh (lift x) (finish m) o o' w e f a b g = absurd (none-some f)
    one fresh (cure c) r' o o' w e f a b g = absurd (none-some e)
    one fresh (finish n) r' o o' w e f a b g = absurd (none-some e)
    one (lifted k first h t) (lift x) r' o o' w e f a b g = absurd (none-some e)
    one (lifted k first h t) (cure c) (lift y) o o' w e f a b g = absurd (none-some f)
    one (lifted k first h t) (cure c) (cure d) o o' w e f a b g = cc (the-cure k first h t c o e, the-cure k first h t d o' f)
    one (lifted k first h t) (cure c) (finish m) o o' w e f a b g = absurd (none-some f)
    one (lifted k first h t) (finish n) r' o o' w e f a b g = absurd (none-some e)
    one (layered k first h) (lift x) (lift y) o o' w e f a b g = lifts-same (layered k first h) x y o o' w e f a b g
    one (layered k first h) (lift x) (cure d) o o' w e f a b g = absurd (none-some f)
    one (layered k first h) (lift x) (finish m) o o' w e f a b g = absurd (let z : ◌≡◌ {A = ℕ} 4 2 = cc in omega arith)
    one (layered k first h) (cure c) r' o o' w e f a b g = absurd (none-some e)
    one (layered k first h) (finish n) (lift y) o o' w e f a b g = absurd (let z : ◌≡◌ {A = ℕ} 2 4 = cc in omega arith)
    one (layered k first h) (finish n) (cure d) o o' w e f a b g = absurd (none-some f)
    one (layered k first h) (finish n) (finish m) o o' w e f a b g = cc (the-count k first h n o e, the-count k first h m o' f)
    one whole r r' o o' w e f a b g = absurd (none-some e)

    pub layout-distinct : Distinct N T cures (layout height seconds number)
    layout-distinct = record { only = λ rs s d r r' o o' e f x y g. one s r r' o o' (reached-within N T cures some-height rs s d) e f x y g }
