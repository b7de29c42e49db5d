-- Document 02 g), the laws of the difference. The inside count is the outside count and n more, where the difference is n, or n + 1 fewer, where it
-- is -(n + 1); together they are the layer's thickness, so that each law is arithmetic in the two counts. Assumes nothing.
use Prim.Native.Nat.{ℕ, zero, suc, ◌+◌, ◌-◌, ◌*◌, ◌≤◌, min}
use mathlib.Core.Path.{◌≡◌, refl, ap, subst, ◌∙◌}
use mathlib.Core.Logic.{◌↔◌, ◌⊎◌, inl, inr}
use mathlib.Core.Bool.{true, cond}
use mathlib.Core.List.{List}
use native.Mathlib.Decide.{dec_le}
use native.Mathlib.Omega.{arith}
use borrow.Author.Tests.{ltb-true, lt-ltb, le-ltb}
use lib.Dec.{ltb, ltb→lt, lt→ltb, le→leb}
use lib.IntN.{ℤ, pos, negsuc, neg_ℤ, nat_abs, ◌-ℤ◌, +ℤ_idl}
use lib.Signed.{◌≤ℤ◌, ◌<ℤ◌, le_z_yes, lt_z_yes}
use Rattle.paper.specs.Layer.{inside_count, outside_count, share, filled, difference}
use Rattle.paper.proofs.Pictures.{inside-most}

-- ---- over two counts

-- i less o is d
abbrev Less : ℕ → ℕ → ℤ → Type 0
Less i o (pos n) = i ≡ o + n
Less i o (negsuc n) = o ≡ i + suc n

less : (i o : ℕ) → Less i o (pos i -ℤ pos o)
less i zero = omega arith
less i (suc o) = go (dec_le (suc o) i)
  where
    go : Dec (suc o ≤ i) → Less i (suc o) (cond (ltb i (suc o)) (negsuc (suc o - suc i)) (pos (i - suc o)))
    go (yes l) = rw (le-ltb i (suc o) l) (omega arith)
    go (no l) = rw (lt-ltb i (suc o) (omega arith)) (omega arith)

-- -t has t's size
size : (t : ℕ) → nat_abs (neg_ℤ (pos t)) ≡ t
size zero = refl
size (suc t) = refl

-- what is of no greater size lies from -t to t
from-least : (t : ℕ) (d : ℤ) → nat_abs d ≤ t → neg_ℤ (pos t) ≤ℤ d
from-least zero (pos n) l = le_z_yes (le→leb 0 n (omega arith))
from-least zero (negsuc n) l = absurd (omega arith)
from-least (suc t) (pos n) l = le_z_yes tt
from-least (suc t) (negsuc n) l = le_z_yes (le→leb n t (omega arith))

to-most : (t : ℕ) (d : ℤ) → nat_abs d ≤ t → d ≤ℤ pos t
to-most t (pos n) l = le_z_yes (le→leb n t l)
to-most t (negsuc n) l = le_z_yes tt

module _ (i o : ℕ) where
  fills-above : (d : ℤ) → Less i o d → (ltb o i ≡ true) ↔ (pos 0 <ℤ d)
  fills-above (pos n) e = (
    λ f. lt_z_yes (lt→ltb 0 n (omega (arith, ltb-true o i f))),
    λ l. lt-ltb o i (omega (arith, ltb→lt 0 n l.lt)),
  )
  fills-above (negsuc n) e = (λ f. absurd (omega (arith, ltb-true o i f)), λ l. absurd l.lt)

  tie_none : (d : ℤ) → Less i o d → (d ≡ pos 0) ↔ (i ≡ o)
  tie_none (pos n) e = (λ f. omega (arith, ap nat_abs f), λ f. ap pos (omega arith))
  tie_none (negsuc n) e = (λ f. absurd (omega (arith, ap nat_abs f)), λ f. absurd (omega arith))

  size-rest : (d : ℤ) → Less i o d → 2 * min i o + nat_abs d ≡ i + o
  size-rest (pos n) e = omega arith
  size-rest (negsuc n) e = omega arith

  ends-sure : (d : ℤ) → Less i o d → ((d ≡ neg_ℤ (pos (i + o))) ⊎ (d ≡ pos (i + o))) ↔ (min i o ≡ 0)
  ends-sure d e = (back d e, to d e)
    where
      back : (d : ℤ) → Less i o d → (d ≡ neg_ℤ (pos (i + o))) ⊎ (d ≡ pos (i + o)) → min i o ≡ 0
      back d e (inl f) = omega (arith, size-rest d e, ap nat_abs f, size (i + o))
      back d e (inr f) = omega (arith, size-rest d e, ap nat_abs f)

      to : (d : ℤ) → Less i o d → min i o ≡ 0 → (d ≡ neg_ℤ (pos (i + o))) ⊎ (d ≡ pos (i + o))
      to (pos n) e f = inr (ap pos (omega arith))
      to (negsuc n) e f = let g : suc n ≡ i + o = omega arith in inl (ap (λ (m : ℕ). neg_ℤ (pos m)) g)

-- ---- of a column in a layer

module _ (bs : List ℕ) (z : ℤ) (t : ℕ) where
  abbrev i : ℕ
  i = inside_count bs z t

  abbrev o : ℕ
  o = outside_count bs z t

  abbrev d : ℤ
  d = difference bs z t

  together : i + o ≡ t
  together = omega (arith, inside-most bs z t)

  -- it is above 0 exactly where the column is filled
  pub difference-filled : (filled bs z t ≡ true) ↔ (pos 0 <ℤ d)
  difference-filled = fills-above i o d (less i o)

  -- and 0 exactly where as many voxels are inside as outside
  pub difference-tie : (d ≡ pos 0) ↔ (i ≡ o)
  difference-tie = tie_none i o d (less i o)

  -- what twice the share leaves of the layer
  pub difference-size : 2 * share bs z t + nat_abs d ≡ t
  difference-size = size-rest i o d (less i o) ∙ together

  pub difference-least : neg_ℤ (pos t) ≤ℤ d
  difference-least = from-least t d (omega (arith, difference-size))

  pub difference-most : d ≤ℤ pos t
  difference-most = to-most t d (omega (arith, difference-size))

  -- its ends are where there is no share
  pub difference-ends : ((d ≡ neg_ℤ (pos t)) ⊎ (d ≡ pos t)) ↔ (share bs z t ≡ 0)
  difference-ends = subst (λ (n : ℕ). ((d ≡ neg_ℤ (pos n)) ⊎ (d ≡ pos n)) ↔ (share bs z t ≡ 0)) together (ends-sure i o d (less i o))

  -- the lower end is where nothing is inside
  pub difference-empty : i ≡ 0 → d ≡ neg_ℤ (pos t)
  difference-empty e =
      let all : t - 0 ≡ t = omega arith in
      ap (λ (n : ℕ). pos n -ℤ pos (t - n)) e ∙ +ℤ_idl (neg_ℤ (pos (t - 0))) ∙ ap (λ (n : ℕ). neg_ℤ (pos n)) all
