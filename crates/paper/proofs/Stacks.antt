-- Layers over one another. Their boundaries rise, so the two rules of document 02 b), on z1 and on the last boundary but one, are two conditions on
-- every layer. Taken under another bound or on another plate of the same height and thicknesses only the layers' errors are asked again, and what
-- they are compared with; and errors that agree add up to the same. Assumes nothing.
use Prim.Native.Nat.{ℕ, zero, suc, ◌+◌, ◌-◌, ◌≤◌, ◌<◌}
use mathlib.Core.Path.{◌≡◌, refl, ap₂, subst}
use mathlib.Core.Logic.{◌↔◌}
use mathlib.Core.List.{List}
use native.Mathlib.Nat.{le_of_lt}
use native.Mathlib.Omega.{arith}
use lib.Dec.{le→leb, ltb→lt}
use lib.IntN.{ℤ, pos, negsuc, nat_abs, ◌-ℤ◌}
use lib.Signed.{◌≤ℤ◌, ◌<ℤ◌, le_z_yes, <ℤ-≤ℤ_trans}
use Rattle.paper.specs.Layer.{Plate}
use Rattle.paper.specs.Sequence.{◌!◌, count, error_at, error_under, IsLayer, Stack, Admissible}
use Rattle.paper.specs.Groups.{part}

-- ---- document 02 b)

-- below is at most
lt-le : {a b : ℤ} → a <ℤ b → a ≤ℤ b
lt-le {a = pos a} {b = pos b} l = le_z_yes (le→leb a b (le_of_lt (ltb→lt a b l.lt)))
lt-le {a = pos a} {b = negsuc b} l = absurd l.lt
lt-le {a = negsuc a} {b = pos b} l = le_z_yes tt
lt-le {a = negsuc a} {b = negsuc b} l = le_z_yes (le→leb b a (le_of_lt (ltb→lt b a l.lt)))

-- boundaries that rise
module _ (zs : List ℤ) (m : ℕ) (rises : (k : ℕ) → k < m → zs ! k <ℤ zs ! suc k) where
  ends_above : (1 ≤ m → pos 0 <ℤ zs ! 1) → (k : ℕ) → k < m → pos 0 <ℤ zs ! suc k
  ends_above first zero l = first l
  ends_above first (suc k) l = <ℤ-≤ℤ_trans (ends_above first k (omega arith)) (lt-le (rises (suc k) l))

  -- by how many layers stand on the layer from zk up
  starts-below : (N : ℕ) → (1 ≤ m → zs ! (m - 1) <ℤ pos N) → (j k : ℕ) → k + suc j ≡ m → zs ! k <ℤ pos N
  starts-below N last zero k e =
      let i : m - 1 ≡ k = omega arith in
      subst (λ (n : ℕ). zs ! n <ℤ pos N) i (last (omega arith))
  starts-below N last (suc j) k e = <ℤ-≤ℤ_trans (rises k (omega arith)) (lt-le (starts-below N last j (suc k) (omega arith)))

  -- z1 is above 0 and the last boundary but one below N exactly where every layer ends above 0 and starts below N
  pub something-on-each : (N : ℕ) → ((1 ≤ m → pos 0 <ℤ zs ! 1) × (1 ≤ m → zs ! (m - 1) <ℤ pos N)) ↔ ((k : ℕ) → k < m → (pos 0 <ℤ zs ! suc k) × (zs ! k <ℤ pos N))
  something-on-each N = (to, from)
    where
      to : (1 ≤ m → pos 0 <ℤ zs ! 1) × (1 ≤ m → zs ! (m - 1) <ℤ pos N) → (k : ℕ) → k < m → (pos 0 <ℤ zs ! suc k) × (zs ! k <ℤ pos N)
      to a k l = (ends_above a.0 k l, starts-below N a.1 (m - suc k) k (omega arith))

      from : ((k : ℕ) → k < m → (pos 0 <ℤ zs ! suc k) × (zs ! k <ℤ pos N)) → (1 ≤ m → pos 0 <ℤ zs ! 1) × (1 ≤ m → zs ! (m - 1) <ℤ pos N)
      from a = (λ l. (a 0 l).0, λ l. (a (m - 1) (omega arith)).1)

-- ---- another bound, another plate

module _ (p : Plate) (errors : ℤ → ℕ → ℕ) (bound other : ℕ) where
  -- other errors of the layers, within another bound
  layer-again : (a b : ℤ) → IsLayer p bound a b → errors a (nat_abs (b -ℤ a)) ≤ other → IsLayer (part p errors) other a b
  layer-again a b l within = record { rises = l.rises; member = l.member; within = within }

  module _ (zs : List ℤ) where
    pub stack-again : (m : ℕ) → Stack p bound zs m → ((k : ℕ) → k < m → error_at (part p errors) zs k ≤ other) → Stack (part p errors) other zs m
    stack-again m a within = record {
      starts-above = a.starts-above;
      starts_by = a.starts_by;
      layers = λ k l. layer-again (zs ! k) (zs ! suc k) (a.layers k l) (within k l);
      z1-above = a.z1-above;
      before-last-below = a.before-last-below;
    }

    pub admissible-again : Admissible p bound zs → ((k : ℕ) → k < count zs → error_at (part p errors) zs k ≤ other) → Admissible (part p errors) other zs
    admissible-again a within = record {
      layered = a.layered;
      stack = stack-again (count zs) a.stack within;
      ends-from = a.ends-from;
      ends-below = a.ends-below;
    }

-- layers whose errors are the same add up to the same
pub errors-again : (p : Plate) (errors : ℤ → ℕ → ℕ) (zs : List ℤ) (m : ℕ) → ((k : ℕ) → k < m → error_at p zs k ≡ error_at (part p errors) zs k)
    → error_under p zs m ≡ error_under (part p errors) zs m
errors-again p errors zs zero same = refl
errors-again p errors zs (suc m) same = ap₂ ◌+◌ (errors-again p errors zs m (λ k l. same k (omega arith))) (same m (omega arith))

-- the plate's own errors, within another bound
pub admissible-within : (p : Plate) (bound other : ℕ) (zs : List ℤ) → Admissible p bound zs → ((k : ℕ) → k < count zs → error_at p zs k ≤ other) → Admissible p other zs
admissible-within p bound other zs a within = admissible-again p p.layer_error bound other zs a within
