-- Document 01, 'Sequence' and 'Which of several', with document 02 b), 'Layers with nothing on them'. A sequence is the list of its boundaries
-- z0, z1, .. zn. Nothing here says how one is found. Assumes nothing.
use Rattle.std.specs.Prelude.{ℕ, zero, suc, ◌+◌, ◌-◌, ◌/◌, ◌≤◌, ◌<◌, ◌≡◌, ◌⊎◌, true, cond, List, [], ◌∷◌, eqb, length, get_or, ℤ, pos, neg_ℤ, nat_abs, ◌-ℤ◌, ◌≤ℤ◌, ◌<ℤ◌}
use Rattle.paper.specs.Layer.{Plate, allowed, tmin, tmax}

-- zs ! k is zk
infixl 90 ◌!◌
abbrev pub ◌!◌ : List ℤ → ℕ → ℤ
zs ! k = get_or zs k (pos 0)

-- n, the number of layers
abbrev pub count : List ℤ → ℕ
count [] = 0
count (z ∷ zs) = length zs

-- the layer from zk up: its thickness, and its error on a plate
abbrev pub thickness : List ℤ → ℕ → ℕ
thickness zs k = nat_abs (zs ! suc k -ℤ zs ! k)

abbrev pub error_at : Plate → List ℤ → ℕ → ℕ
error_at p zs k = p.layer_error (zs ! k) (thickness zs k)

-- the layer from the boundary a up to the boundary b is one that an admissible sequence can have: what is asked of each layer by itself
pub record IsLayer (p : Plate) (bound : ℕ) (a b : ℤ) : Type 0 where
  -- boundaries z0 < z1 < .. < zn
  pub rises : a <ℤ b
  -- every difference is in T
  pub member : allowed p.T (nat_abs (b -ℤ a)) ≡ true
  -- every layer's error is at most the bound
  pub within : p.layer_error a (nat_abs (b -ℤ a)) ≤ bound

-- m layers over one another, started, within the bound and each with something on it as an admissible sequence's are: what such a sequence and
-- the layers counted in an entry of a sheet share
pub record Stack (p : Plate) (bound : ℕ) (zs : List ℤ) (m : ℕ) : Type 0 where
  -- -tmax < z0 ≤ 0
  pub starts-above : neg_ℤ (pos (tmax p.T)) <ℤ zs ! 0
  pub starts_by : zs ! 0 ≤ℤ pos 0
  pub layers : (k : ℕ) → k < m → IsLayer p bound (zs ! k) (zs ! suc k)
  -- 02 b), where there is a layer: z1 above 0 ..
  pub z1-above : 1 ≤ m → pos 0 <ℤ zs ! 1
  -- .. and the last boundary but one below N
  pub before-last-below : 1 ≤ m → zs ! (m - 1) <ℤ pos p.N

pub record Admissible (p : Plate) (bound : ℕ) (zs : List ℤ) : Type 0 where
  -- n ≥ 1
  pub layered : 1 ≤ count zs
  pub stack : Stack p bound zs (count zs)
  -- N ≤ zn < N + tmax
  pub ends-from : pos p.N ≤ℤ zs ! count zs
  pub ends-below : zs ! count zs <ℤ pos (p.N + tmax p.T)

-- a sequence's error is the sum over its layers: those under zk
abbrev pub error_under : Plate → List ℤ → ℕ → ℕ
error_under p zs zero = 0
error_under p zs (suc k) = error_under p zs k + error_at p zs k

abbrev pub error : Plate → List ℤ → ℕ
error p zs = error_under p zs (count zs)

-- the greatest count asked for, M, is by 02 b) 1 for N = 1, otherwise (N - 2)/tmin rounded down, plus 2
unfoldable pub M : ℕ → ℕ → ℕ
M N T = cond (eqb N 1) 1 ((N - 2) / tmin T + 2)

-- of the layers under zk, the last thinner, or as thick and then the same of those under it; or no difference at all
abbrev pub Thinner : List ℤ → List ℤ → ℕ → Type 0
Thinner xs ys zero = Unit {0}
Thinner xs ys (suc k) = (thickness xs k < thickness ys k) ⊎ ((thickness xs k ≡ thickness ys k) × Thinner xs ys k)

-- of two sequences of n layers: the smallest zn; then the thinnest last layer, then the thinnest before it, and so on down
abbrev pub Before : ℕ → List ℤ → List ℤ → Type 0
Before n xs ys = (xs ! n <ℤ ys ! n) ⊎ ((xs ! n ≡ ys ! n) × Thinner xs ys n)

-- THE sequence of n layers: admissible, no admissible one of n layers has less error, and among equals it is the named one
pub record Chosen (p : Plate) (bound n : ℕ) (zs : List ℤ) : Type 0 where
  pub admissible : Admissible p bound zs
  pub counts : count zs ≡ n
  pub least : (ys : List ℤ) → Admissible p bound ys → count ys ≡ n → error p zs ≤ error p ys
  pub first : (ys : List ℤ) → Admissible p bound ys → count ys ≡ n → error p ys ≡ error p zs → Before n zs ys

-- no admissible sequence has n layers
abbrev pub None : Plate → ℕ → ℕ → Type 0
None p bound n = (zs : List ℤ) → Admissible p bound zs → count zs ≡ n → ⊥
