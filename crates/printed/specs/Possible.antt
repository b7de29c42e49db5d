-- Document 02 e), 'The printer's order list': which layers a printer can be ordered to build. They are those of some admissible sequence, the
-- bound left out, of which no layer's cure time is 0. Heights are counted from the datum as in crate `plate`: h stands for z = h - 32. Layers are
-- listed from the lowest up, as the file has them. Assumes nothing.
use Rattle.std.specs.Prelude.{ℕ, zero, suc, ◌+◌, ◌-◌, ◌≤◌, ◌<◌, ◌≡◌, Bool, true, ◌&&◌, List, [], ◌∷◌, ◌++◌, ltb, length, get_or}
use Rattle.paper.specs.Layer.{allowed, tmax}

-- the entry of the cure list, 64ths of a second, for the thickness t
abbrev pub cure_of : List ℕ → ℕ → ℕ
cure_of cures t = get_or cures (t - 1) 0

-- t is in T, and its cure time isn't 0
unfoldable pub usable : ℕ → List ℕ → ℕ → Bool
usable T cures t = allowed T t && ltb 0 (cure_of cures t)

-- the height of the k lowest layers together: the upper height of layer k above the first boundary
unfoldable pub rise : List ℕ → ℕ → ℕ
rise ts zero = 0
rise [] (suc k) = 0
rise (t ∷ ts) (suc k) = t + rise ts k

-- the layers can stand on the first boundary h
pub record Stands (N T : ℕ) (cures ts : List ℕ) (h : ℕ) : Type 0 where
  -- n ≥ 1
  pub layered : 1 ≤ length ts
  -- every difference is in T, and no cure time is 0
  pub usables : (k : ℕ) → k < length ts → usable T cures (get_or ts k 0) ≡ true
  -- -tmax < z0 ≤ 0
  pub starts-above : 32 < h + tmax T
  pub starts_by : h ≤ 32
  -- N ≤ zn < N + tmax
  pub ends-from : N + 32 ≤ h + rise ts (length ts)
  pub ends-below : h + rise ts (length ts) < N + 32 + tmax T
  -- 02 b): z1 above 0, and the last boundary but one below N
  pub z1-above : 32 < h + rise ts 1
  pub before-last-below : h + rise ts (length ts - 1) < N + 32

-- some first boundary will do: the file doesn't tell it
pub record Possible (N T : ℕ) (cures ts : List ℕ) : Type 0 where
  pub start : ℕ
  pub stands : Stands N T cures ts start

-- the layers are the lowest of some that are possible
pub record Extends (N T : ℕ) (cures ts : List ℕ) : Type 0 where
  pub more : List ℕ
  pub possible : Possible N T cures (ts ++ more)
