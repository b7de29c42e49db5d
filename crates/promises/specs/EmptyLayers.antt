-- Document 02 b), 'Layers with nothing on them', as statements: what is admissible beside document 01's sense, M, and the sheets' lowest entries.
-- Assumes nothing.
use Rattle.std.specs.Prelude.{ℕ, suc, ◌+◌, ◌-◌, ◌*◌, ◌/◌, ◌≤◌, ◌<◌, ◌≡◌, ◌↔◌, List, ℤ, pos, neg_ℤ, ◌≤ℤ◌, ◌<ℤ◌}
use Rattle.paper.specs.Layer.{Plate, Settings, tmin, tmax}
use Rattle.paper.specs.Sequence.{◌!◌, count, IsLayer, Admissible, M}
use Rattle.paper.specs.Sheets.{heights, entries, missing, Entries}

-- admissible in document 01's sense: '-tmax < z0 ≤ 0; N ≤ zn < N+tmax; every difference is in T; every layer's error is at most the bound'
pub record ByDocument01 (p : Plate) (bound : ℕ) (zs : List ℤ) : Type 0 where
  pub layered : 1 ≤ count zs
  pub starts-above : neg_ℤ (pos (tmax p.T)) <ℤ zs ! 0
  pub starts_by : zs ! 0 ≤ℤ pos 0
  pub ends-from : pos p.N ≤ℤ zs ! count zs
  pub ends-below : zs ! count zs <ℤ pos (p.N + tmax p.T)
  pub layers : (k : ℕ) → k < count zs → IsLayer p bound (zs ! k) (zs ! suc k)

-- the two rules
pub record SomethingOnEach (p : Plate) (zs : List ℤ) : Type 0 where
  pub z1-above : pos 0 <ℤ zs ! 1
  pub before-last-below : zs ! (count zs - 1) <ℤ pos p.N

-- M as document 01 had it
abbrev pub MBefore : ℕ → ℕ → ℕ
MBefore N T = (N + 2 * tmax T - 2) / tmin T

pub record NoEmptyLayers : Type 0 where
  -- 'An admissible sequence now also has z1 above 0 and the last boundary but one below N.'
  pub also : (p : Plate) (bound : ℕ) (zs : List ℤ) → Admissible p bound zs ↔ (ByDocument01 p bound zs × SomethingOnEach p zs)
  -- as boundaries rise: every layer ends above 0 and starts below N
  pub every-layer : (p : Plate) (bound : ℕ) (zs : List ℤ)
      → Admissible p bound zs ↔ (ByDocument01 p bound zs × ((k : ℕ) → k < count zs → (pos 0 <ℤ zs ! suc k) × (zs ! k <ℤ pos p.N)))
  -- of one layer both hold by themselves
  pub one-layer : (p : Plate) (bound : ℕ) (zs : List ℤ) → 1 ≤ p.N → count zs ≡ 1 → ByDocument01 p bound zs → Admissible p bound zs
  -- 'M becomes ..': no admissible sequence has more layers, and where the bound excludes nothing one has as many
  pub most : (p : Plate) (bound : ℕ) (zs : List ℤ) → Admissible p bound zs → count zs ≤ M p.N p.T
  pub reached : (p : Plate) (bound : ℕ) → Settings p.N p.T → ((z : ℤ) (t : ℕ) → p.layer_error z t ≤ bound)
      → (zs : List ℤ) × Admissible p bound zs × (count zs ≡ M p.N p.T)
  -- it is no greater than before, so buffers that were long enough still are
  pub no-greater : (N T : ℕ) → Settings N T → M N T ≤ MBefore N T
  pub buffers : (N T : ℕ) → Settings N T → entries N T ≤ heights N T * (MBefore N T + 1)
  -- 'The sheets follow: layers counted in an entry meet the same two rules.' So no layer ends at a height of 0 or less
  pub low-entries : (p : Plate) (bound m : ℕ) (z : ℤ) (e t : ℕ) → 1 ≤ m → z ≤ℤ pos 0 → Entries p bound m z e t → (e ≡ missing) × (t ≡ 0)
  -- and count 0 stays 0 there
  pub no-layer : (p : Plate) (bound : ℕ) (z : ℤ) (e t : ℕ) → neg_ℤ (pos (tmax p.T)) <ℤ z → z ≤ℤ pos 0 → Entries p bound 0 z e t → (e ≡ 0) × (t ≡ 0)
