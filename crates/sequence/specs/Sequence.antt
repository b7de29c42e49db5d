-- Sequences of layers as they are worked with: a height h stands for z = h - 32, and a sequence is its top and the thicknesses of its
-- layers from the top down, which is the way the tie rule reads and every proof goes. Assumes nothing.
use Rattle.std.specs.Prelude.{ℕ, ◌+◌, ◌-◌, ◌≤◌, ◌<◌, ◌≡◌, ◌⊎◌, Bool, true, ◌&&◌, List, [], ◌∷◌, leb, ltb, length}

-- what the layers of a plate are measured by: the error of the layer from h of thickness t, whether it is permitted,
-- the greatest thickness, and the plate's height
pub record Rules : Type 0 where
  pub cell : ℕ → ℕ → ℕ
  pub may : ℕ → ℕ → Bool
  pub tmax : ℕ
  pub height : ℕ

-- h is a start: -tmax < z ≤ 0
unfoldable pub starts : ℕ → ℕ → Bool
starts tmax h = ltb 32 (h + tmax) && leb h 32

-- h is an end: N ≤ z < N + tmax
abbrev pub lowest_end : ℕ → ℕ
lowest_end N = N + 32

pub record Ends (p : Rules) (h : ℕ) : Type 0 where
  pub from : lowest_end p.height ≤ h
  pub to : h < lowest_end p.height + p.tmax

-- a permitted layer of thickness t that ends at h
pub record Layer (p : Rules) (h t : ℕ) : Type 0 where
  pub thick : 1 ≤ t
  pub thin : t ≤ p.tmax
  pub above : t ≤ h
  pub allowed : p.may (h - t) t ≡ true

-- permitted layers, from a start up to h; the thicknesses are listed from the top down
abbrev pub Built : Rules → ℕ → List ℕ → Type 0
Built p h [] = starts p.tmax h ≡ true
Built p h (t ∷ ts) = Layer p h t × Built p (h - t) ts

-- the sum of the layers' errors
abbrev pub error_of : Rules → ℕ → List ℕ → ℕ
error_of p h [] = 0
error_of p h (t ∷ ts) = error_of p (h - t) ts + p.cell (h - t) t

pub record Sequence : Type 0 where
  pub top : ℕ
  pub layers : List ℕ

pub record Admissible (p : Rules) (s : Sequence) : Type 0 where
  pub ends : Ends p s.top
  pub built : Built p s.top s.layers

abbrev pub count : Sequence → ℕ
count s = length s.layers

abbrev pub error : Rules → Sequence → ℕ
error p s = error_of p s.top s.layers

-- the lexicographic order: us is before vs, or is vs
abbrev pub First : List ℕ → List ℕ → Type 0
First [] vs = Unit {0}
First (u ∷ us) [] = ⊥
First (u ∷ us) (v ∷ vs) = (u < v) ⊎ ((u ≡ v) × First us vs)

-- the tie rule: the smallest top, then the thinnest last layer, then the thinnest before it, and so on down
abbrev pub Before : Sequence → Sequence → Type 0
Before s r = First (s.top ∷ s.layers) (r.top ∷ r.layers)

-- THE sequence of n layers that a plan has
pub record Chosen (p : Rules) (n : ℕ) (s : Sequence) : Type 0 where
  pub admissible : Admissible p s
  pub counts : count s ≡ n
  pub least : (r : Sequence) → Admissible p r → count r ≡ n → error p s ≤ error p r
  pub first : (r : Sequence) → Admissible p r → count r ≡ n → error p r ≡ error p s → Before s r

-- the boundaries of a sequence that ends at h, from the lowest up, under those above it
abbrev pub up_from : ℕ → List ℕ → List ℕ → List ℕ
up_from h [] above = h ∷ above
up_from h (t ∷ ts) above = up_from (h - t) ts (h ∷ above)

abbrev pub boundaries : Sequence → List ℕ
boundaries s = up_from s.top s.layers []
