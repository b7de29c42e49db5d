-- What is worked with for a plate of document 01: its rules over heights counted from the datum, and what is found by them.
-- Assumes nothing.
use Rattle.std.specs.Prelude.{ℕ, ◌+◌, ◌≡◌, List, [], ◌∷◌, map, get_or, ℤ}
use Rattle.std.proofs.Math.Option
use Rattle.std.proofs.Math.Option.{Option}
use Rattle.paper.specs.Layer.{Plate}
use Rattle.paper.specs.Groups.{Usable}
use Rattle.plate.specs.Datum.{height_of}
use Rattle.sequence.specs.Sequence.{Rules, Sequence, boundaries}
use Rattle.sequence.specs.Rules.{rules}
use Rattle.sequence.specs.Least.{chosen, least_of}

-- the rules that a plate is planned by
abbrev pub rules_of : Plate → ℕ → Rules
rules_of p bound = rules p.N p.T bound (λ h t. p.layer_error (height_of h) t)

abbrev pub heights_of : List ℕ → List ℤ
heights_of hs = map height_of hs

-- the boundaries z0, z1, .. zn of a sequence
abbrev pub boundaries_of : Sequence → List ℤ
boundaries_of s = heights_of (boundaries s)

-- the boundaries of n layers that are found, and their error
abbrev pub found : Plate → ℕ → ℕ → Option (List ℤ)
found p bound n = Option.map boundaries_of (chosen (rules_of p bound) n)

abbrev pub found_error : Plate → ℕ → ℕ → Option ℕ
found_error p bound n = least_of (rules_of p bound) n

-- other errors of the layers that are the plate's own on every layer that a sequence can have
abbrev pub Agree : Plate → (ℤ → ℕ → ℕ) → Type 0
Agree p other = (z : ℤ) (t : ℕ) → Usable p.N p.T z t → p.layer_error z t ≡ other z t

-- the sum of the cells of index i of several tables
abbrev pub cell_sum : List (List ℕ) → ℕ → ℕ
cell_sum [] i = 0
cell_sum (buffer ∷ buffers) i = get_or buffer i 0 + cell_sum buffers i
