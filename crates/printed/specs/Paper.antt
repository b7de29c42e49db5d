-- Document 02 e), 'Reading accepts exactly the files that the writer gives for some admissible sequence under these': the order list of a
-- sequence of boundaries z0 .. zn, which sequences have one, and what it is to be such a file or the beginning of one. Assumes nothing.
use Rattle.std.specs.Prelude.{ℕ, zero, suc, ◌<◌, ◌≡◌, List, [], ◌∷◌, ◌++◌, ℤ, nat_abs, ◌-ℤ◌}
use Rattle.paper.specs.Limits.{largest_bound}
use Rattle.paper.specs.Layer.{of_columns}
use Rattle.paper.specs.Sequence.{◌!◌, count, thickness, Admissible}
use Rattle.printed.specs.Possible.{cure_of}
use Rattle.printed.specs.Records.{Record, lift, cure, finish}

-- a sequence that can be ordered
pub record Orderable (N T : ℕ) (cures : List ℕ) (zs : List ℤ) : Type 0 where
  -- 'Admissible here leaves out the bound': there are no columns, and the bound is the largest
  pub admissible : Admissible (of_columns N T []) largest_bound zs
  -- no layer's cure time is 0
  pub cured : (k : ℕ) → k < count zs → 0 < cure_of cures (thickness zs k)

-- the orders of the k lowest layers: lift to its upper height above the first boundary, cure for the time of its thickness
abbrev pub layers_to : List ℕ → List ℤ → ℕ → List Record
layers_to cures zs zero = []
layers_to cures zs (suc k) = layers_to cures zs k ++ (lift (nat_abs (zs ! suc k -ℤ zs ! 0)) ∷ cure (cure_of cures (thickness zs k)) ∷ [])

-- the file: then the number of layers, then nothing
abbrev pub file_of : List ℕ → List ℤ → List Record
file_of cures zs = layers_to cures zs (count zs) ++ (finish (count zs) ∷ [])

-- rs is the file of such a sequence
pub record Printed (N T : ℕ) (cures : List ℕ) (rs : List Record) : Type 0 where
  pub sequence : List ℤ
  pub orderable : Orderable N T cures sequence
  pub same : file_of cures sequence ≡ rs

-- such a file begins with rs
pub record Started (N T : ℕ) (cures : List ℕ) (rs : List Record) : Type 0 where
  pub more : List Record
  pub printed : Printed N T cures (rs ++ more)
