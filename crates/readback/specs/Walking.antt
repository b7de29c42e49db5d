-- What the parts of reading a sequence back say to each other: how a walk ended, and what it noted. Assumes nothing.
use Rattle.std.specs.Prelude.{ℕ, ◌+◌, ◌≡◌, List, [], map, ℤ}
use Rattle.std.proofs.Math.Option.{Option, none, some}
use Rattle.std.proofs.Math.Seq.{slice}
use Rattle.plate.specs.Datum.{height_of}
use Rattle.sequence.specs.Sheets.{fault_under, boundaries_under}
use Rattle.std.specs.Prelude.{Result, Ok, Err, ⊤}

-- the layer that does not read back
abbrev pub fault_of : Result ⊤ ℕ → Option ℕ
fault_of (Ok passed) = none
fault_of (Err layer) = some layer

-- the whole numbers of the heights from k to n, of those that were noted
abbrev pub noted_from : ℕ → ℕ → List ℕ → List ℤ
noted_from k n heights = map height_of (slice k (n + 1) heights)

-- how a walk down through n layers ends, and what it noted where it has no fault: the heights of all its boundaries
pub record Walked (look : ℕ → ℕ → ℕ) (N T n top : ℕ) (walk : Result ⊤ ℕ) (heights : List ℕ) : Type 0 where
  pub ends : fault_of walk ≡ fault_under look N T n n top
  pub notes : fault_of walk ≡ none → noted_from 0 n heights ≡ boundaries_under look n top []
