-- The boundaries passed, carried from one voxel to the next: going up a voxel looks at that voxel alone, and the next boundary, if it is
-- the voxel's, is passed too. A voxel with an odd number passed is inside. Assumes nothing.
use Rattle.std.specs.Prelude.{ℕ, zero, suc, ◌+◌, ◌%◌, ◌<◌, ◌≡◌, cond, ◌&&◌, List, ltb, eqb, length, get_or}

-- so many passed below a voxel, and so many at it
unfoldable pub stepped : List ℕ → ℕ → ℕ → ℕ
stepped bs passed voxel = cond (ltb passed (length bs) && eqb (get_or bs passed 0) voxel) (suc passed) passed

-- after i voxels from boundary k up, with k passed below them
unfoldable pub carried : List ℕ → ℕ → ℕ → ℕ
carried bs k zero = k
carried bs k (suc i) = stepped bs (carried bs k i) (get_or bs k 0 + i)

-- the voxel i above boundary k, 1 inside and 0 outside: after it was looked at, an odd number passed or an even one
unfoldable pub state_at : List ℕ → ℕ → ℕ → ℕ
state_at bs k i = carried bs k (suc i) % 2

-- the voxels from boundary k up
pub record States (bs : List ℕ) (k width : ℕ) (states : List ℕ) : Type 0 where
  pub are : (i : ℕ) → i < width → get_or states i 0 ≡ state_at bs k i
