-- One column in one layer, over heights counted from the datum: h stands for z = h - 32. Assumes nothing.
use Rattle.std.specs.Prelude.{ℕ, zero, suc, ◌+◌, ◌%◌, cond, List, [], ◌∷◌, leb}

-- 1 where the boundary b is at or below the voxel h, else 0
unfoldable pub reached_by : ℕ → ℕ → ℕ
reached_by b h = cond (leb (b + 32) h) 1 0

-- how many boundaries are at or below the voxel h
unfoldable pub passed : List ℕ → ℕ → ℕ
passed [] h = 0
passed (b ∷ bs) h = reached_by b h + passed bs h

-- the inside voxels among h, h + 1, .. h + t - 1: those with an odd number of boundaries at or below
unfoldable pub inside : List ℕ → ℕ → ℕ → ℕ
inside bs h zero = 0
inside bs h (suc t) = inside bs h t + passed bs (h + t) % 2
