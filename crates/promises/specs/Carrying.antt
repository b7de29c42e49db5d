-- Document 02 d), 'Carry the inside count along', as statements: how the count goes from one thickness to the next at the same start, how the
-- boundaries passed go from one voxel to the next, and which starts need not be looked at. Assumes nothing.
use Rattle.std.specs.Prelude.{ℕ, suc, ◌+◌, ◌%◌, ◌≤◌, ◌<◌, ◌≡◌, List, ℤ, pos, ◌+ℤ◌, length, get_or}
use Rattle.paper.specs.Layer.{Column, IsColumn, Settings, tmax, at_or_below, inside_count, share, Between}
use Rattle.paper.specs.Table.{start_at}
use Rattle.plate.specs.Head.{Held, cells_of}
use Rattle.adding.specs.Adding.{added}

-- voxel z is a boundary
pub record IsBoundary (bs : List ℕ) (z : ℤ) : Type 0 where
  pub index : ℕ
  pub there : index < length bs
  pub at : pos (get_or bs index 0) ≡ z

pub record Carrying : Type 0 where
  -- 'Carry the inside count from one thickness to the next at the same start': it takes one voxel more, the layer's last, whatever the list
  pub count : (bs : List ℕ) (z : ℤ) (t : ℕ) → inside_count bs z (t + 1) ≡ inside_count bs z t + at_or_below bs (z +ℤ pos t) % 2
  -- the boundaries passed, where they rise: one more at a voxel that is a boundary, and as many as below it at any other
  pub flips : (bs : List ℕ) (z : ℤ) → ((k : ℕ) → suc k < length bs → get_or bs k 0 < get_or bs (suc k) 0) → IsBoundary bs (z +ℤ pos 1)
      → at_or_below bs (z +ℤ pos 1) ≡ at_or_below bs z + 1
  pub stays : (bs : List ℕ) (z : ℤ) → (IsBoundary bs (z +ℤ pos 1) → ⊥) → at_or_below bs (z +ℤ pos 1) ≡ at_or_below bs z
  -- a start with no boundary in reach of its thickest layer has no share at any thickness
  pub no-share : (N : ℕ) (column : Column) → IsColumn N column → (z : ℤ) (most : ℕ) → (Between column.boundaries z most → ⊥)
      → (t : ℕ) → t ≤ most → share column.boundaries z t ≡ 0
  -- so that to pass over its row is what adding does there
  pub passed_over : (held : Held) (column : Column) → Settings held.head.height held.head.members → IsColumn held.head.height column
      → (i : ℕ) → i < cells_of held.head → i < length held.buffer → (Between column.boundaries (start_at held.head.members i) (tmax held.head.members) → ⊥)
      → get_or (added held column) i 0 ≡ get_or held.buffer i 0
