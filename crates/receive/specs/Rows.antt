-- A row as the reader sees it first: the bytes that it begins with; and its cells, by the limits of the 32 thicknesses and where they stand in the
-- file. Assumes nothing.
use Rattle.std.specs.Prelude.{ℕ, ◌+◌, ◌*◌, ◌≤◌, ◌≡◌, Bool, List, ltb, length, get_or}
use Rattle.record.specs.Bytes.{le16, le32}
use Rattle.record.specs.Frame.{length_at, kind_at, body_at}
use Rattle.sent.specs.Kinds.{row_kind}

-- the cell of thickness j + 1, of those that stand from a place on, is above its limit
unfoldable pub over_at : List ℕ → List ℕ → ℕ → ℕ → Bool
over_at limits s at j = ltb (get_or limits j 0) (le32 s (at + 4 * j))

-- a whole row of so many cells stands at a place, and has this start
pub record RowStands (s : List ℕ) (at width start : ℕ) : Type 0 where
  pub long : length_at s at ≡ 2 + 4 * width
  pub kind-is : kind_at s at ≡ row_kind
  pub starts : le16 s (body_at at) ≡ start
  pub within : at + 6 + 4 * width ≤ length s
