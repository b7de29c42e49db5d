-- Document 01, 'Plate, column, layer': its first three paragraphs, sentence by sentence, with document 02 g)'s difference. A height or a boundary of
-- a layer is a whole number, below 0 as well: `pos n` is n, and `negsuc n` is -(n + 1). Assumes nothing.
use Rattle.std.specs.Prelude.{ℕ, zero, suc, ◌+◌, ◌-◌, ◌/◌, ◌%◌, ◌^◌, ◌≤◌, ◌<◌, min, ◌≡◌, Bool, true, false, not, cond, ◌&&◌, List, [], ◌∷◌, leb, ltb, eqb, length, get_or, ℤ, pos, ◌+ℤ◌, ◌-ℤ◌, ◌<ℤ◌}
use Rattle.std.specs.Int.Signed.{le_z}
use Rattle.paper.specs.Limits.{least_height, greatest_height, most_thickness, most_boundaries, sets}

-- T is 32 bits: bit k - 1 set means that thickness k is allowed (1 to 32)
unfoldable pub allowed : ℕ → ℕ → Bool
allowed T k = leb 1 k && (leb k most_thickness && eqb (T / 2 ^ (k - 1) % 2) 1)

-- tmin and tmax are its least and greatest members, 0 where it has none

-- the least of the members k + 1 to k + n
unfoldable pub least_above : ℕ → ℕ → ℕ → ℕ
least_above T k zero = 0
least_above T k (suc n) = cond (allowed T (suc k)) (suc k) (least_above T (suc k) n)

unfoldable pub tmin : ℕ → ℕ
tmin T = least_above T 0 most_thickness

-- the greatest of the members 1 to k
unfoldable pub greatest_to : ℕ → ℕ → ℕ
greatest_to T zero = 0
greatest_to T (suc k) = cond (allowed T (suc k)) (suc k) (greatest_to T k)

unfoldable pub tmax : ℕ → ℕ
tmax T = greatest_to T most_thickness

-- settings are a height N, at least 1 and at most 512 units, and a thickness set T of 32 bits, which is not empty
pub record Settings (N T : ℕ) : Type 0 where
  pub least-height : least_height ≤ N
  pub greatest-height : N ≤ greatest_height
  pub bits : T < sets
  pub some-thickness : 1 ≤ tmax T

-- a column: its boundaries
pub record Column : Type 0 where
  pub boundaries : List ℕ

abbrev pub column_of : List ℕ → Column
column_of bs = record { boundaries = bs }

-- a column is a list of 0 to 64 boundaries, an even number of them, strictly rising, each from 0 to N
pub record IsColumn (N : ℕ) (column : Column) : Type 0 where
  pub few : length column.boundaries ≤ most_boundaries
  pub even : length column.boundaries % 2 ≡ 0
  pub rising : (k : ℕ) → suc k < length column.boundaries → get_or column.boundaries k 0 < get_or column.boundaries (suc k) 0
  pub within : (k : ℕ) → k < length column.boundaries → get_or column.boundaries k 0 ≤ N

-- how many boundaries are at or below z
abbrev pub at_or_below : List ℕ → ℤ → ℕ
at_or_below [] z = 0
at_or_below (b ∷ bs) z = cond (le_z (pos b) z) 1 0 + at_or_below bs z

-- voxel z is inside exactly if an odd number of boundaries are at or below z
abbrev pub inside : List ℕ → ℤ → Bool
inside bs z = eqb (at_or_below bs z % 2) 1

-- a layer from z of thickness t holds voxels z to z + t - 1: how many of them are inside, and how many are not
abbrev pub inside_count : List ℕ → ℤ → ℕ → ℕ
inside_count bs z zero = 0
inside_count bs z (suc t) = inside_count bs z t + cond (inside bs (z +ℤ pos t)) 1 0

abbrev pub outside_count : List ℕ → ℤ → ℕ → ℕ
outside_count bs z t = t - inside_count bs z t

-- for one column its share is the smaller of its inside and outside counts
abbrev pub share : List ℕ → ℤ → ℕ → ℕ
share bs z t = min (inside_count bs z t) (outside_count bs z t)

-- the share isn't 0 exactly when some boundary lies strictly between z and z + t
pub record Between (bs : List ℕ) (z : ℤ) (t : ℕ) : Type 0 where
  pub index : ℕ
  pub there : index < length bs
  pub after : z <ℤ pos (get_or bs index 0)
  pub before : pos (get_or bs index 0) <ℤ (z +ℤ pos t)

-- the picture fills the column if inside exceeds outside; a tie is left unfilled
abbrev pub filled : List ℕ → ℤ → ℕ → Bool
filled bs z t = ltb (outside_count bs z t) (inside_count bs z t)

-- document 02 g): by how much the column leans, 'inside minus outside'
abbrev pub difference : List ℕ → ℤ → ℕ → ℤ
difference bs z t = pos (inside_count bs z t) -ℤ pos (outside_count bs z t)

-- voxels wrongly filled or left out: a picture with straight walls fills a column through the whole layer or leaves it out, so a voxel is
-- wrong where its column is filled and it is outside, or its column is left out and it is inside
abbrev pub wrong_at : Bool → Bool → Bool
wrong_at true there = not there
wrong_at false there = there

-- how many of a layer's voxels in one column are wrong, where the picture fills the column or not
abbrev pub wrong : Bool → List ℕ → ℤ → ℕ → ℕ
wrong fills bs z zero = 0
wrong fills bs z (suc t) = wrong fills bs z t + cond (wrong_at fills (inside bs (z +ℤ pos t))) 1 0

-- a layer's error is the sum of its shares
abbrev pub shares : List Column → ℤ → ℕ → ℕ
shares [] z t = 0
shares (column ∷ columns) z t = share column.boundaries z t + shares columns z t

-- a layer's wrong voxels under a picture of all its columns, the list of which are filled; columns past the list's end are left out
abbrev pub wrongs : List Bool → List Column → ℤ → ℕ → ℕ
wrongs fills [] z t = 0
wrongs [] (column ∷ columns) z t = wrong false column.boundaries z t + wrongs [] columns z t
wrongs (first ∷ fills) (column ∷ columns) z t = wrong first column.boundaries z t + wrongs fills columns z t

-- the picture of a layer: that of each column
abbrev pub pictures : List Column → ℤ → ℕ → List Bool
pictures [] z t = []
pictures (column ∷ columns) z t = filled column.boundaries z t ∷ pictures columns z t

-- a plate to be planned: its settings, and the error of each of its layers, from z and of thickness t
pub record Plate : Type 0 where
  pub N : ℕ
  pub T : ℕ
  pub layer_error : ℤ → ℕ → ℕ

-- the plate of these columns
abbrev pub of_columns : ℕ → ℕ → List Column → Plate
of_columns N T columns = record { N = N; T = T; layer_error = shares columns }
