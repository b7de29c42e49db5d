-- The sheets while they are being filled, row by row, and a row thickness by thickness. Row q is the height at_row tmax q. Assumes nothing.
use Rattle.std.specs.Prelude.{ℕ, ◌+◌, ◌-◌, ◌≤◌, ◌<◌, ◌≡◌, true, List, length, get_or}
use Rattle.lists.specs.Best.{value, place}
use Rattle.lists.specs.Grid.{flat}
use Rattle.lists.specs.Rewrite.{Span}
use Rattle.paper.specs.Sheets.{row_start, entry_index}
use Rattle.plate.specs.Datum.{at_row}
use Rattle.plate.specs.declared.settings.Settings.{Settings}
use Rattle.sequence.specs.Sequence.{Rules}
use Rattle.sequence.specs.Least.{best_to, least, last}
use Rattle.sequence.specs.Sheets.{mark, error_entry}

-- the entries of row q and count m by last layers of at most k
unfoldable pub error_to : Settings → Rules → ℕ → ℕ → ℕ → ℕ
error_to s p q k m = mark (value (best_to p m (at_row s.tmax q) k))

unfoldable pub thickness_to : Settings → Rules → ℕ → ℕ → ℕ → ℕ
thickness_to s p q k m = place (best_to p m (at_row s.tmax q) k)

-- the entry of row q and count m of an error sheet that is filled, whatever stood there
abbrev pub least_at : Settings → Rules → ℕ → ℕ → ℕ → ℕ
least_at s p q m x = mark (least p m (at_row s.tmax q))

-- the first n entries of row q of both sheets are those by last layers of at most k, and all else is as it was before
pub record RowTo (s : Settings) (p : Rules) (q k n : ℕ) (errors-before thicknesses-before errors thicknesses : List ℕ) : Type 0 where
  pub errors-are : Span 0 (row_start s.counts q) n (λ m x. error_to s p q k m) errors-before errors
  pub thicknesses-are : Span 0 (row_start s.counts q) n (λ m x. thickness_to s p q k m) thicknesses-before thicknesses

-- the sheets are whole and have a row q, and the rows under it are filled
pub record Under (s : Settings) (p : Rules) (q : ℕ) (errors thicknesses : List ℕ) : Type 0 where
  pub row : q ≤ s.rows
  pub errors-whole : s.entries ≤ length errors
  pub thicknesses-whole : s.entries ≤ length thicknesses
  pub filled : (r m : ℕ) → r < q → m ≤ s.counts → get_or errors (entry_index s.counts r m) 0 ≡ mark (least p m (at_row s.tmax r))

-- a layer of thickness t that ends at row q starts at a row, and is permitted there
pub record Permitted (s : Settings) (p : Rules) (q t : ℕ) : Type 0 where
  pub thick : 1 ≤ t
  pub thin : t ≤ s.tmax
  pub above : t ≤ q
  pub permitted : p.may (at_row s.tmax (q - t)) t ≡ true

-- the first q rows of both sheets are filled, and all else is as it was before
pub record SheetTo (s : Settings) (p : Rules) (q : ℕ) (errors-before thicknesses-before errors thicknesses : List ℕ) : Type 0 where
  pub errors-are : Span 0 0 (row_start s.counts q) (flat (s.counts + 1) (least_at s p)) errors-before errors
  pub thicknesses-are : Span 0 0 (row_start s.counts q) (flat (s.counts + 1) (λ r m x. last p m (at_row s.tmax r))) thicknesses-before thicknesses

-- an error sheet that a plan filled
pub record Planned (s : Settings) (p : Rules) (errors : List ℕ) : Type 0 where
  pub whole : s.entries ≤ length errors
  pub entries-are : (i : ℕ) → i < s.entries → get_or errors i 0 ≡ error_entry s.height s.members p i
