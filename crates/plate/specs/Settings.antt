-- The settings as the calls make them from a height and a thickness set: refusals 1 and 2, or the sizes that follow. Assumes nothing.
use Rattle.std.specs.Prelude.{ℕ, ◌+◌, ◌-◌, ◌*◌, ◌≤◌, ◌≡◌, Bool, ◌||◌, List, [], ◌∷◌, ltb, eqb, Result, Ok}
use Rattle.lists.specs.Checks.{Check, first}
use Rattle.paper.specs.Limits.{least_height, greatest_height, most_thickness}
use Rattle.paper.specs.Layer.{tmin, tmax}
use Rattle.paper.specs.Table.{rows, cells}
use Rattle.paper.specs.Sequence.{M}
use Rattle.paper.specs.Sheets.{entries}
use Rattle.plate.specs.Refusal.{Numbered, check, said_by}
use Rattle.plate.specs.declared.settings.Settings.{Settings}
use Rattle.plate.specs.declared.refusal.Refusal.{Refusal}

-- x is not from lo to hi
abbrev pub outside : ℕ → ℕ → ℕ → Bool
outside lo hi x = ltb x lo || ltb hi x

-- 1: N outside 1 to 512; 2: T empty
unfoldable pub settings_checks : ℕ → ℕ → List (Check Numbered)
settings_checks N T = check 1 (outside least_height greatest_height N) 0 ∷ check 2 (eqb T 0) 0 ∷ []

abbrev pub settings_of : ℕ → ℕ → Settings
settings_of N T = record {
  height = N;
  members = T;
  tmin = tmin T;
  tmax = tmax T;
  rows = rows N T;
  cells = cells N T;
  counts = M N T;
  entries = entries N T;
}

-- the most cells of a table, counts of a plan and entries of a sheet that settings can have
abbrev pub most_cells : ℕ
most_cells = 18_368

abbrev pub most_counts : ℕ
most_counts = 512

abbrev pub most_entries : ℕ
most_entries = 294_975

-- what is known of settings that were made: the numbers behind every index and every size
pub record Sound (s : Settings) : Type 0 where
  pub low : least_height ≤ s.height
  pub high : s.height ≤ greatest_height
  pub thin : 1 ≤ s.tmin
  pub order : s.tmin ≤ s.tmax
  pub thick : s.tmax ≤ most_thickness
  pub least : s.tmin ≡ tmin s.members
  pub greatest : s.tmax ≡ tmax s.members
  pub rows_are : s.rows ≡ s.height + 2 * s.tmax - 2
  pub cells_are : s.cells ≡ s.rows * s.tmax
  pub few-cells : s.cells ≤ most_cells
  pub counts-are : s.counts ≡ M s.height s.members
  pub few-counts : s.counts ≤ most_counts
  pub entries-are : s.entries ≡ (s.rows + 1) * (s.counts + 1)
  pub few-entries : s.entries ≤ most_entries

-- THE PROMISE of every function that asks the checks of a call: what the first of them that holds says, or, where none does, the settings
-- of N and T
pub record Judges (made : Result Settings Refusal) (checks : List (Check Numbered)) (N T : ℕ) : Type 0 where
  pub says : said_by made ≡ first checks
  pub good : (s : Settings) → made ≡ Ok s → (s ≡ settings_of N T) × Sound s
