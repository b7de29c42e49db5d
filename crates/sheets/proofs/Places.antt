-- Where a sheet of sound settings has the entry of a height and a count: the sizes that the settings hold are document 01's, so the place
-- that the code computes is that of `entry`, and it is in a sheet that is whole. Assumes nothing.
use Prim.Native.Nat.{ℕ, ◌+◌, ◌-◌, ◌*◌, ◌≤◌, ◌<◌}
use mathlib.Core.Path.{◌≡◌, ap, ◌∙◌}
use mathlib.Core.List.{List}
use native.Mathlib.Omega.{arith}
use lib.Arith.{digits_lt}
use lib.ListN.{get_or}
use Rattle.paper.specs.Layer.{tmax}
use Rattle.paper.specs.Sheets.{heights, entries, entry_index}
use Rattle.plate.specs.Datum.{row_of, at_row}
use Rattle.plate.specs.Settings.{Sound}
use Rattle.plate.specs.declared.settings.Settings.{Settings}
use Rattle.sequence.specs.Sequence.{lowest_end}
use Rattle.sequence.specs.Sheets.{entry}

module _ (s : Settings) (sound : Sound s) where
  pub entries-is : s.entries ≡ entries s.height s.members
  unfolding entries heights
  entries-is =
      let e : s.rows + 1 ≡ s.height + 2 * tmax s.members - 1 =
      omega (arith, sound.rows_are, sound.greatest, sound.low, sound.thin, sound.order) in
      sound.entries-are ∙ rw (e, sound.counts-are)

  pub row_in : (q m : ℕ) → q ≤ s.rows → m ≤ s.counts → entry_index s.counts q m < s.entries
  row_in q m l u = rw sound.entries-are (digits_lt (omega arith) (omega arith))

  pub place_in : (m h : ℕ) → m ≤ s.counts → 32 < h + s.tmax → h < lowest_end s.height + s.tmax → entry_index s.counts (row_of s.tmax h) m < s.entries
  place_in m h l a b = row_in (row_of s.tmax h) m (omega (arith, sound.rows_are, sound.low, sound.thin, sound.order)) l

  pub entry_at : (sheet : List ℕ) (m h : ℕ) → get_or sheet (entry_index s.counts (row_of s.tmax h) m) 0 ≡ entry s.height s.members sheet m h
  unfolding entry
  entry_at sheet m h = rw (sound.greatest, sound.counts-are)

  -- where a row and a count have their entry
  pub entry_row : (sheet : List ℕ) (m q : ℕ) → get_or sheet (entry_index s.counts q m) 0 ≡ entry s.height s.members sheet m (at_row s.tmax q)
  entry_row sheet m q =
      let e : q ≡ row_of s.tmax (at_row s.tmax q) = omega (arith, sound.thick) in
      ap (λ (r : ℕ). get_or sheet (entry_index s.counts r m) 0) e ∙ entry_at sheet m (at_row s.tmax q)
