-- The end that is found: there is none exactly where no end height has an entry, and else its place is that of the lowest end height that has
-- the least one. Assumes nothing.
use Prim.Native.Nat.{ℕ, ◌+◌, ◌-◌, ◌≤◌, ◌<◌}
use mathlib.Core.Path.{◌≡◌, refl, ◌∙◌}
use mathlib.Core.Bool.{true, false}
use mathlib.Core.List.{List}
use native.Mathlib.Omega.{arith}
use lib.ListN.{length}
use Rattle.std.specs.Prelude.{Some, None}
use Rattle.lists.specs.Best.{Best, nothing, found, value, place, best_of}
use Rattle.lists.proofs.Best.{best-in}
use Rattle.paper.specs.Layer.{tmax}
use Rattle.plate.specs.Datum.{at_row}
use Rattle.plate.specs.Settings.{Sound}
use Rattle.plate.specs.declared.settings.Settings.{Settings}
use Rattle.sequence.specs.Sequence.{lowest_end}
use Rattle.sequence.specs.Sheets.{mark, unmark, entry, end_of}
use Rattle.sheets.specs.Entries.{least_end}
use Rattle.sheets.specs.Least.{IsLeast}
use Rattle.sheets.specs.declared.Least.{Least}
use Rattle.sheets.proofs.Ends.{end_is}
use Rattle.sheets.proofs.Lists.{raised}
use Rattle.readback.specs.Reading.{is_nothing}

-- the height that was found is an end height
end-height : (N T : ℕ) (errors : List ℕ) (n : ℕ) → is_nothing (end_of N T errors n) ≡ false
    → (lowest_end N ≤ place (end_of N T errors n)) × (place (end_of N T errors n) < lowest_end N + tmax T)
unfolding end_of
end-height N T errors n q = go (end_of N T errors n) refl q
  where
    go : (b : Best) → best_of (λ h. unmark (entry N T errors n h)) (lowest_end N) (tmax T) ≡ b → is_nothing b ≡ false
        → (lowest_end N ≤ place b) × (place b < lowest_end N + tmax T)
    go nothing e q = let z : ◌≡◌ {A = ℕ} 0 1 = cc in absurd (omega arith)
    go (found x h) e q = let i = best-in (λ h. unmark (entry N T errors n h)) (lowest_end N) (tmax T) x h e in (i.0, i.1)

module _ (s : Settings) (sound : Sound s) (errors : List ℕ) (whole : s.entries ≤ length errors) (n : ℕ) (few : n ≤ s.counts) where
  abbrev end : Best
  end = end_of s.height s.members errors n

  abbrev best : Best
  best = least_end errors s.height s.tmax s.counts n

  same : end ≡ raised (lowest_end s.height) best
  same = end_is s sound errors whole n few

  -- 11, where nothing was found
  pub without-end : IsLeast None best → is_nothing end ≡ true
  without-end w = rw same (go best w)
    where
      go : (b : Best) → IsLeast None b → is_nothing (raised (lowest_end s.height) b) ≡ true
      go nothing w = refl
      go (found e h) w = cc w.is

  module _ (least : Least) (w : IsLeast (Some least) best) where
    end-found : end ≡ found least.error (lowest_end s.height + least.place)
    end-found = same ∙ go best w
      where
        go : (b : Best) → IsLeast (Some least) b → raised (lowest_end s.height) b ≡ found least.error (lowest_end s.height + least.place)
        go nothing w = cc w.is
        go (found e h) w = cc w.is

    pub with-end : is_nothing end ≡ false
    with-end = rw end-found refl

    pub error-is : least.error ≡ mark (value end)
    error-is = rw end-found refl

    top-is : lowest_end s.height + least.place ≡ place end
    top-is = rw end-found refl

    -- the height that was found is that of one of the last tmax rows
    pub top-low : least.place < s.tmax
    top-low = omega (arith, top-is, (end-height s.height s.members errors n with-end).1, sound.greatest)

    pub top-row : at_row s.tmax (s.height + s.tmax - 1 + least.place) ≡ place end
    top-row = let e : at_row s.tmax (s.height + s.tmax - 1 + least.place) ≡ lowest_end s.height + least.place = omega (arith, sound.low, sound.thick) in e ∙ top-is
