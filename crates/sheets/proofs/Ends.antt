-- The end heights of a sheet of 64-bit entries. Each entry is at most the mark for none, so `if e < error` is the step of `best_of`
-- (`entry-less`, `entry-keep`). In a sheet that is whole the entries of a count stand one row apart, so the least of them, from the lowest
-- end height on, is `end_of` (`end_is`). Assumes nothing.
use Prim.Native.Nat.{ℕ, ◌+◌, ◌-◌, ◌*◌, ◌^◌, ◌≤◌, ◌<◌}
use mathlib.Core.Path.{◌≡◌, refl, sym, ap, ◌∙◌}
use mathlib.Core.List.{List}
use mathlib.Core.Option.{Option, none, some}
use native.Mathlib.Decide.{dec_lt}
use native.Mathlib.Nat.{add-mul}
use native.Mathlib.Omega.{arith}
use borrow.Author.Tests.{lt-ltb}
use Rattle.std.specs.Prelude.{Some, MatchOption}
use Rattle.std.specs.Prelude as rattle
use lib.ListN.{length, get_or, get_or-eq_default}
use Rattle.lists.specs.Best.{Best, nothing, found, value, better, best_of}
use Rattle.lists.proofs.Best.{best-same}
use Rattle.paper.specs.Layer.{tmax}
use Rattle.paper.specs.Sheets.{entry_index, missing}
use Rattle.plate.specs.Datum.{row_of}
use Rattle.plate.specs.Settings.{Sound}
use Rattle.plate.specs.declared.settings.Settings.{Settings}
use Rattle.sequence.specs.Sequence.{lowest_end}
use Rattle.sequence.specs.Sheets.{mark, unmark, entry, end_of}
use Rattle.sequence.proofs.Marks.{Small, unmark-small, mark-le, better-keep, best-small, best-more}
use Rattle.sheets.specs.Entries.{least_from, least_end}
use Rattle.sheets.specs.Least.{as_least, IsLeast}
use Rattle.sheets.specs.declared.Least.{Least}
use Rattle.sheets.proofs.Lists.{get_or-within, raised, best-raised}
use Rattle.sheets.proofs.Places.{place_in, entry_at}

module _ (errors : List ℕ) (wide : (i : ℕ) → get_or errors i 0 < 2 ^ 64) where
  entry-le : (i : ℕ) → get_or errors i missing ≤ missing
  entry-le i = go (dec_lt i (length errors))
    where
      go : Dec (i < length errors) → get_or errors i missing ≤ missing
      go (yes l) = rw (get_or-within errors i missing 0 l) (let b = wide i in omega arith)
      go (no l) = rw (get_or-eq_default errors missing {n = i} (omega arith)) (omega arith)

  pub entry-small : (i : ℕ) → Small (unmark (get_or errors i missing))
  entry-small i = unmark-small _ (entry-le i)

-- the better of the best so far and of an entry below it
took : (b : Best) (t : ℕ) (o : Option ℕ) → Small (value b) → mark o < mark (value b) → as_least (better b t o) ≡ Some (record { error = mark o; place = t })
took b t none s l = absurd (let u = mark-le (value b) s in omega arith)
took nothing t (some e) s l = refl
took (found e₀ t₀) t (some e) s l = simp (lt-ltb e e₀ l)

-- one entry more, which is e
module _ (f : ℕ → Option ℕ) (k e : ℕ) (small : (h : ℕ) → Small (f h)) (is : e ≡ mark (f k)) where
  one-more : best_of f 0 (k + 1) ≡ better (best_of f 0 k) k (f k)
  one-more = let z : 0 + k ≡ k = omega arith in rw z at (best-more f 0 k)

  sofar : Small (value (best_of f 0 k))
  sofar = best-small f 0 k (λ h u v. small h)

  pub entry-less : e < mark (value (best_of f 0 k)) → IsLeast (Some (record { error = e; place = k })) (best_of f 0 (k + 1))
  entry-less l = record { is = rw (is, one-more) (sym (took (best_of f 0 k) k (f k) sofar (omega arith))) }

  pub entry-keep : {least : rattle.Option Least} → IsLeast least (best_of f 0 k) → mark (value (best_of f 0 k)) ≤ e → IsLeast least (best_of f 0 (k + 1))
  entry-keep w l = record { is = rw (one-more, better-keep (best_of f 0 k) k (f k) (small k) (omega arith)) w.is }

-- what a loop compares with
pub error-or : {least : rattle.Option Least} {best : Best} {x : ℕ} → IsLeast least best → MatchOption least (x ≡ missing) (λ l. x ≡ l.error) → x ≡ mark (value best)
error-or {best = nothing} w m = rw w.is at m
error-or {best = found e t} w m = rw w.is at m

-- the end heights of a whole sheet
module _ (s : Settings) (sound : Sound s) (errors : List ℕ) (whole : s.entries ≤ length errors) (n : ℕ) (few : n ≤ s.counts) where
  abbrev first_end : ℕ
  first_end = s.height + s.tmax - 1

  abbrev ends : ℕ → Option ℕ
  ends h = unmark (entry s.height s.members errors n h)

  end-entry : (k : ℕ) → k < s.tmax → unmark (get_or errors (entry_index s.counts first_end n + k * (s.counts + 1)) missing) ≡ ends (lowest_end s.height + k)
  end-entry k l =
      let h = lowest_end s.height + k in
      let r : row_of s.tmax h ≡ first_end + k = omega (arith, sound.low) in
      let i : entry_index s.counts first_end n + k * (s.counts + 1) ≡ entry_index s.counts (row_of s.tmax h) n =
      omega (arith, add-mul first_end k (s.counts + 1)) ∙ ap (λ (q : ℕ). entry_index s.counts q n) (sym r) in
      let b = place_in s sound n h few (omega (arith, sound.low)) (omega arith) in
      ap unmark (ap (λ (j : ℕ). get_or errors j missing) i ∙ get_or-within errors _ missing 0 (omega arith) ∙ entry_at s sound errors n h)

  pub end_is : end_of s.height s.members errors n ≡ raised (lowest_end s.height) (least_end errors s.height s.tmax s.counts n)
  unfolding end_of least_from
  end_is =
      best-raised ends (lowest_end s.height) (tmax s.members)
      ∙ ap (raised (lowest_end s.height))
      (ap (best_of (λ k. ends (lowest_end s.height + k)) 0) (sym sound.greatest)
      ∙ sym (best-same _ (λ k. ends (lowest_end s.height + k)) 0 s.tmax (λ k a b. end-entry k (omega arith))))
