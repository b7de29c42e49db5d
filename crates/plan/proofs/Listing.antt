-- What is read from an error sheet that a plan filled: its entries at the end heights are the leasts there, so the best of them is the top of
-- the chosen sequence, and its error is the least of that count. Assumes nothing.
use Prim.Native.Nat.{ℕ, ◌≤◌}
use mathlib.Core.Path.{◌≡◌, sym, ap, ◌∙◌}
use mathlib.Core.List.{List}
use native.Mathlib.Omega.{arith}
use lib.ListN.{length}
use Rattle.lists.specs.Best.{value}
use Rattle.lists.proofs.Best.{best-same}
use Rattle.lists.proofs.Rewrite.{length-rewritten, rewritten-at}
use Rattle.paper.specs.Layer.{tmax}
use Rattle.paper.specs.Sheets.{entries}
use Rattle.plate.specs.declared.settings.Settings.{Settings}
use Rattle.sequence.specs.Sequence.{Rules, lowest_end}
use Rattle.sequence.specs.Least.{least, top, least_of}
use Rattle.sequence.specs.Sheets.{mark, unmark, error_entry, entry, end_of}
use Rattle.sequence.proofs.Marks.{unmark-mark}
use Rattle.sequence.proofs.Sheets.{entry-is}
use Rattle.sheets.specs.Entries.{least_end}
use Rattle.sheets.proofs.Ends.{end_is}
use Rattle.sheets.proofs.Lists.{raised-value}
use Rattle.sheets.proofs.Places.{entries-is}
use Rattle.plan.specs.Planning.{Ready, plan_rules, table_rules, planned_errors}
use Rattle.plan.specs.Rows.{Planned}
use Rattle.plan.proofs.Sums.{least-small}

module _ (s : Settings) (bound : ℕ) (table : List ℕ) (ready : Ready s table) where
  abbrev p : Rules
  p = table_rules s bound table

  -- the sheet that a plan leaves is one
  pub planned-is : (old errors : List ℕ) → s.entries ≤ length old → errors ≡ planned_errors s.height s.members p old → Planned s p errors
  unfolding planned_errors
  planned-is old errors l e = record {
    whole = omega (arith, ap length e, length-rewritten (λ i x. error_entry s.height s.members p i) (entries s.height s.members) old);
    entries-are =
        λ i u.
        rw e
        (rewritten-at (λ j x. error_entry s.height s.members p j) (entries s.height s.members) old i 0 (omega (arith, entries-is s ready.sound)) (omega arith));
  }

  module _ (errors : List ℕ) (planned : Planned s p errors) where
    -- the best of the end heights is the top of the chosen sequence
    top-is : (n : ℕ) → n ≤ s.counts → end_of s.height s.members errors n ≡ top p n
    unfolding end_of top plan_rules error_entry
    top-is n l =
        best-same (λ h. unmark (entry s.height s.members errors n h)) (λ h. least p n h) (lowest_end s.height) (tmax s.members)
        (λ h a b.
        ap unmark
        (entry-is s.height s.members errors (λ m g. mark (least p m g)) ready.sound.low (λ i u. planned.entries-are i (omega (arith, entries-is s ready.sound))) n h (omega (arith, ready.sound.counts-are)) (omega (arith, ready.sound.low)) b)
        ∙ unmark-mark (least p n h) (least-small s bound table ready n h l))

    -- so the least entry that is found there is the least error
    pub listed : (n : ℕ) → n ≤ s.counts → mark (value (least_end errors s.height s.tmax s.counts n)) ≡ mark (least_of p n)
    unfolding least_of
    listed n l =
        ap mark
        (sym (raised-value (lowest_end s.height) (least_end errors s.height s.tmax s.counts n))
        ∙ ap value (sym (end_is s ready.sound errors planned.whole n l) ∙ top-is n l))
