-- The ways out of writing: for each check that holds its refusal, and the file where none does. What was lent passes, so the settings do, and what a
-- sequence is refused by behind them is 13. Assumes nothing.
use mathlib.Core.Path.{◌≡◌, refl, sym, ◌∙◌}
use lib.Dec.{eqb}
use Rattle.lists.specs.Search.{lowest}
use Rattle.printed.specs.Possible.{cure_of}
use mathlib.Core.List.{List, ◌++◌}
use mathlib.Core.Option.{none, some}
use Prim.Native.Nat.{ℕ, ◌+◌, ◌≤◌, ◌<◌}
use borrow.Author.Tests.{lt-ltb, le-ltb}
use lib.IntN.{ℤ}
use lib.ListN.{length}
use Rattle.lists.specs.Checks.{Check, first}
use Rattle.lists.proofs.Checks.{first-passed, first-stopped, first-none}
use Rattle.paper.specs.Sequence.{count, thickness}
use Rattle.plate.specs.Call.{Does}
use Rattle.plate.specs.Refusal.{Told, refusal, Numbered, numbered}
use Rattle.plate.specs.Settings.{settings_checks}
use Rattle.plate.specs.declared.refusal.Refusal.{Refusal}
use Rattle.plate.proofs.Calls.{refuses, does-behind}
use Rattle.recount.specs.Recount.{unbounded_checks}
use Rattle.orders.specs.Lent.{lent_checks}
use Rattle.orders.specs.Written.{file_size}
use Rattle.orders.specs.Writing.{first_uncured, file_wanted, filing, writing_orders}

-- ---- 18, and 3 for the output

module _ (step : ℕ) (cures : List ℕ) (zs : List ℤ) (out : List ℕ) where
  pub uncured-is : lowest (λ k. eqb (cure_of cures (thickness zs k)) 0) (count zs) ≡ first_uncured cures zs
  unfolding first_uncured
  uncured-is = refl

  pub uncured-stop : first_uncured cures zs < count zs → some (record { number = 18; place = first_uncured cures zs + 1 }) ≡ first (filing step cures zs out).checks
  unfolding filing file_wanted
  uncured-stop l = simp (lt-ltb (first_uncured cures zs) (count zs) l)

  module _ (cured : count zs ≤ first_uncured cures zs) where
    pub output-stop : length out < file_size (count zs) → some (record { number = 3; place = 2 }) ≡ first (filing step cures zs out).checks
    unfolding filing file_wanted
    output-stop l = simp (le-ltb (first_uncured cures zs) (count zs) cured, lt-ltb (length out) (file_size (count zs)) l)

    pub all_pass : file_size (count zs) ≤ length out → none ≡ first (filing step cures zs out).checks
    unfolding filing file_wanted
    all_pass l = simp (le-ltb (first_uncured cures zs) (count zs) cured, le-ltb (length out) (file_size (count zs)) l)

-- ---- 1, 2, 14, 3 for the list, 13

module _ (N T step : ℕ) (cures : List ℕ) (zs : List ℤ) (out : List ℕ) where
  abbrev lent : List (Check Numbered)
  lent = lent_checks N T step cures

  abbrev judged : List (Check Numbered)
  judged = unbounded_checks N T zs

  abbrev wanted : List (Check Numbered)
  wanted = file_wanted cures zs (length out)

  stops : (r : Refusal) → some (numbered r) ≡ first (lent ++ judged) → Does (writing_orders N T step cures zs out) (refusal r) out
  unfolding writing_orders filing
  stops r e = refuses (writing_orders N T step cures zs out) r (sym (first-stopped (lent ++ judged) wanted (numbered r) (sym e)))

  pub unlent : (r : Refusal) → some (numbered r) ≡ first lent → Does (writing_orders N T step cures zs out) (refusal r) out
  unlent r e = stops r (sym (first-stopped lent judged (numbered r) (sym e)))

  module _ (passes : none ≡ first lent) where
    settled : first (settings_checks N T) ≡ none
    unfolding lent_checks settings_checks
    settled = let q = (first-none lent).0 (sym passes) in (first-none (settings_checks N T)).1 (q.0, (q.1.0, tt))

    pub unordered : (r : Refusal) → some (numbered r) ≡ first (settings_checks N T ++ judged) → Does (writing_orders N T step cures zs out) (refusal r) out
    unordered r e = stops r (e ∙ first-passed (settings_checks N T) judged settled ∙ sym (first-passed lent judged (sym passes)))

    module _ (climbs : none ≡ first (settings_checks N T ++ judged)) where
      pub sequence-passes : none ≡ first judged
      sequence-passes = climbs ∙ first-passed (settings_checks N T) judged settled

      pub filed : {answer : Told ℕ} {now : List ℕ} → Does (filing step cures zs out) answer now → Does (writing_orders N T step cures zs out) answer now
      unfolding writing_orders
      filed d = does-behind (filing step cures zs out) (lent ++ judged) (first-passed lent judged (sym passes) ∙ sym sequence-passes) d
