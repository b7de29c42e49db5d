-- What both calls are handed: 1 and 2 were asked by a function of their own, then 14, then 3 for the list. Assumes nothing.
use mathlib.Core.Path.{◌≡◌, refl, sym, ap, ◌∙◌}
use mathlib.Core.List.{List, [], ◌∷◌}
use mathlib.Core.Option.{none, some}
use Prim.Native.Nat.{ℕ, ◌≤◌, ◌<◌}
use native.Mathlib.Omega.{arith}
use borrow.Author.Tests.{lt-ltb, le-ltb, ltb-false}
use lib.Dec.{ltb}
use lib.ListN.{length}
use Rattle.lists.specs.Checks.{Check, first}
use Rattle.lists.proofs.Checks.{or-false, first-passed, first-stopped, first-none}
use Rattle.paper.specs.Layer.{tmax}
use Rattle.plate.specs.Refusal.{Numbered, numbered, check}
use Rattle.plate.specs.Settings.{settings_checks, Judges}
use Rattle.plate.specs.declared.refusal.Reason.TheVariants as reason
use Rattle.plate.specs.declared.refusal.Refusal.{Refusal}
use Rattle.plate.specs.declared.settings.Settings.{Settings}
use Rattle.plate.proofs.Calls.{judges-bad, judges-good, passed}
use Rattle.motor.specs.Height.{step_check}
use Rattle.motor.proofs.Heights.{step_in}
use Rattle.orders.specs.Lent.{lent_checks}
use Rattle.std.specs.Prelude.{Ok, Err}

module _ (N T step : ℕ) (cures : List ℕ) where
  abbrev list_check : Check Numbered
  list_check = check 3 (ltb (length cures) (tmax T)) 1

  abbrev asked : List (Check Numbered)
  asked = lent_checks N T step cures

  pub unsettled : (r : Numbered) → some r ≡ first (settings_checks N T) → some r ≡ first asked
  unfolding lent_checks
  unsettled r e = sym (first-stopped (settings_checks N T) (step_check step ∷ list_check ∷ []) r (sym e))

  module _ {s : Settings} (j : Judges (Ok s) (settings_checks N T) N T) where
    -- behind the settings' checks
    behind : first (step_check step ∷ list_check ∷ []) ≡ first asked
    unfolding lent_checks
    behind = passed j (step_check step ∷ list_check ∷ []) s refl

    pub unstepped : (r : Numbered) → some r ≡ first (step_check step ∷ []) → some r ≡ first asked
    unstepped r q = sym (first-stopped (step_check step ∷ []) (list_check ∷ []) r (sym q)) ∙ behind

    module _ (q : none ≡ first (step_check step ∷ [])) where
      listed : first (list_check ∷ []) ≡ first asked
      listed = sym (first-passed (step_check step ∷ []) (list_check ∷ []) (sym q)) ∙ behind

      widest : s.tmax ≡ tmax T
      widest = ap (λ (x : Settings). x.tmax) (j.good s refl).0

      pub unlisted : (r : Refusal) → r ≡ record { reason = reason.ShortBuffer; place = 1 } → length cures < s.tmax → Judges (Err r) asked N T
      unlisted r is l =
          let short : some (record { number = 3; place = 1 }) ≡ first (list_check ∷ []) = simp (lt-ltb (length cures) (tmax T) (omega (arith, widest))) in
          judges-bad asked N T (Err r) r refl (ap (λ (x : Refusal). some (numbered x)) is ∙ short ∙ listed)

      pub lent : s.tmax ≤ length cures → Judges (Ok s) asked N T
      lent l =
          let long : none ≡ first (list_check ∷ []) = simp (le-ltb (length cures) (tmax T) (omega (arith, widest))) in
          judges-good asked N T (Ok s) s refl (j.good s refl) (long ∙ listed)

-- where they pass, the plate is low, and the step in range
module _ (N T step : ℕ) (cures : List ℕ) (e : none ≡ first (lent_checks N T step cures)) where
  pub low-plate : N ≤ 512
  unfolding lent_checks settings_checks
  low-plate = ltb-false 512 N (or-false (ltb N 1) (ltb 512 N) ((first-none (lent_checks N T step cures)).0 (sym e)).0).1

  pub stepped : step ≤ 8192
  unfolding lent_checks settings_checks
  stepped =
      let q = (first-none (lent_checks N T step cures)).0 (sym e) in
      (step_in step (sym ((first-none (step_check step ∷ [])).1 (q.1.1.0, tt)))).1
