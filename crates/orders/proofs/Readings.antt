-- The ways out of reading: what was lent is refused, or the file's verdict is the call's. Assumes nothing.
use mathlib.Core.Path.{◌≡◌, refl, sym, ◌∙◌, subst}
use mathlib.Core.List.{List}
use mathlib.Core.Option.{none, some}
use Prim.Native.Nat.{ℕ}
use Rattle.lists.specs.Checks.{first}
use Rattle.lists.proofs.Checks.{first-stopped}
use Rattle.plate.specs.Call.{Does}
use Rattle.plate.specs.Refusal.{Told, refusal, numbered, decided}
use Rattle.plate.specs.Settings.{settings_of}
use Rattle.plate.specs.declared.refusal.Refusal.{Refusal}
use Rattle.plate.specs.declared.settings.Settings.{Settings}
use Rattle.plate.proofs.Calls.{refuses}
use Rattle.plate.proofs.Decided.{decided-passed}
use Rattle.orders.specs.Lent.{lent_checks}
use Rattle.orders.specs.File.{file_checks}
use Rattle.orders.specs.Reading.{order_in, reading_order}
use Rattle.orders.specs.declared.Order.{Order}

module _ (N T step : ℕ) (cures file : List ℕ) (number : ℕ) where
  pub unlent : (r : Refusal) → some (numbered r) ≡ first (lent_checks N T step cures) → Does (reading_order N T step cures file number) (refusal r) tt
  unfolding reading_order
  unlent r e =
      refuses (reading_order N T step cures file number) r (sym (first-stopped (lent_checks N T step cures) (file_checks N T step cures file) (numbered r) (sym e)))

  -- what was lent passes, and these are its settings
  pub read_of : none ≡ first (lent_checks N T step cures) → (s : Settings) → s ≡ settings_of N T → (answer : Told Order)
      → answer ≡ decided (file_checks s.height s.members step cures file) (order_in s.members step cures file number) → Does (reading_order N T step cures file number) answer tt
  unfolding reading_order
  read_of passes s is answer e =
      let f = subst (λ (s : Settings). answer ≡ decided (file_checks s.height s.members step cures file) (order_in s.members step cures file number)) is e in
      record { tells = f ∙ sym (decided-passed (lent_checks N T step cures) (file_checks N T step cures file) (order_in T step cures file number) (sym passes)); leaves = refl }
