-- A call that is refused leaves what it was lent as it was: on a refusal the promise of every call says so. Assumes nothing.
use mathlib.Core.Path.{◌≡◌, sym, ap, ◌∙◌}
use mathlib.Core.List.{List}
use Prim.Native.Nat.{ℕ}
use Rattle.plate.specs.Call.{Call, Does}
use Rattle.plate.specs.Refusal.{Told, after}

module _ {X : Type 0} where
  pub leaves : (call : Call X (List ℕ)) (answer : Told X) (now : List ℕ) → Does call answer now
      → ((written held : List ℕ) → after answer written held ≡ held) → now ≡ call.held
  leaves call answer now d k = d.leaves ∙ ap (λ (t : Told X). after t call.writes call.held) (sym d.tells) ∙ k call.writes call.held
