-- `read_layer` meets its contract: the lift's verdict, and behind it the cure time's. Assumes nothing.
use Rattle.std.proofs.Common.{◌≡◌, sym, ap, subst, ◌∙◌, ℕ, List}
use mathlib.Core.Option.{some, Option}
use Rattle.lists.specs.Checks.{Check, first}
use Rattle.plate.specs.Refusal.{Numbered, numbered}
use Rattle.plate.specs.declared.refusal.Refusal.{Refusal}
use Rattle.plate.proofs.Calls.{handed-is}
use Rattle.orders.specs.File.{thickness_at, lift_checks, cure_checks, layer_checks}
use Rattle.orders.specs.Parts.{Looked}
use Rattle.orders.specs.declared.Stack.{Stack}
use Rattle.orders.proofs.Judged.{layer-stopped, layer-behind}
use Rattle.orders.proofs.Setup.read_layer.Goals as goal
use Rattle.std.specs.Prelude.{Result, Ok, IsErrAnd}

-- a refusal that is handed on says what the checks do
refused-on : (result : Result ℕ Refusal) (r : Refusal) → IsErrAnd result (λ e. e ≡ r) → (checks : List (Check Numbered)) (t : ℕ) (read : Stack) (step : ℕ)
    → some (numbered r) ≡ first checks → Looked result checks t read step
refused-on result r handed checks t read step e = subst (λ (l : Result ℕ Refusal). Looked l checks t read step) (sym (handed-is result r handed)) e

-- what the cure time's checks say behind the lift's is said of the layer
behind : (N T step : ℕ) (cures file : List ℕ) (read : Stack) (t : ℕ) → Looked (Ok t) (lift_checks N T step cures file read) (thickness_at T step cures file read) read step
    → (o : Option Numbered) → o ≡ first (cure_checks cures file read.layers t) → o ≡ first (layer_checks N T step cures file read)
behind N T step cures file read t l o e = layer-behind N T step cures file read l.0 o (e ∙ ap (λ (n : ℕ). first (cure_checks cures file read.layers n)) l.1)

pub returns-in_err-t : goal.returns-in_err-t
returns-in_err-t c = refused-on _ _ c.from_residual.ensures.1 _ _ _ _ (layer-stopped _ _ _ _ _ _ _ c.in_err-t.ensures)

pub returns-in_err-check_cure : goal.returns-in_err-check_cure
returns-in_err-check_cure c =
    refused-on _ _ c.from_residual-in_err-check_cure.ensures.1 _ _ _ _ (behind _ _ _ _ _ _ _ c.in_ok-t.ensures _ c.in_err-check_cure.ensures)

pub returns : goal.returns
returns c = let l = c.in_ok-t.ensures in (behind _ _ _ _ _ _ _ c.in_ok-t.ensures _ c.in_ok-check_cure.ensures, l.1, l.2, l.3, l.4)
