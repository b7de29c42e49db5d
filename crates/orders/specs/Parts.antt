-- What the parts of writing and reading say to each other: what is known of a sequence that passed 13, of the layers that were read, and what a
-- look at the next layer tells. Assumes nothing.
use Rattle.std.specs.Prelude.{ℕ, suc, ◌+◌, ◌*◌, ◌≤◌, ◌<◌, ◌≡◌, cond, List, eqb, ℤ, length}
use Rattle.std.proofs.Math.Option.{none, some}
use Rattle.lists.specs.Checks.{Check, first}
use Rattle.paper.specs.Limits.{most_thickness}
use Rattle.paper.specs.Sequence.{◌!◌, count}
use Rattle.plate.specs.Datum.{datum}
use Rattle.plate.specs.Refusal.{Numbered, numbered}
use Rattle.orders.specs.File.{grown}
use Rattle.orders.specs.declared.Order.{Order}
use Rattle.orders.specs.declared.Order.TheVariants as order
use Rattle.orders.specs.declared.Printed.{Printed}
use Rattle.orders.specs.declared.Stack.{Stack}
use Rattle.plate.specs.declared.refusal.Refusal.{Refusal}
use Rattle.std.specs.Prelude.{Result, Ok, Err, Option, MatchOption}

-- no layers are higher together: N + 2·tmax - 2 at most
abbrev pub most_rise : ℕ
most_rise = 574

-- boundaries that rise, over the datum, and no higher than the layers of a file
pub record Climbs (zs : List ℤ) : Type 0 where
  pub layered : 2 ≤ length zs
  pub rises : (k : ℕ) → k < count zs → datum (zs ! k) < datum (zs ! suc k)
  pub within : (k : ℕ) → k ≤ count zs → (1 ≤ datum (zs ! k)) × (datum (zs ! k) ≤ 600)

-- layers that passed, and the step
pub record Standing (step : ℕ) (read : Stack) : Type 0 where
  pub steps : step ≤ 8192
  pub low : read.rise ≤ most_rise
  pub few : read.layers ≤ read.rise
  pub thin : read.first ≤ most_thickness
  pub empty : read.layers ≡ 0 → read.rise ≡ 0

-- what a look at the next layer tells: its thickness, where these checks pass, or what the first of them that holds says
abbrev pub Looked : Result ℕ Refusal → List (Check Numbered) → ℕ → Stack → ℕ → Type 0
Looked (Ok x) checks t read step = (none ≡ first checks) × (x ≡ t) × (1 ≤ x) × (x ≤ most_thickness) × Standing step (grown read x)
Looked (Err r) checks t read step = some (numbered r) ≡ first checks

-- what a search by the thickness less one, below tmax, answers as a thickness
abbrev pub IsThickness : Option ℕ → ℕ → ℕ → Type 0
IsThickness answer found tmax = MatchOption answer (found ≡ tmax) (λ t. (t ≡ found + 1) × (found < tmax))

-- the order at a number, after a layer more: one of its two, or what was known of it before
abbrev pub picked : Order → ℕ → ℕ → Printed → Order
picked before number layers layer =
    cond (eqb number (2 * layers)) (order.Lift layer.height)
    (cond (eqb number (2 * layers + 1)) (order.Cure layer.cure)
    before)
