-- Document 02 e), 'Orders are: lift to a height, cure for a time, or finish after a number of layers', and 'the order at a number from 0 (past the
-- last, the finish)'. Assumes nothing.
use Rattle.std.specs.Prelude.{ℕ, zero, suc, List, [], ◌∷◌}
use Rattle.printed.specs.Records.{Record, lift, cure, finish}
use Rattle.orders.specs.Layer.{micrometres, seconds}
use Rattle.orders.specs.declared.Order.{Order}
use Rattle.orders.specs.declared.Order.TheVariants as order

-- an order as it is handed out
abbrev pub order_of : ℕ → Record → Order
order_of step (lift x) = order.Lift (micrometres step x)
order_of step (cure c) = order.Cure (seconds c)
order_of step (finish n) = order.Finish n

-- the order at a number from 0; past the last it is the last
unfoldable pub record_at : List Record → ℕ → Record
record_at [] i = finish 0
record_at (r ∷ []) i = r
record_at (r ∷ (q ∷ rs)) zero = r
record_at (r ∷ (q ∷ rs)) (suc i) = record_at (q ∷ rs) i
