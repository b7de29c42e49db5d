-- Document 02 e), the reader of order files: 1, 2, 14, 3 for the list, and then the file's faults by record. The whole file is judged, also
-- behind the order asked for. Assumes nothing.
use Rattle.std.specs.Prelude.{ℕ, List, ◌++◌}
use Rattle.plate.specs.Call.{Call}
use Rattle.printed.specs.Records.{orders}
use Rattle.orders.specs.Lent.{lent_checks}
use Rattle.orders.specs.File.{file_checks, layers_in}
use Rattle.orders.specs.Order.{order_of, record_at}
use Rattle.orders.specs.declared.Order.{Order}

-- the order at a number
unfoldable pub order_in : ℕ → ℕ → List ℕ → List ℕ → ℕ → Order
order_in T step cures file number = order_of step (record_at (orders cures (layers_in T step cures file)) number)

-- THE CALL: it answers the order, and writes nothing
unfoldable pub reading_order : ℕ → ℕ → ℕ → List ℕ → List ℕ → ℕ → Call Order (Unit {0})
reading_order N T step cures file number = record {
  checks = lent_checks N T step cures ++ file_checks N T step cures file;
  value = order_in T step cures file number;
  writes = tt;
  held = tt;
}
