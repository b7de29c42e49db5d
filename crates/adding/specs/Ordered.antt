-- Adding in two steps: what is asked before the cells are looked at, 1, 2, 3, 7, 4, 5; and, where that is in order, 6 and what is written. The
-- checks of both are the call's, in its order. Assumes nothing.
use Rattle.std.specs.Prelude.{ℕ, List, [], ◌∷◌, ◌++◌}
use Rattle.lists.specs.Checks.{Check}
use Rattle.paper.specs.Layer.{Column}
use Rattle.plate.specs.Refusal.{Numbered, check}
use Rattle.plate.specs.Call.{Call}
use Rattle.plate.specs.Head.{Held, more, is_full, head_checks}
use Rattle.plate.specs.declared.head.Head.{Head}
use Rattle.column.specs.Order.{column_checks}
use Rattle.table.specs.Table.{short}
use Rattle.adding.specs.Adding.{overfull_cell, added}

-- 3, 7, 4, 5
unfoldable pub order_rest : Held → Column → List (Check Numbered)
order_rest held column = short held 1 ∷ check 7 (is_full held.head) 0 ∷ column_checks held.head.height column.boundaries

-- 1, 2, 3, 7, 4, 5
unfoldable pub order_checks : Held → Column → List (Check Numbered)
order_checks held column = head_checks held.head ++ order_rest held column

-- 6, and the cells
unfoldable pub adding_ordered : Held → Column → Call Head (List ℕ)
adding_ordered held column = record {
  checks = overfull_cell held column ∷ [];
  value = more held.head;
  writes = added held column;
  held = held.buffer;
}
