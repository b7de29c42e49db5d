-- `start_rows` meets its contract: a row after the rows before it (`Invariants.antt`). Assumes nothing.
use Rattle.std.proofs.Common.{arith}
use native.Mathlib.Nat.{mul-le-mul_right}
use Rattle.lists.proofs.Spans.{span_none, span-row, span-end}
use Rattle.paper.specs.Sheets.{row_start}
use Rattle.plan.specs.Rows.{least_at}
use Rattle.plan.proofs.Work.start_rows.Goals as goal

pub loop-q-init : goal.loop-q-init
loop-q-init c = span-end (row_start c.args.self.now.settings.counts 0) (span_none 0 _ _) (omega arith) (omega arith)

pub loop-q-preserved : goal.loop-q-preserved
loop-q-preserved c = span-row (least_at c.args.self.now.settings _) c.loop-q.q c.loop-q.invariant c.start_row.ensures

pub returns : goal.returns
returns c = span-end _ c.loop-q.invariant (mul-le-mul_right _ (omega arith)) (mul-le-mul_right _ (omega arith))
