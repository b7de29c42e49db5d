-- `fill` meets its contract: no column was added before the first record, each column that is read is added, and at the end all were. Assumes nothing.
use Rattle.std.proofs.Common.{arith}
use Rattle.load.proofs.Heeding.{read-sane, heeded-as, ahead}
use Rattle.load.proofs.Filling.{none-added, addable, filled, all-filled, never}
use Rattle.load.proofs.fill.Goals as goal

pub loop-table-init : goal.loop-table-init
loop-table-init c = rw (c.new-state.ensures, c.new-cursor.ensures) (none-added _ _ _ c.requires)

pub heed_of-requires : goal.heed_of-requires
heed_of-requires c = read-sane _ _ _ _ c.read-step.ensures

pub returns-in-Err : goal.returns-in-Err
returns-in-Err c = absurd (never _ _ _ c.requires c.loop-table.invariant _ c.read-step.ensures _ c.in-Err.ensures)

pub returns-in-Ok-Ended : goal.returns-in-Ok-Ended
returns-in-Ok-Ended c =
    all-filled _ _ _ c.requires c.loop-table.invariant _ c.read-step.ensures (heeded-as _ _ _ _ _ c.in-Ok-Ended.field-0-is c.in-Ok-Ended.ensures)

pub add_read-requires : goal.add_read-requires
add_read-requires c = addable _ _ _ c.requires c.loop-table.invariant _ c.read-step.ensures

pub loop-table-smaller : goal.loop-table-smaller
loop-table-smaller c =
    omega (arith, ahead _ _ c.loop-table.invariant.reached _ c.read-step.ensures (heeded-as _ _ _ _ _ c.in-Ok-Onward.field-0-is c.in-Ok-Onward.ensures))

pub loop-table-preserved : goal.loop-table-preserved
loop-table-preserved c =
    filled _ _ _ c.requires c.loop-table.invariant _ c.read-step.ensures (heeded-as _ _ _ _ _ c.in-Ok-Onward.field-0-is c.in-Ok-Onward.ensures) _ c.add_read.ensures
