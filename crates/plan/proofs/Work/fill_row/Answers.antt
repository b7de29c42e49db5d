-- `fill_row` meets its contract: a row that was cleared is that by no layer, since above 0 no sequence starts, and so that by all thinner than tmin. Then
-- thickness after thickness (`Invariants.antt`). Assumes nothing.
use Rattle.std.proofs.Common.{◌+◌, ◌-◌, arith}
use Rattle.plan.specs.Rows.{RowTo}
use Rattle.plan.specs.Working.{rules_of}
use Rattle.plan.proofs.Rows.{row-high, row-begun, row-thin, row-self, row-again, row_as, under-row}
use Rattle.plan.proofs.Work.fill_row.Goals as goal
use Rattle.plan.proofs.Work.fill_row.Goals.{After-clear_errors}

-- past the clearing
begun : (c : After-clear_errors) → RowTo c.args.self.now.settings (rules_of c.args.self.now) c.args.q 0 (c.args.self.now.settings.counts + 1) c.args.errors.now c.args.thicknesses.now
    c.clear_errors.new.errors c.args.thicknesses.now
begun c =
    let w = c.args.self.now in
    row-begun w.settings w.bound w.table.now w.ready
    (row-high w.settings w.bound w.table.now w.ready c.args.q c.clear_errors.ensures c.requires.tmax_le_q.0) c.requires.span

pub loop-t-init : goal.loop-t-init
loop-t-init c =
    let w = c.args.self.now in
    let k = w.ready.sound in
    row-self w.settings _ _ w.ready (row-thin w.settings _ _ w.ready (w.settings.tmin - 1) (omega (arith, k.thin)) (begun (goal.at.loop-t-init c).After-clear_errors))

pub step_row-requires-clause-under : goal.step_row-requires-clause-under
step_row-requires-clause-under c =
    let w = c.args.self.now in
    under-row w.settings w.bound w.table.now w.ready c.requires.under
    (row-again w.settings w.bound w.table.now w.ready (begun (goal.at.step_row-requires-clause-under c).After-clear_errors) c.loop-t.invariant)

pub step_row-requires-clause-row_to : goal.step_row-requires-clause-row_to
step_row-requires-clause-row_to c = let w = c.args.self.now in row-self w.settings _ _ w.ready c.loop-t.invariant

pub loop-t-preserved : goal.loop-t-preserved
loop-t-preserved c =
    let w = c.args.self.now in
    row_as w.settings _ _ w.ready _ (row-again w.settings _ _ w.ready c.loop-t.invariant c.step_row.ensures) (omega arith) (omega arith)

pub returns : goal.returns
returns c =
    let w = c.args.self.now in
    row_as w.settings _ _ w.ready _ (row-again w.settings w.bound w.table.now w.ready (begun (goal.at.returns c).After-clear_errors) c.loop-t.invariant)
    (omega (arith, w.ready.sound.order)) (omega (arith, w.ready.sound.order))
