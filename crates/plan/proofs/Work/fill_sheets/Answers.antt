-- `fill_sheets` meets its contract: the rows at 0 or less, over a thickness sheet that was cleared, and then row after row (`Invariants.antt`).
-- Assumes nothing.
use Rattle.std.proofs.Common.{arith}
use Rattle.plan.proofs.Rows.{sheet-begun, sheet-under, sheet-more, sheet-cleared, sheet-whole}
use Rattle.plan.proofs.Work.fill_sheets.Goals as goal

pub fill_row-requires-clause-under : goal.fill_row-requires-clause-under
fill_row-requires-clause-under c =
    let w = c.args.self.now in
    let cleared = c.clear_thicknesses.ensures in
    sheet-under w.settings _ _ w.ready (c.loop-q.invariant.filled _ _ (sheet-begun w.settings _ _ w.ready cleared c.start_rows.ensures)) (omega arith) c.requires.0
    (omega (arith, c.requires.1, cleared.long))

pub fill_row-requires-clause-span : goal.fill_row-requires-clause-span
fill_row-requires-clause-span c =
    let w = c.args.self.now in
    let cleared = c.clear_thicknesses.ensures in
    sheet-cleared w.settings _ _ w.ready cleared (omega arith) (c.loop-q.invariant.filled _ _ (sheet-begun w.settings _ _ w.ready cleared c.start_rows.ensures))

pub loop-q-preserved : goal.loop-q-preserved
loop-q-preserved c =
    let w = c.args.self.now in
    record {
      first_low = omega (arith, c.raised-first.ensures);
      filled = λ E F b. sheet-more w.settings _ _ w.ready (c.loop-q.invariant.filled E F b) c.fill_row.ensures;
    }

pub returns : goal.returns
returns c =
    let w = c.args.self.now in
    let cleared = c.clear_thicknesses.ensures in
    let whole = sheet-whole w.settings _ _ w.ready cleared c.loop-q.q (c.loop-q.invariant.filled _ _ (sheet-begun w.settings _ _ w.ready cleared c.start_rows.ensures)) (omega arith) in
    record { errors_after = whole.0; thicknesses_after = whole.1 }
