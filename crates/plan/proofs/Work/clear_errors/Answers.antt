-- `clear_errors` meets its contract (`Invariants.antt`). Assumes nothing.
use Rattle.std.proofs.Common.{arith, refl}
use Rattle.lists.proofs.Spans.{span_none, span_set, span-end}
use Rattle.sheets.proofs.Places.{row_in}
use Rattle.plan.proofs.Work.clear_errors.Goals as goal

pub loop-m-init : goal.loop-m-init
loop-m-init c = span_none _ _ _

pub loop-m-preserved : goal.loop-m-preserved
loop-m-preserved c =
    let w = c.args.self.now in
    let inside = row_in w.settings w.ready.sound c.args.q c.loop-m.m c.requires.0 (omega arith) in
    span_set c.loop-m.invariant _ _ (omega (arith, c.entry_of-from.ensures.0))
    (omega (arith, inside, c.entry_of-from.ensures.0, c.requires.1, c.loop-m.invariant.long)) refl

pub returns : goal.returns
returns c = span-end _ c.loop-m.invariant (omega arith) (omega arith)

pub returns-2 : goal.returns-2
returns-2 c =
    let w = c.args.self.now in
    let inside = row_in w.settings w.ready.sound c.args.q c.loop-m.m c.requires.0 (omega arith) in
    span-end _
    (span_set c.loop-m.invariant _ _ (omega (arith, c.entry_of-from.ensures.0))
    (omega (arith, inside, c.entry_of-from.ensures.0, c.requires.1, c.loop-m.invariant.long)) refl)
    (omega arith) (omega arith)
