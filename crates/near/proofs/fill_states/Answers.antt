-- A turn goes up one voxel and stores its state.
use Rattle.std.proofs.Common.{refl, add-one, arith}
use Rattle.lists.proofs.Spans.{span_none, span_set, span-end}
use Rattle.near.specs.Carried.{state_at}
use Rattle.near.proofs.Carried.{carried_none, carried-next}
use Rattle.near.proofs.fill_states.Goals as goal

pub loop-i-init : goal.loop-i-init
loop-i-init c = (carried_none _ _, span_none 0 _ _)

pub loop-i-preserved : goal.loop-i-preserved
unfolding state_at
loop-i-preserved c =
    let l = c.loop-i.invariant in
    let passed = carried-next c.args.column.now c.args.k c.loop-i.i l.0 c.boundary_at-from.ensures.0 c.passed_at-passed.ensures in
    (passed, span_set l.1 _ _ (omega arith) (omega arith) (rw (passed, add-one) refl))

pub returns : goal.returns
returns c = span-end _ c.loop-i.invariant.1 (omega arith) (omega arith)
