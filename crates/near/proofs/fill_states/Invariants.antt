-- The loop of `fill_states`: the states of the first i voxels stand, and so many boundaries are passed below the next.
use Rattle.std.proofs.Common.{◌≡◌}
use Rattle.lists.specs.Rewrite.{Span}
use Rattle.near.specs.Carried.{carried, state_at}
use Rattle.near.proofs.fill_states.Given as goal

abbrev pub invariant-loop-i : goal.invariant-loop-i
invariant-loop-i l = (l.passed ≡ carried l.column l.k l.i) × Span 0 0 l.i (λ j x. state_at l.column l.k j) l.initial.states l.states
