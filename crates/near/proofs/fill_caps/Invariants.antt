-- The loop of `fill_caps`: the caps of the first j thicknesses stand.
use Rattle.std.proofs.Common.{◌+◌}
use Rattle.lists.specs.Rewrite.{Span}
use Rattle.near.specs.Caps.{cap_of}
use Rattle.near.proofs.fill_caps.Given as goal

abbrev pub invariant-loop-j : goal.invariant-loop-j
invariant-loop-j l = Span 0 0 l.j (λ i x. cap_of l.within (i + 1)) l.initial.caps l.caps
