-- The greatest member is the greatest of those under t, from which the search goes on, and t is above 0. Assumes nothing.
use Rattle.std.proofs.Common.{◌≡◌, ◌-◌}
use Rattle.paper.specs.Layer.{greatest_to, tmax}
use Rattle.plate.proofs.settings.greatest_of.Given as goal

abbrev pub invariant-loop-t : goal.invariant-loop-t
invariant-loop-t l = tmax l.members ≡ greatest_to l.members (l.t - 1)
