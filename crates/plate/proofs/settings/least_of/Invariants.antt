-- The least member is still to be found from t on. Assumes nothing.
use Rattle.std.proofs.Common.{◌≡◌, ◌-◌}
use Rattle.paper.specs.Layer.{least_above, tmin}
use Rattle.plate.proofs.settings.least_of.Given as goal

abbrev pub invariant-loop-t : goal.invariant-loop-t
invariant-loop-t l = tmin l.members ≡ least_above l.members (l.t - 1) (33 - l.t)
