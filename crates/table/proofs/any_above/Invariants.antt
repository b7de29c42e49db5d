-- The loop of `any_above`: where nothing was found, none of the first j cells of either row is above its limit.
use Rattle.std.proofs.Common.{◌≡◌, false}
use Rattle.table.specs.Limits.{NoneAbove}
use Rattle.table.proofs.any_above.Given as goal

abbrev pub invariant-loop-j : goal.invariant-loop-j
invariant-loop-j l = l.found ≡ false → NoneAbove l.limits l.table l.base l.j × NoneAbove l.limits l.table l.next l.j
