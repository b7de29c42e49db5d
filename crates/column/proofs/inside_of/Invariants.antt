-- The inside voxels under the voxel h are counted. Assumes nothing.
use Rattle.std.proofs.Common.{◌≡◌, ◌-◌, ◌≤◌}
use Rattle.column.specs.Inside.{inside}
use Rattle.column.proofs.inside_of.Given as goal

abbrev pub invariant-loop-h : goal.invariant-loop-h
invariant-loop-h l = record {
  counted : l.n ≡ inside l.column l.start (l.h - l.start);
  few : l.n ≤ l.h - l.start;
}
