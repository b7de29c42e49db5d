-- What is counted and what is still to be counted are the whole. Assumes nothing.
use Rattle.std.proofs.Common.{◌≡◌, ◌+◌, ◌≤◌, drop}
use Rattle.column.specs.Inside.{passed}
use Rattle.column.proofs.passed_at.Given as goal

abbrev pub invariant-loop-b : goal.invariant-loop-b
invariant-loop-b l = (l.n + passed (drop l.b-index l.column) l.h ≡ passed l.column l.h) × (l.n ≤ l.b-index)
