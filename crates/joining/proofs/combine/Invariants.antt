-- The loop of `combine`: the first i cells are made anew.
use Rattle.joining.specs.Joining.{Combined}
use Rattle.joining.proofs.combine.Given as goal

abbrev pub invariant-loop-i : goal.invariant-loop-i
invariant-loop-i g l = Combined (λ x y z. goal.F-post g l.f x y z) l.i l.other l.initial.table l.table
