-- What is left of the boundaries, put where the loop stands, is all of them put where it began. Assumes nothing.
use Rattle.std.proofs.Common.{◌≡◌, take, drop}
use Rattle.text.specs.Page.{lay}
use Rattle.report.specs.Lines.{boundaries_text}
use Rattle.report.proofs.put_boundaries.Given as goal

abbrev pub invariant-loop-i : goal.invariant-loop-i
invariant-loop-i l =
    lay (boundaries_text (drop l.i (take l.count l.sequence))) l.page ≡ lay (boundaries_text (take l.count l.sequence)) l.initial.page
