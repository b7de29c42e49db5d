-- The numbers that are left, put where the loop stands, are all of them put where it began. Assumes nothing.
use Rattle.std.proofs.Common.{◌≡◌, drop}
use Rattle.text.specs.Page.{lay}
use Rattle.cases.specs.Shown.{next_text, each_text}
use Rattle.cases.proofs.show.U32Shown.put.Given as goal

abbrev pub invariant-loop-x : goal.invariant-loop-x
invariant-loop-x l = lay (each_text next_text (drop l.x-index l.items)) l.page ≡ lay (each_text next_text l.items) l.initial.page
