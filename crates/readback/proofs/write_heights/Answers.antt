-- `write_heights` meets its contract (`Invariants.antt`): one height more is written. Assumes nothing.
use Rattle.std.proofs.Common.{arith, add-one, ◌∙◌}
use borrow.Author.Rules.{sfits_of}
use mir.Syntax.{w32}
use mir.ValLaws.{to_z-of_z}
use Rattle.readback.proofs.Walks.{written}
use Rattle.readback.proofs.write_heights.Goals as goal

pub loop-k-preserved : goal.loop-k-preserved
loop-k-preserved c =
    let z = to_z-of_z w32 c.height_of.result (sfits_of c.height_of.type_inv) ∙ c.height_of.ensures in
    rw (c.loop-k.invariant, add-one) (written _ _ c.loop-k.k _ (omega arith) (omega arith) z)
