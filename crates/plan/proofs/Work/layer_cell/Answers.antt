-- `layer_cell` meets its contract: the cell of a row and a thickness is that of the row's height. Assumes nothing.
use Rattle.std.proofs.Common.{arith, ◌∙◌}
use Rattle.table.proofs.Cells.{cell-read}
use Rattle.plan.proofs.Work.layer_cell.Goals as goal

pub returns : goal.returns
returns c = let k = c.args.self.now.ready.sound in c.cell_of.ensures ∙ cell-read _ _ _ _ _ _ k.greatest (omega (arith, k.thick))
