-- One cell more. Assumes nothing.
use Rattle.std.proofs.Common.{refl, arith}
use Rattle.record.specs.Bytes.{le32, quads}
use Rattle.record.proofs.Bytes.{numbers_more}
use Rattle.receive.proofs.fill_row.Goals as goal

pub loop-j-init : goal.loop-j-init
unfolding quads
loop-j-init c = refl

pub loop-j-preserved : goal.loop-j-preserved
unfolding quads
loop-j-preserved c =
    let l = c.loop-j in
    numbers_more (le32 c.args.file.now) 4 c.args.at l.j c.cell_at.result l.cells (omega (arith, l.auto.cells, c.loop-j-test.true)) l.invariant c.cell_at.ensures
