-- `judge` meets its contract: the inside voxels that are counted from the datum are document 01's. Assumes nothing.
use Rattle.std.proofs.Common.{sym, ap₂, ◌∙◌, arith}
use Rattle.column.specs.Inside.{inside}
use Rattle.column.proofs.Shares.{inside_is}
use Rattle.column.proofs.judge.Goals as goal

pub returns : goal.returns
returns c =
    let a = c.args in
    (c.inside_of.ensures.0 ∙ ap₂ (inside a.column.now) c.from.ensures c.from-2.ensures ∙ sym (inside_is a.column.now a.start a.thickness), omega (arith, c.inside_of.ensures.1))
