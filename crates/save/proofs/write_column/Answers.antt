-- The length and the kind are written, and the boundaries behind them. Assumes nothing.
use Rattle.std.proofs.Common.{◌∙◌}
use Rattle.save.proofs.Records.{column-laid}
use Rattle.save.proofs.write_column.Goals as goal

pub returns : goal.returns
returns c =
    let a = c.args in
    c.write_numbers-2.ensures ∙ column-laid a.column.now a.out.now c.write_numbers.new.out a.at c.requires.column_in_bounds c.write_numbers.ensures
