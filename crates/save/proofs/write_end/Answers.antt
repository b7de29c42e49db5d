-- Its numbers are the record's. Assumes nothing.
use Rattle.std.proofs.Common.{◌∙◌}
use Rattle.save.proofs.Records.{end-laid}
use Rattle.save.proofs.write_end.Goals as goal

pub returns : goal.returns
returns c = c.write_numbers.ensures ∙ end-laid c.args.columns c.args.at c.args.out.now c.requires.1
