-- Its numbers are the record's. Assumes nothing.
use Rattle.std.proofs.Common.{◌∙◌}
use Rattle.save.proofs.Records.{settings-laid}
use Rattle.save.proofs.write_settings.Goals as goal

pub returns : goal.returns
returns c = c.write_numbers.ensures ∙ settings-laid c.args.asked c.args.out.now c.requires.1
