-- `plan_job` meets its contract: too many bytes are refused before all else, and the text of a file is what document 01 says. Assumes nothing.
use Rattle.std.proofs.Common.{rules, arith}
use lib.ListN.{length-take}
use Rattle.report.proofs.Lengths.{long-fits}
use Rattle.report.proofs.Whole.{long-is, short-is, prints}
use Rattle.report.proofs.plan_job.Goals as goal

pub returns-then-too_long : goal.returns-then-too_long
returns-then-too_long c =
    let a = c.args in
    prints a.input.now a.count _ c.told-input c.told-text _ _ _ long-fits (search rules) (long-is _ (omega (arith, c.told-input, length-take a.count a.input.now)))

pub returns : goal.returns
returns c =
    let a = c.args in
    prints a.input.now a.count _ c.told-input c.told-text _ _ _ c.put_job.ensures.1 (search rules) (short-is _ (omega (arith, length-take a.count a.input.now)))
