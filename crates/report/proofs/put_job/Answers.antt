-- `put_job` meets its contract: what is worked out for a file is what document 01 says, and there is room for it. Assumes nothing.
use Rattle.std.proofs.Common.{ℕ, List, ap, ◌∙◌, arith}
use Rattle.text.specs.Page.{lay}
use Rattle.record.specs.Bytes.{Bytes}
use Rattle.report.proofs.Printed.{printed}
use Rattle.report.proofs.Lengths.{file-fits}
use Rattle.report.proofs.put_job.Goals as goal

pub returns : goal.returns
returns c =
    let byte : Bytes c.args.input.now = (λ i. omega (arith, c.type_inv.input i)) in
    (c.put_file.ensures ∙ ap (λ (t : List ℕ). lay t c.args.page.now) (printed _ byte), file-fits _ byte)
