-- A space, and the number, which is an i32. Assumes nothing.
use Rattle.std.proofs.Common.{w32}
use mir.ValLaws.{to_z-of_z}
use Rattle.text.proofs.Pages.{laid-onto}
use Rattle.cases.specs.Shown.{space, signed_text}
use Rattle.cases.proofs.show.signed.Goals as goal

pub returns : goal.returns
unfolding signed_text space
returns c =
    let same = to_z-of_z w32 c.args.z c.ranges.z in
    laid-onto _ _ _ _ _ c.put_text.ensures (rw same at c.put_signed.ensures)
