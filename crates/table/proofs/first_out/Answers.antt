-- The limits are those of the table's own head, and a cell above its limit is one out of bounds.
use Rattle.std.proofs.Common.{sym, subst}
use Rattle.plate.specs.declared.head.Head.{Head}
use Rattle.plate.proofs.Heads.{capped_same, cells-for}
use Rattle.table.specs.Limits.{Limits}
use Rattle.table.proofs.Cells.{out_at}
use Rattle.table.proofs.Limits.{lowest_as}
use Rattle.table.proofs.first_out.Goals as goal

pub returns : goal.returns
returns c =
    let a = c.args in
    let k = c.requires.settings_for in
    let are : Limits a.head c.limits_of-limits.result =
    subst (λ (head : Head). Limits head c.limits_of-limits.result) (capped_same a.head c.requires.head_value) c.limits_of-limits.ensures in
    lowest_as _ _ _ _ _ (cells-for k) (λ i l. sym (out_at k _ are a.table.now i)) c.first_above.ensures
