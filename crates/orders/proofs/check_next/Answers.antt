-- `check_next` meets its contract: a frame, by what the kind allows. Assumes nothing.
use Rattle.std.proofs.Common.{ap, ap₂, ◌∙◌, ◌*◌, Bool}
use Rattle.lists.specs.Checks.{first}
use Rattle.record.specs.Faults.{frame_checks}
use Rattle.orders.specs.Kinds.{allowed_after, fits}
use Rattle.orders.specs.File.{next_checks}
use Rattle.orders.proofs.check_next.Goals as goal

pub returns : goal.returns
unfolding next_checks
returns c =
    let a = c.args in
    c.check_frame.ensures
    ∙ ap₂ (λ (p q : Bool). first (frame_checks a.file.now (16 * a.layers) p q))
    (c.allowed_after.ensures ∙ ap (allowed_after a.layers) c.kind_at-number.ensures)
    (c.fits-right.ensures ∙ ap₂ fits c.kind_at-number.ensures c.length_at.ensures)
