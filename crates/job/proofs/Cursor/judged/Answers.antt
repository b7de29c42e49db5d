-- Past the end record what is left decides; otherwise the frame, by the kind that the number is, and then the body. Assumes nothing.
use Rattle.std.proofs.Common.{◌≡◌, ℕ, Bool, List, sym, ap, ◌∙◌}
use mathlib.Core.Option.{Option}
use Rattle.lists.specs.Checks.{first}
use Rattle.plate.specs.Refusal.{Numbered}
use Rattle.record.specs.Frame.{length_at, kind_at}
use Rattle.record.specs.Faults.{frame_checks}
use Rattle.record.proofs.Frames as frames
use Rattle.job.specs.Kinds.{kind_of, allowed_here, fits}
use Rattle.job.specs.declared.State.{State}
use Rattle.job.specs.declared.Kind.{Kind}
use Rattle.job.proofs.Reading.{handed, after-end, frame_refused, frame-passed}
use Rattle.job.proofs.Cursor.judged.Goals as goal

-- the frame was judged by whether the kind is allowed and its length is right
framed : (s : List ℕ) (st : State) (at : ℕ) (k : Kind) (len : ℕ) (allowed right : Bool) (o : Option Numbered) → allowed ≡ allowed_here st k → len ≡ length_at s at → right ≡ fits k len
    → o ≡ first (frame_checks s at allowed right) → o ≡ first (frame_checks s at (allowed_here st k) (fits k (length_at s at)))
framed s st at k len allowed right o a l f e = rw (← a, ← l, ← f) e

pub returns-then-ended : goal.returns-then-ended
returns-then-ended c = c.past_end.ensures ∙ after-end _ _ _ c.if-ended.true

pub returns-in_err-check_frame : goal.returns-in_err-check_frame
returns-in_err-check_frame c =
    handed _ _ _ _ c.from_residual.ensures.1
    ∙ frame_refused _ _ _ c.if-ended.false _ (c.from-kind.ensures ∙ ap kind_of c.kind_at.ensures) _
    (framed c.args.input.now c.args.state c.args.self.at c.from-kind.result _ _ _ _ c.is_allowed-allowed.ensures c.length_at.ensures c.fits-right.ensures c.in_err-check_frame.ensures)

pub by_kind-requires : goal.by_kind-requires
by_kind-requires c =
    frames.frame-passed _ _ _ _ (sym (framed c.args.input.now c.args.state c.args.self.at c.from-kind.result _ _ _ _ c.is_allowed-allowed.ensures c.length_at.ensures c.fits-right.ensures c.in_ok-check_frame.ensures))

pub returns : goal.returns
returns c =
    c.by_kind.ensures
    ∙ frame-passed _ _ _ c.if-ended.false _ (c.from-kind.ensures ∙ ap kind_of c.kind_at.ensures)
    (framed c.args.input.now c.args.state c.args.self.at c.from-kind.result _ _ _ _ c.is_allowed-allowed.ensures c.length_at.ensures c.fits-right.ensures c.in_ok-check_frame.ensures)
