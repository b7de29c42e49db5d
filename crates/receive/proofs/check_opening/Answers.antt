-- The frame of the first record, then 1 and 2 of what it holds, then 7. Assumes nothing.
use Rattle.std.proofs.Common.{◌≡◌, ℕ, List, refl, sym, ap, ◌∙◌, subst}
use mathlib.Core.Option.{Option}
use lib.Dec.{eqb}
use Rattle.std.specs.Prelude.{Result, Err}
use Rattle.lists.specs.Checks.{first}
use Rattle.plate.specs.Refusal.{Numbered}
use Rattle.plate.specs.Head.{is_over, head_checks}
use Rattle.plate.specs.Settings.{Judges}
use Rattle.plate.specs.declared.head.Head.{Head}
use Rattle.plate.specs.declared.refusal.Refusal.{Refusal}
use Rattle.plate.specs.declared.settings.Settings.{Settings}
use Rattle.plate.proofs.Calls.{judges-bad, judges-good, handed-judges}
use Rattle.record.specs.Frame.{kind_at, length_at}
use Rattle.record.specs.Faults.{frame_checks}
use Rattle.receive.proofs.Asks.{opening_frame, frame-stop, settings-stop, over-stop, opening-passed}
use Rattle.receive.proofs.check_opening.Goals as goal

-- the frame was judged
framed : (s : List ℕ) (o : Option Numbered) (kind number length : ℕ) → kind ≡ kind_at s 0 → number ≡ 16 → length ≡ length_at s 0 → o ≡ first (frame_checks s 0 (eqb kind number) (eqb length 10)) → o ≡ first (opening_frame s)
framed s o kind number length k n l e = e ∙ (λ i. first (frame_checks s 0 (eqb (k i) (n i)) (eqb (l i) 10)))

-- the settings were judged
judged : (made : Result Settings Refusal) (given head : Head) → given ≡ head → Judges made (head_checks given) given.height given.members → Judges made (head_checks head) head.height head.members
judged made given head e j = subst (λ (h : Head). Judges made (head_checks h) h.height h.members) e j

pub returns-in_err-check_frame : goal.returns-in_err-check_frame
returns-in_err-check_frame c =
    let s = c.args.file.now in
    handed-judges _ _ c.from_residual.ensures.1 _ _ _
    (frame-stop s _ (framed s _ _ _ _ c.kind_at.ensures c.number.ensures c.length_at-right.ensures c.in_err-check_frame.ensures))

pub returns-in_err-s : goal.returns-in_err-s
returns-in_err-s c =
    let s = c.args.file.now in
    let passed = framed s _ _ _ _ c.kind_at.ensures c.number.ensures c.length_at-right.ensures c.in_ok-check_frame.ensures in
    handed-judges _ _ c.from_residual-in_err-s.ensures.1 _ _ _ (settings-stop s passed _ (judged _ _ _ c.head_in-head.ensures c.in_err-s.ensures).says)

pub returns-then-is_over : goal.returns-then-is_over
returns-then-is_over c =
    let s = c.args.file.now in
    let passed = framed s _ _ _ _ c.kind_at.ensures c.number.ensures c.length_at-right.ensures c.in_ok-check_frame.ensures in
    let settled = (judged _ _ _ c.head_in-head.ensures c.in_ok-s.ensures).says in
    judges-bad _ _ _ _ _ (ap Err c.refusal_at.ensures) (over-stop s passed settled (sym (c.is_over.ensures ∙ ap is_over c.head_in-head.ensures) ∙ c.if-is_over.true))

pub returns : goal.returns
returns c =
    let s = c.args.file.now in
    let passed = framed s _ _ _ _ c.kind_at.ensures c.number.ensures c.length_at-right.ensures c.in_ok-check_frame.ensures in
    let j = judged _ _ _ c.head_in-head.ensures c.in_ok-s.ensures in
    judges-good _ _ _ _ c.in_ok-s.s refl (j.good _ refl) (opening-passed s passed j.says (sym (c.is_over.ensures ∙ ap is_over c.head_in-head.ensures) ∙ c.if-is_over.false))
