-- The frame by its kind, and where it passes the end or the row decides; a row whose frame passed stands whole in the file. Assumes nothing.
use Rattle.std.proofs.Common.{◌≡◌, ℕ, ◌-◌, List, Bool, sym, ap, ◌∙◌}
use mathlib.Core.Option.{Option}
use Rattle.lists.specs.Checks.{first}
use Rattle.plate.specs.Refusal.{said_by, Numbered}
use Rattle.plate.specs.Head.{SettingsFor}
use Rattle.plate.specs.declared.head.Head.{Head}
use Rattle.plate.specs.declared.settings.Settings.{Settings}
use Rattle.plate.proofs.Calls.{handed-is}
use Rattle.plate.proofs.Heads.{members-for}
use Rattle.record.specs.Frame.{length_at, kind_at}
use Rattle.record.specs.Faults.{frame_checks}
use Rattle.sent.specs.Kinds.{allowed_after, fits}
use Rattle.sent.specs.File.{head_in, row_place}
use Rattle.receive.proofs.Asks.{frame, record-stop, end-decides, row-decides, row_within}
use Rattle.receive.proofs.check_by_kind.Goals as goal

-- the frame was judged
module _ {head : Head} {s : Settings} (f : SettingsFor head s) (file : List ℕ) (row at : ℕ) (place : at ≡ row_place head.members row) (n : ℕ) (n-is : n ≡ kind_at file at) where
  number : n ≡ kind_at file (row_place head.members row)
  number = n-is ∙ ap (kind_at file) place

  framed : (o : Option Numbered) (allowed right : Bool) (len : ℕ) → allowed ≡ allowed_after row n → len ≡ length_at file at → right ≡ fits s.members n len → o ≡ first (frame_checks file at allowed right)
      → o ≡ first (frame file head (s.rows - row) row)
  framed o allowed right len a l r e =
      let allows = a ∙ ap (allowed_after row) number in
      let long = l ∙ ap (length_at file) place in
      let fit = r ∙ (λ i. fits (members-for f i) (number i) (long i)) in
      e ∙ (λ i. first (frame_checks file (place i) (allows i) (fit i)))

pub returns-in_err-check_frame : goal.returns-in_err-check_frame
returns-in_err-check_frame c =
    let a = c.args in
    let r = c.requires in
    ap said_by (handed-is _ _ c.from_residual.ensures.1)
    ∙ record-stop a.file.now (head_in a.file.now) (a.s.rows - a.row) a.row _ (framed r.settings_for.0 a.file.now a.row a.at r.row_le_rows.1 c.kind_at-kind.result c.kind_at-kind.ensures _ _ _ _ c.allowed_after-allowed.ensures c.length_at.ensures c.fits-right.ensures c.in_err-check_frame.ensures)

pub returns-then-kind-number : goal.returns-then-kind-number
returns-then-kind-number c =
    let a = c.args in
    let r = c.requires in
    let passed = framed r.settings_for.0 a.file.now a.row a.at r.row_le_rows.1 c.kind_at-kind.result c.kind_at-kind.ensures _ _ _ _ c.allowed_after-allowed.ensures c.length_at.ensures c.fits-right.ensures c.in_ok-check_frame.ensures in
    c.check_end.ensures
    ∙ end-decides a.file.now (head_in a.file.now) (a.s.rows - a.row) a.row passed
    (sym (number r.settings_for.0 a.file.now a.row a.at r.row_le_rows.1 c.kind_at-kind.result c.kind_at-kind.ensures) ∙ c.if-kind-number.true ∙ c.number.ensures)

pub check_row-requires : goal.check_row-requires
check_row-requires c =
    let a = c.args in
    let r = c.requires in
    let passed = framed r.settings_for.0 a.file.now a.row a.at r.row_le_rows.1 c.kind_at-kind.result c.kind_at-kind.ensures _ _ _ _ c.allowed_after-allowed.ensures c.length_at.ensures c.fits-right.ensures c.in_ok-check_frame.ensures in
    record {
      settings_for = r.settings_for;
      row_le_rows = r.row_le_rows;
      row_in_bounds = row_within a.file.now (head_in a.file.now) (a.s.rows - a.row) a.row passed
          (λ e. c.if-kind-number.false (number r.settings_for.0 a.file.now a.row a.at r.row_le_rows.1 c.kind_at-kind.result c.kind_at-kind.ensures ∙ e ∙ sym c.number.ensures));
    }

pub returns : goal.returns
returns c =
    let a = c.args in
    let r = c.requires in
    let passed = framed r.settings_for.0 a.file.now a.row a.at r.row_le_rows.1 c.kind_at-kind.result c.kind_at-kind.ensures _ _ _ _ c.allowed_after-allowed.ensures c.length_at.ensures c.fits-right.ensures c.in_ok-check_frame.ensures in
    c.check_row.ensures
    ∙ row-decides a.file.now (head_in a.file.now) (a.s.rows - a.row) a.row passed
    (λ e. c.if-kind-number.false (number r.settings_for.0 a.file.now a.row a.at r.row_le_rows.1 c.kind_at-kind.result c.kind_at-kind.ensures ∙ e ∙ sym c.number.ensures))
