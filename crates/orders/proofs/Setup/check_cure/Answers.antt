-- `check_cure` meets its contract: its frame, and then the bits of the one time that is due. Assumes nothing.
use Rattle.std.proofs.Common.{◌≡◌, sym, ap, ap₂, ◌∙◌, ℕ, List, eqb}
use mathlib.Core.Option.{some}
use Rattle.lists.specs.Checks.{first}
use Rattle.plate.specs.Refusal.{said_by, Numbered}
use Rattle.plate.proofs.Calls.{handed-is}
use Rattle.record.specs.Frame.{kind_at, length_at}
use Rattle.record.specs.Faults.{frame_checks}
use Rattle.orders.specs.Layer.{cure_bits}
use Rattle.orders.specs.Kinds.{cure_kind, float_length}
use Rattle.orders.specs.File.{cure_place}
use Rattle.orders.proofs.Judged.{frame, cure-stopped, cure-wrong, cure-right}
use Rattle.orders.proofs.Setup.check_cure.Goals as goal

-- the frame's verdict
framed-is : (cures file : List ℕ) (layers t kind : ℕ) → kind ≡ kind_at file (cure_place layers) → (number : ℕ) → number ≡ cure_kind → (long : ℕ) → long ≡ length_at file (cure_place layers)
    → first (frame_checks file (cure_place layers) (eqb kind number) (eqb long float_length)) ≡ first (frame cures file layers t)
framed-is cures file layers t kind is number of long by =
    ap₂ (λ (k l : ℕ). first (frame_checks file (cure_place layers) (eqb k number) (eqb l float_length))) is by
    ∙ ap (λ (n : ℕ). first (frame_checks file (cure_place layers) (eqb (kind_at file (cure_place layers)) n) (eqb (length_at file (cure_place layers)) float_length))) of

pub returns-in_err-check_frame : goal.returns-in_err-check_frame
returns-in_err-check_frame c =
    let a = c.args in
    ap said_by (handed-is _ _ c.from_residual.ensures.1)
    ∙ cure-stopped a.self.now.cure.now a.file.now a.read.layers a.t _
    (c.in_err-check_frame.ensures ∙ framed-is a.self.now.cure.now a.file.now a.read.layers a.t _ c.kind_at.ensures _ c.number.ensures _ c.length_at-right.ensures)

pub returns-then-quad-cure_bits : goal.returns-then-quad-cure_bits
returns-then-quad-cure_bits c =
    let a = c.args in
    ap (λ (n : Numbered). some n) c.at.ensures
    ∙ cure-wrong a.self.now.cure.now a.file.now a.read.layers a.t
    (c.in_ok-check_frame.ensures ∙ framed-is a.self.now.cure.now a.file.now a.read.layers a.t _ c.kind_at.ensures _ c.number.ensures _ c.length_at-right.ensures)
    (λ e. c.if-quad-cure_bits.true (c.quad.ensures ∙ e ∙ sym (c.cure_bits.ensures ∙ ap cure_bits c.entry_of.ensures)))

pub returns : goal.returns
returns c =
    let a = c.args in
    cure-right a.self.now.cure.now a.file.now a.read.layers a.t
    (c.in_ok-check_frame.ensures ∙ framed-is a.self.now.cure.now a.file.now a.read.layers a.t _ c.kind_at.ensures _ c.number.ensures _ c.length_at-right.ensures)
    (sym c.quad.ensures ∙ c.if-quad-cure_bits.false ∙ c.cure_bits.ensures ∙ ap cure_bits c.entry_of.ensures)
