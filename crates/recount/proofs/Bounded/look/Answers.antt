-- `look` meets its contract: boundaries that do not rise have no thickness between them, and else each test is one of the layer's, and its cell is
-- its error. Assumes nothing.
use Rattle.std.proofs.Common.{arith, sym, ◌∙◌}
use Rattle.paper.proofs.Thicknesses.{allowed-under}
use Rattle.table.proofs.Cells.{cell-read}
use Rattle.recount.proofs.Layers.{out-thickness, out-end, out-bound, in-bound}
use Rattle.recount.proofs.Bounded.look.Goals as goal

pub returns-then-above-below : goal.returns-then-above-below
returns-then-above-below c = out-thickness _ _ _ _ _ _ (allowed-under _ _ (omega arith))

pub returns-then-not-is_allowed : goal.returns-then-not-is_allowed
returns-then-not-is_allowed c = out-thickness _ _ _ _ _ _ (sym c.is_allowed.ensures ∙ c.if-not-is_allowed.true)

pub returns-then-s-above : goal.returns-then-s-above
returns-then-s-above c = out-end _ _ _ _ _ _ (sym c.is_allowed.ensures ∙ c.if-not-is_allowed.false) (omega (arith, c.args.self.now.sound.greatest))

pub returns-then-self-error : goal.returns-then-self-error
returns-then-self-error c =
    let g = c.args.self.now.sound.greatest in
    let reads = c.cell_of-error.ensures ∙ cell-read _ _ _ _ _ _ g c.row_of-row.ensures in
    out-bound _ _ _ _ _ _ (sym c.is_allowed.ensures ∙ c.if-not-is_allowed.false) (omega (arith, g)) (omega (arith, reads))

pub returns : goal.returns
returns c =
    let g = c.args.self.now.sound.greatest in
    let reads = c.cell_of-error.ensures ∙ cell-read _ _ _ _ _ _ g c.row_of-row.ensures in
    record {
      admissible = in-bound _ _ _ _ _ _ (sym c.is_allowed.ensures ∙ c.if-not-is_allowed.false) (omega (arith, g)) (omega (arith, reads));
      is = c.from.ensures ∙ reads;
      rises = omega arith;
      ends = omega (arith, g);
      small = omega (arith, c.from.ensures);
    }
