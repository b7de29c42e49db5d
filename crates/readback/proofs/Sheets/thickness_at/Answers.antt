-- `thickness_at` meets its contract: the place that it reads is the entry's. Assumes nothing.
use Rattle.std.proofs.Common.{ℕ, get_or, ap, ◌∙◌}
use Rattle.sheets.proofs.Places.{entry_row}
use Rattle.readback.proofs.Sheets.thickness_at.Goals as goal

pub returns : goal.returns
returns c =
    let s = c.args.self.now in
    c.from.ensures ∙ ap (λ (i : ℕ). get_or s.thicknesses.now i 0) c.entry_index-at.ensures ∙ entry_row s.settings s.sound s.thicknesses.now c.args.m c.args.row
