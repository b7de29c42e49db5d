-- The length, the kind and the start are written, and the cells behind them. Assumes nothing.
use Rattle.std.proofs.Common.{ℕ, ◌+◌, ◌*◌, ◌≤◌, length, [], ◌∷◌, ap, ◌∙◌, arith}
use Rattle.record.specs.Written.{bytes_of, quad_bytes_of, laid_at}
use Rattle.record.proofs.Spelled.{length-quad_bytes_of}
use Rattle.record.proofs.Stores.{laid}
use Rattle.send.proofs.Records.{row_laid}
use Rattle.send.proofs.write_row.Goals as goal

pub returns : goal.returns
unfolding quad_bytes_of
returns c =
    let a = c.args in
    let begun =
    c.write_numbers.ensures
    ∙ ap (λ (kind : ℕ). laid_at a.out.now a.at (bytes_of ((2 + 4 * length a.row.now) ∷ kind ∷ a.start ∷ []))) c.number.ensures in
    let room : a.at + 6 + length (quad_bytes_of a.row.now) ≤ length c.write_numbers.new.out = omega (arith, length-quad_bytes_of a.row.now, c.requires.row_in_bounds, c.write_numbers.auto.out) in
    c.write_all.ensures
    ∙ laid c.write_numbers.new.out (a.at + 6) (quad_bytes_of a.row.now) room
    ∙ row_laid a.start a.row.now a.out.now c.write_numbers.new.out a.at c.requires.row_in_bounds begun
