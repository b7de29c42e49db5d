-- Where no row is left it is one too many; where one is, its start and then its cells decide. Assumes nothing.
use Rattle.std.proofs.Common.{◌≡◌, ℕ, ◌+◌, [], ◌∷◌, sym, ap, ◌∙◌, arith}
use mathlib.Core.Option.{some}
use Rattle.lists.specs.Checks.{first}
use Rattle.plate.specs.Refusal.{check, Numbered}
use Rattle.record.specs.Bytes.{le16}
use Rattle.sent.specs.File.{head_in}
use Rattle.sent.proofs.Places.{place-for, place-small}
use Rattle.receive.proofs.Asks.{at, row-past, row-elsewhere, row-cells}
use Rattle.receive.proofs.Rows.{start_is, some-over}
use Rattle.receive.proofs.check_row.Goals as goal

-- the place at which a row stands is the record's
refused : (n : Numbered) (number place row : ℕ) → n ≡ at number place → place ≡ row → some n ≡ some (at number row)
refused n number place row e p = ap some (e ∙ ap (at number) p)

pub returns-then-s-row : goal.returns-then-s-row
returns-then-s-row c =
    let a = c.args in
    refused _ _ _ _ c.at.ensures c.requires.row_le_rows.1 ∙ row-past a.file.now (head_in a.file.now) _ a.row (omega arith)

pub overflow_add-at : goal.overflow_add-at
overflow_add-at c = omega (arith, c.requires.row_le_rows.1, place-small c.requires.settings_for.0 c.args.row c.requires.row_le_rows.0)

pub returns-then-word-start_bits : goal.returns-then-word-start_bits
returns-then-word-start_bits c =
    let a = c.args in
    let r = c.requires in
    let word = c.word.ensures ∙ ap (λ (n : ℕ). le16 a.file.now (n + 4)) r.row_le_rows.1 in
    refused _ _ _ _ c.at-then-word-start_bits.ensures r.row_le_rows.1
    ∙ row-elsewhere a.file.now (head_in a.file.now) _ a.row (omega arith)
    (λ e. c.if-word-start_bits.true (word ∙ e ∙ sym (c.start_bits.ensures ∙ start_is r.settings_for.0 a.row)))

pub check_cells-requires : goal.check_cells-requires
check_cells-requires c =
    let r = c.requires in
    (r.settings_for.0.sound.thick, omega (arith, r.row_le_rows.1, place-for r.settings_for.0 c.args.row, r.row_in_bounds))

pub returns : goal.returns
returns c =
    let a = c.args in
    let r = c.requires in
    let place = r.row_le_rows.1 in
    let word = c.word.ensures ∙ ap (λ (n : ℕ). le16 a.file.now (n + 4)) place in
    let over = some-over r.settings_for.0 a.limits.now a.file.now r.settings_for.1 a.row a.at place in
    c.check_cells.ensures
    ∙ (λ i. first (check 6 (over i) (place i) ∷ []))
    ∙ row-cells a.file.now (head_in a.file.now) _ a.row (omega arith) (sym word ∙ c.if-word-start_bits.false ∙ c.start_bits.ensures ∙ start_is r.settings_for.0 a.row)
