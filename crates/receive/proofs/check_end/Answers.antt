-- Where a row is left it is missing; where none is, the number and then what stands behind decide. Assumes nothing.
use Rattle.std.proofs.Common.{◌≡◌, ℕ, ◌+◌, [], ◌∷◌, sym, ap, ◌∙◌, arith}
use mathlib.Core.Option.{some}
use Rattle.lists.specs.Checks.{first}
use Rattle.plate.specs.Refusal.{Numbered}
use Rattle.record.specs.Bytes.{le16}
use Rattle.record.specs.Faults.{tail}
use Rattle.sent.specs.File.{head_in, row_place}
use Rattle.sent.proofs.Places.{rows_are, place-small}
use Rattle.receive.proofs.Asks.{at, end-missing, end-unequal, end-tail}
use Rattle.receive.proofs.check_end.Goals as goal

-- the place at which a row stands is the record's
refused : (n : Numbered) (number place row : ℕ) → n ≡ at number place → place ≡ row → some n ≡ some (at number row)
refused n number place row e p = ap some (e ∙ ap (at number) p)

pub returns-then-is_missing : goal.returns-then-is_missing
returns-then-is_missing c =
    let a = c.args in
    refused _ _ _ _ c.at.ensures c.requires.row_le_rows.1 ∙ end-missing a.file.now (head_in a.file.now) _ a.row (omega (arith, c.requires.row_le_rows.0))

pub overflow_add-at : goal.overflow_add-at
overflow_add-at c = omega (arith, c.requires.row_le_rows.1, place-small c.requires.settings_for c.args.row c.requires.row_le_rows.0)

pub returns-then-from-s : goal.returns-then-from-s
returns-then-from-s c =
    let a = c.args in
    let r = c.requires in
    let word = c.from.ensures ∙ c.word.ensures ∙ ap (λ (n : ℕ). le16 a.file.now (n + 4)) r.row_le_rows.1 in
    refused _ _ _ _ c.at-then-from-s.ensures r.row_le_rows.1
    ∙ end-unequal a.file.now (head_in a.file.now) _ a.row (omega arith) (λ e. c.if-from-s.true (word ∙ e ∙ sym (rows_are r.settings_for)))

pub overflow_add-at-2 : goal.overflow_add-at-2
overflow_add-at-2 c = omega (arith, c.requires.row_le_rows.1, place-small c.requires.settings_for c.args.row c.requires.row_le_rows.0)

pub returns : goal.returns
returns c =
    let a = c.args in
    let r = c.requires in
    let word = c.from.ensures ∙ c.word.ensures ∙ ap (λ (n : ℕ). le16 a.file.now (n + 4)) r.row_le_rows.1 in
    let behind : a.at + 6 ≡ row_place (head_in a.file.now).members a.row + 4 + 2 = omega (arith, r.row_le_rows.1) in
    c.check_tail.ensures
    ∙ ap (λ (n : ℕ). first (tail a.file.now n ∷ [])) behind
    ∙ end-tail a.file.now (head_in a.file.now) _ a.row (omega arith) (sym word ∙ c.if-from-s.false ∙ rows_are r.settings_for)
