-- What is left of the checks decides at each record. Assumes nothing.
use Rattle.std.proofs.Common.{◌≡◌, ℕ, suc, ◌+◌, ◌-◌, ◌<◌, List, sym, ap, ◌∙◌, arith}
use mathlib.Core.Option.{none}
use Rattle.lists.specs.Checks.{first}
use Rattle.plate.specs.Refusal.{said_by}
use Rattle.plate.specs.declared.head.Head.{Head}
use Rattle.plate.proofs.Calls.{handed-is}
use Rattle.sent.specs.File.{head_in, record_checks, rows_checks}
use Rattle.sent.proofs.Places.{place-for, place-small}
use Rattle.sent.proofs.Rows.{place-first}
use Rattle.receive.proofs.Asks.{rows-stop, rows_next, rows_last}
use Rattle.receive.proofs.check_records.Goals as goal

-- past a record that passed the checks behind it decide
behind : (file : List ℕ) (head : Head) (rows row : ℕ) → row < rows → none ≡ first (record_checks file head (rows - row) row)
    → first (rows_checks file head (rows - (row + 1)) (row + 1)) ≡ first (rows_checks file head (rows - row) row)
behind file head rows row l passed =
    let rest = rows - (row + 1) in
    let one : suc rest ≡ rows - row = omega arith in
    let next : row + 1 ≡ suc row = omega arith in
    ap (λ (n : ℕ). first (rows_checks file head rest n)) next
    ∙ sym (rows_next file head rest row (passed ∙ ap (λ (n : ℕ). first (record_checks file head n row)) (sym one)))
    ∙ ap (λ (n : ℕ). first (rows_checks file head n row)) one

pub loop-row-init : goal.loop-row-init
loop-row-init c =
    let a = c.args in
    let all : a.s.rows - 0 ≡ a.s.rows = omega arith in
    record { place = sym (place-first (head_in a.file.now).members); decides = ap (λ (n : ℕ). first (rows_checks a.file.now (head_in a.file.now) n 0)) all }

pub returns-in_err-check_record : goal.returns-in_err-check_record
returns-in_err-check_record c =
    let l = c.loop-row in
    let a = c.args in
    ap said_by (handed-is _ _ c.from_residual.ensures.1)
    ∙ rows-stop a.file.now (head_in a.file.now) (a.s.rows - l.row) l.row _ c.in_err-check_record.ensures
    ∙ l.invariant.decides

pub overflow_add-at-in-loop-row : goal.overflow_add-at-in-loop-row
overflow_add-at-in-loop-row c =
    let l = c.loop-row in
    omega (arith, l.invariant.place, place-for c.requires.0 l.row, place-small c.requires.0 (l.row + 1) (omega (arith, c.loop-row-test.true)))

pub loop-row-preserved : goal.loop-row-preserved
loop-row-preserved c =
    let l = c.loop-row in
    let a = c.args in
    record {
      place = omega (arith, l.invariant.place, place-for c.requires.0 l.row);
      decides = behind a.file.now (head_in a.file.now) a.s.rows l.row c.loop-row-test.true c.in_ok-check_record.ensures ∙ l.invariant.decides;
    }

pub returns : goal.returns
returns c =
    let l = c.loop-row in
    let a = c.args in
    let head = head_in a.file.now in
    let none_left : a.s.rows - a.s.rows ≡ 0 = omega arith in
    let all : a.s.rows ≡ l.row = omega arith in
    c.check_record-2.ensures
    ∙ ap (λ (n : ℕ). first (record_checks a.file.now head n a.s.rows)) none_left
    ∙ rows_last a.file.now head a.s.rows
    ∙ ap (λ (n : ℕ). first (rows_checks a.file.now head n a.s.rows)) (sym none_left)
    ∙ ap (λ (n : ℕ). first (rows_checks a.file.now head (a.s.rows - n) n)) all
    ∙ l.invariant.decides
