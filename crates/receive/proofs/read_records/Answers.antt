-- The first record passed, so that the others decide and then the lent table; where all pass, the rows end in the file, and their cells are
-- stored. Assumes nothing.
use Rattle.std.proofs.Common.{◌≡◌, ℕ, ◌+◌, ◌≤◌, List, length, ap, ◌∙◌, subst, arith}
use mathlib.Core.Option.{some, Option}
use Rattle.std.proofs.lemmas.List.Edits.{sets}
use Rattle.lists.specs.Checks.{first}
use Rattle.plate.specs.Refusal.{numbered, Numbered}
use Rattle.plate.specs.Head.{cells_of, capped}
use Rattle.plate.specs.declared.head.Head.{Head}
use Rattle.plate.specs.declared.refusal.Refusal.{Refusal}
use Rattle.plate.proofs.Calls.{refuses, works, handed-does}
use Rattle.plate.proofs.Heads.{cells-for, capped_same}
use Rattle.sent.specs.Written.{rows_of}
use Rattle.sent.specs.File.{head_in, row_place, rows_checks, cells_from, cells_in}
use Rattle.sent.proofs.Places.{rows_are}
use Rattle.table.specs.Limits.{Limits}
use Rattle.receive.specs.Receiving.{receiving}
use Rattle.receive.proofs.Asks.{opened-few, rows-within}
use Rattle.receive.proofs.Answers.{records-stop, table-stop, all_pass, cells_left}
use Rattle.receive.proofs.read_records.Goals as goal

-- what was said of the rows that the settings have is said of the head's
said : (file : List ℕ) (rows : ℕ) (o : Option Numbered) → rows ≡ rows_of (head_in file) → o ≡ first (rows_checks file (head_in file) rows 0) → o ≡ first (rows_checks file (head_in file) (rows_of (head_in file)) 0)
said file rows o e f = f ∙ ap (λ (n : ℕ). first (rows_checks file (head_in file) n 0)) e

pub check_records-requires : goal.check_records-requires
check_records-requires c =
    let head = head_in c.args.file.now in
    (c.requires.settings_for, subst (λ (h : Head). Limits h c.limits_of-limits.result) (ap capped c.head_in-head.ensures ∙ capped_same head (opened-few c.args.file.now c.requires.none_value)) c.limits_of-limits.ensures)

pub returns-in_err-check_records : goal.returns-in_err-check_records
unfolding receiving
returns-in_err-check_records c =
    let a = c.args in
    handed-does _ _ c.from_residual.ensures.1 (receiving a.file.now a.table.now)
    (records-stop a.file.now a.table.now c.requires.none_value _ (said a.file.now a.s.rows _ (rows_are c.requires.settings_for) c.in_err-check_records.ensures))

pub returns-then-table-s : goal.returns-then-table-s
unfolding receiving
returns-then-table-s c =
    let a = c.args in
    let r = c.requires in
    refuses (receiving a.file.now a.table.now) c.refusal_at.result
    (ap (λ (r : Refusal). some (numbered r)) c.refusal_at.ensures
    ∙ table-stop a.file.now a.table.now r.none_value (said a.file.now a.s.rows _ (rows_are r.settings_for) c.in_ok-check_records.ensures) (omega (arith, cells-for r.settings_for)))

pub fill_rows-requires : goal.fill_rows-requires
fill_rows-requires c =
    let a = c.args in
    let r = c.requires in
    let head = head_in a.file.now in
    let all : 0 + rows_of head ≡ a.s.rows = omega (arith, rows_are r.settings_for) in
    record {
      settings_for = r.settings_for;
      rows_in_bounds = subst (λ (n : ℕ). row_place head.members n ≤ length a.file.now) all (rows-within a.file.now head (rows_of head) 0 (said a.file.now a.s.rows _ (rows_are r.settings_for) c.in_ok-check_records.ensures));
      cells_in_bounds = omega arith;
    }

pub returns : goal.returns
unfolding cells_in receiving
returns c =
    let a = c.args in
    let r = c.requires in
    let room : cells_of (head_in a.file.now) ≤ length a.table.now = omega (arith, cells-for r.settings_for) in
    let all = ap (λ (n : ℕ). sets a.table.now 0 (cells_from a.file.now (head_in a.file.now).members n 0)) (rows_are r.settings_for) in
    works (receiving a.file.now a.table.now) _ _
    (all_pass a.file.now a.table.now r.none_value (said a.file.now a.s.rows _ (rows_are r.settings_for) c.in_ok-check_records.ensures) room)
    c.head_in-head.ensures
    (c.fill_rows.ensures ∙ all ∙ cells_left a.file.now a.table.now room)
