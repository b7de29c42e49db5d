-- `check_rest` meets its contract: its tests are the checks 3, in their order, and 7 and 6 are the table's own. Assumes nothing.
use Rattle.std.proofs.Common.{arith, ap, Err}
use Rattle.plate.specs.Head.{held_in}
use Rattle.plate.proofs.Calls.{judges-bad}
use Rattle.plate.proofs.Heads.{cells-for}
use Rattle.plan.proofs.Passed.{entries-for, counts-for, short-table, short-errors, short-thicknesses, short-list, table-judged}
use Rattle.plan.proofs.check_rest.Goals as goal

pub returns-then-table-s : goal.returns-then-table-s
returns-then-table-s c =
    judges-bad _ _ _ _ _ (ap Err c.refusal_at.ensures) (short-table (held_in c.args.head c.args.table.now) _ _ _ (omega (arith, cells-for c.requires)))

pub returns-then-errors-s : goal.returns-then-errors-s
returns-then-errors-s c =
    judges-bad _ _ _ _ _ (ap Err c.refusal_at-then-errors-s.ensures)
    (short-errors (held_in c.args.head c.args.table.now) _ _ _ (omega (arith, cells-for c.requires)) (omega (arith, entries-for c.requires)))

pub returns-then-thicknesses-s : goal.returns-then-thicknesses-s
returns-then-thicknesses-s c =
    let e = entries-for c.requires in
    judges-bad _ _ _ _ _ (ap Err c.refusal_at-then-thicknesses-s.ensures)
    (short-thicknesses (held_in c.args.head c.args.table.now) _ _ _ (omega (arith, cells-for c.requires)) (omega (arith, e)) (omega (arith, e)))

pub returns-then-list-s : goal.returns-then-list-s
returns-then-list-s c =
    let e = entries-for c.requires in
    judges-bad _ _ _ _ _ (ap Err c.refusal_at-then-list-s.ensures)
    (short-list (held_in c.args.head c.args.table.now) _ _ _ (omega (arith, cells-for c.requires)) (omega (arith, e)) (omega (arith, e)) (omega (arith, counts-for c.requires)))

pub returns : goal.returns
returns c =
    let e = entries-for c.requires in
    table-judged (held_in c.args.head c.args.table.now) _ _ _ (omega (arith, cells-for c.requires)) (omega (arith, e)) (omega (arith, e)) (omega (arith, counts-for c.requires))
    c.requires _ c.check_table.ensures
