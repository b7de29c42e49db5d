-- `check_column` meets its contract: its tests are the two checks, in their order; a boundary is searched for only where one may be misplaced.
-- Assumes nothing.
use Rattle.std.proofs.Common.{sym, ap, ◌∙◌, length, arith}
use mathlib.Core.Option.{some}
use borrow.Author.Tests.{lt-ltb, le-ltb}
use Rattle.lists.proofs.Search.{lowest-none}
use Rattle.plate.specs.Refusal.{numbered}
use Rattle.plate.specs.declared.refusal.Refusal.{Refusal}
use Rattle.column.specs.Order.{misplaced, first_misplaced, column_checks}
use Rattle.column.proofs.check_column.Goals as goal

pub returns-then-is_wrong_count : goal.returns-then-is_wrong_count
unfolding column_checks
returns-then-is_wrong_count c =
    ap (λ (r : Refusal). some (numbered r)) c.refusal_at.ensures ∙ simp (sym c.is_wrong_count.ensures ∙ c.if-is_wrong_count.true)

pub returns-then-not-any_misplaced : goal.returns-then-not-any_misplaced
unfolding column_checks first_misplaced
returns-then-not-any_misplaced c =
    let bs = c.args.column.now in
    let none = lowest-none (misplaced c.args.height bs) (length bs) (c.any_misplaced.ensures c.if-not-any_misplaced.true) in
    simp (sym c.is_wrong_count.ensures ∙ c.if-is_wrong_count.false, none, le-ltb (length bs) (length bs) (omega arith))

pub returns-in-Some : goal.returns-in-Some
unfolding column_checks first_misplaced
returns-in-Some c =
    let e = c.in-Some.ensures in
    ap (λ (r : Refusal). some (numbered r)) c.refusal_at-in-Some.ensures
    ∙ simp (sym c.is_wrong_count.ensures ∙ c.if-is_wrong_count.false, e.0, lt-ltb c.in-Some.at (length c.args.column.now) e.1)

pub returns-in-None : goal.returns-in-None
unfolding column_checks first_misplaced
returns-in-None c =
    let bs = c.args.column.now in
    simp (sym c.is_wrong_count.ensures ∙ c.if-is_wrong_count.false, c.in-None.ensures, le-ltb (length bs) (length bs) (omega arith))
