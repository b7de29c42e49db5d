-- Where all before it passed, asking a table asks 6 alone.
use Rattle.std.proofs.Common.{◌≡◌, [], ◌∷◌, sym, ap, ◌∙◌}
use mathlib.Core.Option.{none, some}
use Rattle.lists.specs.Checks.{first}
use Rattle.lists.proofs.Checks.{first-passed, first-stopped}
use Rattle.plate.specs.Head.{Held}
use Rattle.plate.specs.Refusal.{Numbered, said_by}
use Rattle.plate.proofs.Calls.{handed-is}
use Rattle.table.specs.Table.{out_cell}
use Rattle.table.proofs.Passed.{table-asks-cells}
use Rattle.joining.specs.Joining.{out_checks}
use Rattle.joining.proofs.check_cells.Goals as goal

module _ (held other : Held) where
  one-said : (r : Numbered) → some r ≡ first (out_cell held ∷ []) → some r ≡ first (out_checks held other)
  unfolding out_checks
  one-said r e = sym (first-stopped (out_cell held ∷ []) (out_cell other ∷ []) r (sym e))

  two_said : none ≡ first (out_cell held ∷ []) → first (out_cell other ∷ []) ≡ first (out_checks held other)
  unfolding out_checks
  two_said e = sym (first-passed (out_cell held ∷ []) (out_cell other ∷ []) (sym e))

pub returns-in_err-check_table : goal.returns-in_err-check_table
returns-in_err-check_table c =
    let p = c.requires.0 in
    ap said_by (handed-is _ _ c.from_residual.ensures.1)
    ∙ one-said _ _ _ (c.in_err-check_table.ensures.says ∙ table-asks-cells _ p.fine p.room p.few)

pub returns-in_err-check_table-2 : goal.returns-in_err-check_table-2
returns-in_err-check_table-2 c =
    let p = c.requires.0 in
    let q = c.requires.1 in
    ap said_by (handed-is _ _ c.from_residual-in_err-check_table-2.ensures.1)
    ∙ c.in_err-check_table-2.ensures.says
    ∙ table-asks-cells _ q.fine q.room q.few
    ∙ two_said _ _ (c.in_ok-check_table.ensures.says ∙ table-asks-cells _ p.fine p.room p.few)

pub returns : goal.returns
returns c =
    let p = c.requires.0 in
    let q = c.requires.1 in
    c.in_ok-check_table-2.ensures.says
    ∙ table-asks-cells _ q.fine q.room q.few
    ∙ two_said _ _ (c.in_ok-check_table.ensures.says ∙ table-asks-cells _ p.fine p.room p.few)
