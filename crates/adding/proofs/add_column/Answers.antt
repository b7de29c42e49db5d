-- The refusals of `check_adding`, and then what `add_ordered` does.
use Rattle.std.proofs.Common.{◌≡◌, ℕ, List, [], ◌∷◌, refl, sym, ap, ◌∙◌, subst, arith}
use mathlib.Core.Option.{Option}
use Rattle.lists.specs.Checks.{first}
use Rattle.paper.specs.Layer.{Column, column_of, IsColumn}
use Rattle.plate.specs.Call.{Does}
use Rattle.plate.specs.Refusal.{Told, Numbered, told_by, after}
use Rattle.plate.specs.Head.{Held, held_in, more, SettingsFor}
use Rattle.plate.specs.Settings.{settings_checks}
use Rattle.plate.specs.declared.head.Head.{Head}
use Rattle.plate.proofs.Calls.{handed-does, stopped, passed}
use Rattle.plate.proofs.Heads.{cells-for, height-for}
use Rattle.adding.specs.Adding.{overfull_cell, add_rest, added, adding}
use Rattle.adding.specs.Ordered.{order_rest, order_checks, adding_ordered}
use Rattle.adding.proofs.Passed.{room-passed, few-passed, order-passed}
use Rattle.adding.proofs.add_column.Goals as goal

-- 6 is the last check: where those before it pass, what is done with the rest is the call

then : (held : Held) (column : Column) → first (overfull_cell held column ∷ []) ≡ first (adding held column).checks
    → {told : Told Head} {now : List ℕ} → Does (adding_ordered held column) told now → Does (adding held column) told now
unfolding adding adding_ordered
then held column e d = record {
  tells = d.tells ∙ ap (λ (o : Option Numbered). told_by o (more held.head)) e;
  leaves = d.leaves ∙ ap (λ (o : Option Numbered). after (told_by o (more held.head)) (added held column) held.buffer) e;
}

pub returns-in_err-s : goal.returns-in_err-s
unfolding adding add_rest order_checks order_rest settings_checks
returns-in_err-s c =
    let held = held_in c.args.head c.args.table.now in
    let column = column_of c.args.column.now in
    handed-does _ _ c.from_residual.ensures.1 (adding held column) (stopped c.in_err-s.ensures (overfull_cell held column ∷ []) _ refl)

pub add_ordered-requires-clause-settings_for : goal.add_ordered-requires-clause-settings_for
add_ordered-requires-clause-settings_for c = let g = c.in_ok-s.ensures.good _ refl in record { is = g.0; sound = g.1 }

pub add_ordered-requires-clause-head_value : goal.add_ordered-requires-clause-head_value
add_ordered-requires-clause-head_value c =
    let held = held_in c.args.head c.args.table.now in
    let column = column_of c.args.column.now in
    let g = c.in_ok-s.ensures.good _ refl in
    let k : SettingsFor c.args.head c.in_ok-s.s = record { is = g.0; sound = g.1 } in
    (few-passed held column c.in_ok-s.ensures.says, omega (arith, room-passed held column c.in_ok-s.ensures.says, cells-for k))

pub add_ordered-requires-clause-column : goal.add_ordered-requires-clause-column
add_ordered-requires-clause-column c =
    let held = held_in c.args.head c.args.table.now in
    let column = column_of c.args.column.now in
    let g = c.in_ok-s.ensures.good _ refl in
    let k : SettingsFor c.args.head c.in_ok-s.s = record { is = g.0; sound = g.1 } in
    subst (λ (N : ℕ). IsColumn N column) (sym (height-for k)) (order-passed held column c.in_ok-s.ensures.says)

pub returns : goal.returns
unfolding adding add_rest order_checks order_rest settings_checks
returns c =
    let held = held_in c.args.head c.args.table.now in
    let column = column_of c.args.column.now in
    then held column (passed c.in_ok-s.ensures (overfull_cell held column ∷ []) _ refl) c.add_ordered.ensures
