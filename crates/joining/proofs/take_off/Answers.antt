-- The refusals of `check_taking`, or every cell is made anew; 9 not being given, none of the second is greater than the first's.
use Rattle.std.proofs.Common.{◌≡◌, ℕ, ◌-◌, List, refl, arith, rules, Ok}
use Rattle.plate.specs.Head.{Held, held_in, SettingsFor}
use Rattle.plate.specs.Settings.{Judges}
use Rattle.plate.specs.declared.settings.Settings.{Settings}
use Rattle.plate.proofs.Calls.{handed-does, works}
use Rattle.plate.proofs.Heads.{cells-for}
use Rattle.joining.specs.Joining.{PairInOrder, Combined, taken, taking}
use Rattle.joining.proofs.Combined.{combined-is}
use Rattle.joining.proofs.Passed.{take-passed, take_part}
use Rattle.joining.proofs.take_off.Goals as goal

module _ (held other : Held) {s : Settings} (j : Judges (Ok s) (taking held other).checks held.head.height held.head.members) where
  for : SettingsFor held.head s
  for = let g = j.good _ refl in record { is = g.0; sound = g.1 }

  ready : PairInOrder held other s
  ready = take-passed held other for j.says

  whole : (rule : ℕ → ℕ → ℕ → Type 0) (now : List ℕ) → ((x y z : ℕ) → rule x y z → z ≡ x - y) → Combined rule s.cells other.buffer held.buffer now
      → now ≡ taken held other
  unfolding taken
  whole rule now same c = combined-is c (λ x y. x - y) _ (cells-for for) same

pub returns-in_err-s : goal.returns-in_err-s
unfolding taking
returns-in_err-s c =
    let a = c.args in
    handed-does _ _ c.from_residual.ensures.1 (taking (held_in a.head a.table.now) (held_in a.other_head a.other.now)) c.in_err-s.ensures.says

pub combine-requires-clause-cells_in_bounds : goal.combine-requires-clause-cells_in_bounds
combine-requires-clause-cells_in_bounds c =
    let a = c.args in
    let p = ready (held_in a.head a.table.now) (held_in a.other_head a.other.now) c.in_ok-s.ensures in
    (p.one.room, p.two.room)

pub combine-requires-clause-by_index : goal.combine-requires-clause-by_index
combine-requires-clause-by_index c =
    let a = c.args in
    let held = held_in a.head a.table.now in
    let other = held_in a.other_head a.other.now in
    λ i l _ _ _ _. take_part held other c.in_ok-s.ensures.says i (omega (arith, cells-for (for held other c.in_ok-s.ensures)))

pub returns : goal.returns
unfolding taking
returns c =
    let a = c.args in
    let held = held_in a.head a.table.now in
    let other = held_in a.other_head a.other.now in
    works (taking held other) _ _ c.in_ok-s.ensures.says c.without.ensures
    (whole held other c.in_ok-s.ensures _ _ (λ x y z k. search rules) c.combine.ensures)
