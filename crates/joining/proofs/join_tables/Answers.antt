-- The refusals of `check_both`, or every cell is made anew; the sums fit, since both cells are in bounds.
use Rattle.std.proofs.Common.{◌≡◌, ℕ, ◌+◌, List, Bool, false, ◌||◌, ◌∙◌, refl, ap₂, subst, arith, rules, Ok}
use Rattle.std.specs.Prelude.{Result}
use Rattle.lists.proofs.Checks.{or-false}
use Rattle.plate.specs.Head.{Held, held_in, both, is_over, either_over, SettingsFor}
use Rattle.plate.specs.Settings.{Judges}
use Rattle.plate.specs.declared.refusal.Refusal.{Refusal}
use Rattle.plate.specs.declared.settings.Settings.{Settings}
use Rattle.plate.proofs.Calls.{handed-does, works}
use Rattle.plate.proofs.Heads.{cells-for}
use Rattle.joining.specs.Joining.{both_checks, PairInOrder, Combined, joined, joining}
use Rattle.joining.proofs.Combined.{combined-is}
use Rattle.joining.proofs.Passed.{both-passed, seven-passed}
use Rattle.joining.proofs.join_tables.Goals as goal

module _ (held other : Held) where
  -- 7 for either count or the sum
  judged : {one two sum : Bool} {made : Result Settings Refusal} → one ≡ is_over held.head → two ≡ is_over other.head → sum ≡ is_over (both held.head other.head)
      → Judges made (both_checks (one || two || sum) held other) held.head.height held.head.members → Judges made (joining held other).checks held.head.height held.head.members
  unfolding joining
  judged {one} {two} {sum} {made} e f g j =
      subst (λ (b : Bool). Judges made (both_checks b held other) held.head.height held.head.members) (ap₂ ◌||◌ (ap₂ ◌||◌ e f) g) j

  module _ {s : Settings} (j : Judges (Ok s) (joining held other).checks held.head.height held.head.members) where
    for : SettingsFor held.head s
    for = let g = j.good _ refl in record { is = g.0; sound = g.1 }

    ready : PairInOrder held other s
    unfolding joining
    ready = both-passed _ held other for (λ e. (or-false _ _ e).0) j.says

    few : is_over (both held.head other.head) ≡ false
    unfolding joining
    few = (or-false (either_over held.head other.head) (is_over (both held.head other.head)) (seven-passed _ held other j.says)).1

    whole : (rule : ℕ → ℕ → ℕ → Type 0) (now : List ℕ) → ((x y z : ℕ) → rule x y z → z ≡ x + y) → Combined rule s.cells other.buffer held.buffer now
        → now ≡ joined held other
    unfolding joined
    whole rule now same c = combined-is c (λ x y. x + y) _ (cells-for for) same

pub returns-in_err-s : goal.returns-in_err-s
unfolding joining
returns-in_err-s c =
    let a = c.args in
    let held = held_in a.head a.table.now in
    let other = held_in a.other_head a.other.now in
    let j = judged held other c.is_over.ensures c.is_over-2.ensures c.is_over_with.ensures c.in_err-s.ensures in
    handed-does _ _ c.from_residual.ensures.1 (joining held other) j.says

pub combine-requires-clause-cells_in_bounds : goal.combine-requires-clause-cells_in_bounds
combine-requires-clause-cells_in_bounds c =
    let a = c.args in
    let held = held_in a.head a.table.now in
    let other = held_in a.other_head a.other.now in
    let j = judged held other c.is_over.ensures c.is_over-2.ensures c.is_over_with.ensures c.in_ok-s.ensures in
    let p = ready held other j in
    (p.one.room, p.two.room)

pub combine-requires-clause-by_index : goal.combine-requires-clause-by_index
combine-requires-clause-by_index c =
    let a = c.args in
    let held = held_in a.head a.table.now in
    let other = held_in a.other_head a.other.now in
    let j = judged held other c.is_over.ensures c.is_over-2.ensures c.is_over_with.ensures c.in_ok-s.ensures in
    let p = ready held other j in
    λ i l _ _ _ _. omega (arith, p.one.small.are i l, p.two.small.are i l)

pub returns : goal.returns
unfolding joining
returns c =
    let a = c.args in
    let held = held_in a.head a.table.now in
    let other = held_in a.other_head a.other.now in
    let j = judged held other c.is_over.ensures c.is_over-2.ensures c.is_over_with.ensures c.in_ok-s.ensures in
    let e : c.joined_with.result ≡ both a.head a.other_head = c.joined_with.ensures ∙ rw (few held other j) in
    works (joining held other) _ _ j.says e (whole held other j _ _ (λ x y z k. search rules) c.combine.ensures)
