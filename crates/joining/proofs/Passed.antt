-- Joining and taking off where none of the refusals is given: the second table has the first's settings, both are in order, and 9 says that
-- every cell of the second is at most the first's. Assumes nothing.
use Rattle.std.proofs.Common.{◌≡◌, ℕ, ◌<◌, ◌≤◌, Bool, true, false, not, ◌&&◌, eqb, [], ◌∷◌, length, get_or, sym, refl, ◌∙◌, ap₂, arith, ltb-false, eqb-true}
use mathlib.Core.Option.{none}
use Rattle.lists.specs.Checks.{first}
use Rattle.lists.proofs.Checks.{first-none, first-later, first-earlier, or-false}
use Rattle.plate.specs.Head.{Held, is_over, either_over, is_less, cells_of, head_checks, SettingsFor}
use Rattle.plate.specs.Settings.{settings_of}
use Rattle.plate.specs.declared.head.Head.{Head}
use Rattle.plate.specs.declared.settings.Settings.{Settings}
use Rattle.plate.proofs.Heads.{cells-for}
use Rattle.table.specs.Cells.{first_out}
use Rattle.table.specs.Table.{short, out_cell}
use Rattle.table.proofs.Passed.{in_order}
use Rattle.joining.specs.Parts.{first_not_part}
use Rattle.joining.specs.Joining.{differ, pair_checks, out_checks, rest_checks, both_checks, PairInOrder, part_checks, taking}
use Rattle.joining.proofs.Parts.{part-le}

-- two pairs of numbers that do not differ
same : (a b c d : ℕ) → not (eqb a b && eqb c d) ≡ false → (a ≡ b) × (c ≡ d)
same a b c d e = go (eqb a b) (eqb c d) (eqb-true a b) (eqb-true c d) e
  where
    go : (x y : Bool) → (x ≡ true → a ≡ b) → (y ≡ true → c ≡ d) → not (x && y) ≡ false → (a ≡ b) × (c ≡ d)
    go true true f g e = (f refl, g refl)
    go true false f g e = absurd (let z : ◌≡◌ {A = ℕ} 0 1 = cc in omega arith)
    go false y f g e = absurd (let z : ◌≡◌ {A = ℕ} 0 1 = cc in omega arith)

module _ (head other : Head) {s : Settings} (k : SettingsFor head s) where
  -- 8 passed: the settings are the second's too
  pub pair-passed : none ≡ first (pair_checks head other) → SettingsFor other s
  unfolding pair_checks differ
  pair-passed e =
      let q = (first-none (differ head other ∷ [])).0 (first-later (head_checks other) _ (first-later (head_checks head) _ (sym e))) in
      let p = same head.height other.height head.members other.members q.0 in
      record { is = k.is ∙ ap₂ settings_of p.0 p.1; sound = k.sound }

module _ (beyond : Bool) (held other : Held) {s : Settings} (k : SettingsFor held.head s) where
  -- all of 1, 2, 8, 3, 7, 6
  pub both-passed : (beyond ≡ false → either_over held.head other.head ≡ false) → none ≡ first (both_checks beyond held other) → PairInOrder held other s
  unfolding both_checks rest_checks short out_checks out_cell
  both-passed few e =
      let r = first-later (pair_checks held.head other.head) (rest_checks beyond held other) (sym e) in
      let q = (first-none (rest_checks beyond held other)).0 r in
      let o = pair-passed held.head other.head k (sym (first-earlier (pair_checks held.head other.head) (rest_checks beyond held other) (sym e))) in
      let f = or-false (is_over held.head) (is_over other.head) (few q.1.1.0) in
      let room = ltb-false (length held.buffer) (cells_of held.head) q.0 in
      let room' = ltb-false (length other.buffer) (cells_of other.head) q.1.0 in
      record {
        for-other = o;
        one = in_order held k (omega (arith, room, cells-for k)) f.0 (ltb-false (first_out held) (cells_of held.head) q.1.1.1.0);
        two = in_order other o (omega (arith, room', cells-for o)) f.1 (ltb-false (first_out other) (cells_of other.head) q.1.1.1.1.0);
      }

-- 7 alone
pub seven-passed : (beyond : Bool) (held other : Held) → none ≡ first (both_checks beyond held other) → beyond ≡ false
unfolding both_checks rest_checks
seven-passed beyond held other e =
    let q = (first-none (rest_checks beyond held other)).0 (first-later (pair_checks held.head other.head) (rest_checks beyond held other) (sym e)) in
    q.1.1.0

-- 9, and taking off
module _ (held other : Held) where
  part-passed : none ≡ first (part_checks held other) → (is_less held.head other.head ≡ false) × (cells_of held.head ≤ first_not_part held other)
  unfolding part_checks
  part-passed e =
      let q = (first-none (part_checks held other)).0 (sym e) in
      (q.0, ltb-false (first_not_part held other) (cells_of held.head) q.1.0)

  pub take-passed : {s : Settings} → SettingsFor held.head s → none ≡ first (taking held other).checks → PairInOrder held other s
  unfolding taking
  take-passed k e =
      both-passed (either_over held.head other.head) held other k (λ e. e)
      (sym (first-earlier (both_checks (either_over held.head other.head) held other) (part_checks held other) (sym e)))

  pub take_part : none ≡ first (taking held other).checks → (i : ℕ) → i < cells_of held.head → get_or other.buffer i 0 ≤ get_or held.buffer i 0
  unfolding taking
  take_part e i l =
      let p = part-passed (sym (first-later (both_checks (either_over held.head other.head) held other) (part_checks held other) (sym e))) in
      part-le held other p.1 i l
