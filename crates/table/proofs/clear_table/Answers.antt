-- Refusals 1, 2 and 3, or every cell is 0: the front of the buffer is filled, and what stands past it stays.
use Rattle.std.proofs.Common.{◌≡◌, ℕ, zero, suc, ◌≤◌, List, [], ◌∷◌, ◌++◌, length, drop, replicate, refl, sym, ap, ◌∙◌, arith, rules, Ok}
use Rattle.std.proofs.lemmas.List.{length-take-le}
use mathlib.Core.Option.{none}
use native.Mathlib.Nat.{le_of_suc-le-suc}
use borrow.Author.Tests.{ltb-false}
use Rattle.lists.specs.Checks.{first}
use Rattle.lists.specs.Rewrite.{rewritten}
use Rattle.lists.proofs.Checks.{first-none, first-later}
use Rattle.paper.specs.Table.{cells}
use Rattle.plate.specs.Head.{held_in, cleared_head}
use Rattle.plate.specs.Settings.{settings_checks, Judges}
use Rattle.plate.specs.declared.settings.Settings.{Settings}
use Rattle.plate.proofs.Calls.{handed-does, works}
use Rattle.table.specs.Table.{short, cleared, clearing}
use Rattle.table.proofs.clear_table.Goals as goal

filled : (n : ℕ) (table : List ℕ) → n ≤ length table → replicate n 0 ++ drop n table ≡ rewritten (λ i x. 0) n table
unfolding rewritten
filled zero table h = refl
filled (suc n) [] h = absurd (omega arith)
filled (suc n) (x ∷ table) h = ap (λ (l : List ℕ). 0 ∷ l) (filled n table (le_of_suc-le-suc h))

module _ (N T : ℕ) (table : List ℕ) where
  -- passed: there is room
  room : none ≡ first (clearing N T table).checks → cells N T ≤ length table
  unfolding clearing short
  room e =
      let q = (first-none (short (held_in (cleared_head N T) table) 1 ∷ [])).0 (first-later (settings_checks N T) _ (sym e)) in
      ltb-false (length table) (cells N T) q.0

  fits : {s : Settings} → Judges (Ok s) (clearing N T table).checks N T → (s.cells ≡ cells N T) × (s.cells ≤ length table)
  fits {s} j = let e : s.cells ≡ cells N T = ap (λ (s : Settings). s.cells) (j.good s refl).0 in (e, omega (arith, room j.says))

  whole : (n : ℕ) (front : List ℕ) → n ≡ cells N T → n ≤ length table → front ≡ replicate n 0 → front ++ drop n table ≡ (clearing N T table).writes
  unfolding clearing cleared
  whole n front e h f = ap (λ (l : List ℕ). l ++ drop n table) f ∙ filled n table h ∙ ap (λ (k : ℕ). rewritten (λ i x. 0) k table) e

pub returns-in_err-s : goal.returns-in_err-s
unfolding clearing
returns-in_err-s c = let a = c.args in handed-does _ _ c.from_residual.ensures.1 (clearing a.height a.members a.table.now) c.in_err-s.ensures.says

pub slice_bounds-fill-end : goal.slice_bounds-fill-end
slice_bounds-fill-end c = (fits _ _ _ c.in_ok-s.ensures).1

pub slice_bounds-fill-end-2 : goal.slice_bounds-fill-end-2
slice_bounds-fill-end-2 c = sym (length-take-le _ _ (fits _ _ _ c.in_ok-s.ensures).1)

pub returns : goal.returns
unfolding clearing
returns c =
    let a = c.args in
    let k = fits _ _ _ c.in_ok-s.ensures in
    works (clearing a.height a.members a.table.now) _ _ c.in_ok-s.ensures.says c.cleared.ensures
    (whole a.height a.members a.table.now _ _ k.0 k.1 (c.fill.ensures.after (search rules) ∙ ap (λ (n : ℕ). replicate n 0) (length-take-le _ _ k.1)))
