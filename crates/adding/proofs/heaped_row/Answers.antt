-- Up to the first boundary above the row's start nothing is added; from there on a cell is one exactly where it is above its cap.
use Rattle.std.proofs.Common.{◌≡◌, ℕ, ◌+◌, ◌*◌, ◌<◌, ◌≤◌, true, false, List, get_or, arith, rules, ltb-true}
use native.Mathlib.Decide.{dec_lt}
use Rattle.std.specs.Prelude.{Option, Some, None, MatchOption}
use Rattle.std.proofs.lemmas.Iterator.{first_from_Range}
use Rattle.lists.proofs.Search.{lowest-none, lowest-hit}
use Rattle.paper.specs.Layer.{column_of, IsColumn}
use Rattle.plate.specs.Settings.{Sound}
use Rattle.plate.specs.declared.settings.Settings.{Settings}
use Rattle.lists.specs.Search.{IsLowest}
use Rattle.table.specs.Limits.{above}
use Rattle.near.specs.Caps.{Allowing}
use Rattle.near.specs.Facing.{Facing}
use Rattle.adding.specs.Heaped.{heaped}
use Rattle.adding.proofs.Near.{heaped-before, heaped-no, heaped-yes}
use Rattle.adding.proofs.heaped_row.Goals as goal

module _ {s : Settings} (k : Sound s) {bs : List ℕ} (o : IsColumn s.height (column_of bs)) {row q first : ℕ} (f : Facing bs s.tmax row q first) (caps table : List ℕ) where
  -- a cell of the row that is not one
  anywhere : (j : ℕ) → j < s.tmax → (first ≤ j → above caps table (row * s.tmax) j ≡ false) → heaped s.members caps table (column_of bs) (row * s.tmax) j ≡ false
  anywhere j u h = go (dec_lt j first)
    where
      go : Dec (j < first) → heaped s.members caps table (column_of bs) (row * s.tmax) j ≡ false
      go (yes l) = heaped-before k o f j u caps table l
      go (no l) = heaped-no k o f j u caps table (h (omega arith))

  -- what a search from the first boundary on finds
  searched : Allowing s.members s.tmax caps → ((i : ℕ) → get_or table i 0 < 4294967296) → (answer : Option ℕ)
      → MatchOption answer ((j : ℕ) → first ≤ j → j < s.tmax → above caps table (row * s.tmax) j ≡ false) (λ i. (first ≤ i) × (i < s.tmax) × (above caps table (row * s.tmax) i ≡ true) × ((j : ℕ) → first ≤ j → j < i → above caps table (row * s.tmax) j ≡ false))
      → IsLowest answer (heaped s.members caps table (column_of bs) (row * s.tmax)) s.tmax
  unfolding above
  searched w fits None none = lowest-none _ _ (λ j u. anywhere j u (λ l. none j l u))
  searched w fits (Some i) some =
      let hit = heaped-yes k o f i some.1 caps table some.0 w (ltb-true _ _ some.2) (fits (row * s.tmax + i)) in
      (lowest-hit _ _ i some.1 (λ j u. anywhere j (omega (arith, some.1)) (λ l. some.3 j l u)) hit, some.1)

pub returns-then-not-any_above_cap : goal.returns-then-not-any_above_cap
returns-then-not-any_above_cap c =
    let a = c.args in
    let q = c.requires in
    lowest-none _ _ (λ j u. anywhere c.args.rows.sound c.args.rows.is_column q.facing a.rows.caps.now a.table.now j u (λ l. c.any_above_cap.ensures c.if-not-any_above_cap.true j u l))

pub returns : goal.returns
unfolding above
returns c =
    let a = c.args in
    let q = c.requires in
    let base = a.row * a.rows.s.tmax in
    searched c.args.rows.sound c.args.rows.is_column q.facing a.rows.caps.now a.table.now c.args.rows.allowing (λ i. omega (arith, c.type_inv.table i)) _
    (first_from_Range _ _ _ _ (λ x. above a.rows.caps.now a.table.now base x ≡ true) (λ x. above a.rows.caps.now a.table.now base x ≡ false) c.find.ensures.ran (λ x r k. search rules) (λ x r k. search rules))
