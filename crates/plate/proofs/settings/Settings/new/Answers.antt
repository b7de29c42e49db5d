-- `Settings::new` meets its contract. Past the tests N and T are settings in the paper's sense, so that the least and the greatest
-- member are there, every size is small, and the sizes are those of `settings_of`. Assumes nothing.
use Rattle.std.proofs.Common.{ℕ, ◌<◌, ◌^◌, ◌≡◌, ◌≤◌, refl, sym, ap, subst, arith}
use mathlib.Core.Option.{none}
use borrow.Author.Tests.{lt-ltb, le-ltb, eq-eqb, ne_eqb}
use Rattle.paper.specs.Layer as paper
use Rattle.paper.specs.Layer.{tmin, tmax}
use Rattle.paper.specs.Sequence.{M}
use Rattle.lists.specs.Checks.{first}
use Rattle.plate.specs.Settings.{settings_checks, settings_of, Sound}
use Rattle.plate.specs.declared.refusal.Refusal.{Refusal}
use Rattle.plate.proofs.Calls.{judges-bad, judges-good}
use Rattle.plate.proofs.Sizes.{some-member, sound, made_of, made-is}
use Rattle.plate.proofs.settings.Settings.new.Goals as goal
use Rattle.std.specs.Prelude.{Err}

pub returns-then-height-lt-LEAST_HEIGHT : goal.returns-then-height-lt-LEAST_HEIGHT
unfolding settings_checks
returns-then-height-lt-LEAST_HEIGHT c = judges-bad _ _ _ _ _ (ap (λ (r : Refusal). Err r) c.refusal_at.ensures) (simp (lt-ltb _ _ c.if-height-lt-LEAST_HEIGHT.true))

pub returns-then-height-gt-GREATEST_HEIGHT : goal.returns-then-height-gt-GREATEST_HEIGHT
unfolding settings_checks
returns-then-height-gt-GREATEST_HEIGHT c =
    judges-bad _ _ _ _ _ (ap (λ (r : Refusal). Err r) c.refusal_at-then-height-gt-GREATEST_HEIGHT.ensures)
    (simp (le-ltb _ _ c.if-height-lt-LEAST_HEIGHT.false, lt-ltb _ _ c.if-height-gt-GREATEST_HEIGHT.true))

pub returns-then-members-eq0 : goal.returns-then-members-eq0
unfolding settings_checks
returns-then-members-eq0 c =
    judges-bad _ _ _ _ _ (ap (λ (r : Refusal). Err r) c.refusal_at-then-members-eq0.ensures)
    (simp (le-ltb _ _ c.if-height-lt-LEAST_HEIGHT.false, le-ltb _ _ c.if-height-gt-GREATEST_HEIGHT.false, eq-eqb _ _ c.if-members-eq0.true))

-- past the tests
settings : (N T : ℕ) → 1 ≤ N → N ≤ 512 → T < 2 ^ 32 → (T ≡ 0 → ⊥) → paper.Settings N T
settings N T low high fits some = record { least-height = low; greatest-height = high; bits = fits; some-thickness = some-member T fits some }

-- the greatest member, by its bounds
greatest-in : (N T hi : ℕ) → hi ≡ tmax T → paper.Settings N T → (1 ≤ hi) × (hi ≤ 32)
greatest-in N T hi e s = (omega (arith, s.some-thickness), let k = sound N T s in omega (arith, k.thick))

-- the sizes that are made, as those of the settings
module _ (N T lo hi count : ℕ) (p : lo ≡ tmin T) (q : hi ≡ tmax T) (m : count ≡ M N T) (s : paper.Settings N T) where
  same : made_of N T lo hi count ≡ settings_of N T
  same = made-is N T lo hi count s.least-height (greatest-in N T hi q s).0 p q m

  good : Sound (made_of N T lo hi count)
  good = subst Sound (sym same) (sound N T s)

pub overflow_mul-rows : goal.overflow_mul-rows
overflow_mul-rows c = let k = greatest-in _ _ _ c.greatest_of-greatest.ensures (settings _ _ c.if-height-lt-LEAST_HEIGHT.false c.if-height-gt-GREATEST_HEIGHT.false c.ranges.members.fits c.if-members-eq0.false) in omega (arith, k.0, k.1)

pub overflow_add-rows : goal.overflow_add-rows
overflow_add-rows c = let k = greatest-in _ _ _ c.greatest_of-greatest.ensures (settings _ _ c.if-height-lt-LEAST_HEIGHT.false c.if-height-gt-GREATEST_HEIGHT.false c.ranges.members.fits c.if-members-eq0.false) in omega (arith, k.0, k.1)

pub overflow_sub-rows : goal.overflow_sub-rows
overflow_sub-rows c = let k = greatest-in _ _ _ c.greatest_of-greatest.ensures (settings _ _ c.if-height-lt-LEAST_HEIGHT.false c.if-height-gt-GREATEST_HEIGHT.false c.ranges.members.fits c.if-members-eq0.false) in omega (arith, k.0, k.1)

pub greatest_count-counts-requires-clause-paper_settings : goal.greatest_count-counts-requires-clause-paper_settings
greatest_count-counts-requires-clause-paper_settings c =
    settings _ _ c.if-height-lt-LEAST_HEIGHT.false c.if-height-gt-GREATEST_HEIGHT.false c.ranges.members.fits c.if-members-eq0.false

pub overflow_mul-result : goal.overflow_mul-result
overflow_mul-result c = let k = (good _ _ _ _ _ c.least_of-least.ensures c.greatest_of-greatest.ensures c.greatest_count-counts.ensures.0 (settings _ _ c.if-height-lt-LEAST_HEIGHT.false c.if-height-gt-GREATEST_HEIGHT.false c.ranges.members.fits c.if-members-eq0.false)) in omega (arith, k.few-cells)

pub overflow_add-result : goal.overflow_add-result
overflow_add-result c = let k = greatest-in _ _ _ c.greatest_of-greatest.ensures (settings _ _ c.if-height-lt-LEAST_HEIGHT.false c.if-height-gt-GREATEST_HEIGHT.false c.ranges.members.fits c.if-members-eq0.false) in omega (arith, k.0, k.1)

pub overflow_mul-result-2 : goal.overflow_mul-result-2
overflow_mul-result-2 c = let k = (good _ _ _ _ _ c.least_of-least.ensures c.greatest_of-greatest.ensures c.greatest_count-counts.ensures.0 (settings _ _ c.if-height-lt-LEAST_HEIGHT.false c.if-height-gt-GREATEST_HEIGHT.false c.ranges.members.fits c.if-members-eq0.false)) in omega (arith, k.few-entries)

pub returns : goal.returns
unfolding settings_checks
returns c =
    let made = (settings _ _ c.if-height-lt-LEAST_HEIGHT.false c.if-height-gt-GREATEST_HEIGHT.false c.ranges.members.fits c.if-members-eq0.false) in
    let fine : none ≡ first (settings_checks c.args.height c.args.members) =
    simp (le-ltb _ _ c.if-height-lt-LEAST_HEIGHT.false, le-ltb _ _ c.if-height-gt-GREATEST_HEIGHT.false, ne_eqb _ _ c.if-members-eq0.false) in
    judges-good _ _ _ _ _ refl (same _ _ _ _ _ c.least_of-least.ensures c.greatest_of-greatest.ensures c.greatest_count-counts.ensures.0 made, good _ _ _ _ _ c.least_of-least.ensures c.greatest_of-greatest.ensures c.greatest_count-counts.ensures.0 made) fine
