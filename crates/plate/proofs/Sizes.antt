-- The sizes that follow from settings in range: each is as `Sound` says; and settings of which that is known are in range. Assumes nothing.
use mathlib.Core.Path.{◌≡◌, refl, ap, ◌∙◌}
use Prim.Native.Nat.{ℕ, ◌+◌, ◌-◌, ◌*◌, ◌^◌, ◌≤◌, ◌<◌}
use native.Mathlib.Nat.{mul-le-mul}
use native.Mathlib.Omega.{arith}
use mathlib.Core.Option.{none}
use borrow.Author.Tests.{le-ltb, ne_eqb}
use Rattle.lists.specs.Checks.{first}
use Rattle.paper.specs.Limits.{least_height, greatest_height}
use Rattle.paper.specs.Layer.{tmin, tmax}
use Rattle.paper.specs.Table.{rows, cells}
use Rattle.paper.specs.Sequence.{M}
use Rattle.paper.specs.Sheets.{heights, entries}
use Rattle.paper.specs.Layer as paper
use Rattle.paper.proofs.Counts.{counts-few}
use Rattle.paper.proofs.Thicknesses.{tmax-le, tmax-member, tmin-least, empty-is-zero}
use Rattle.plate.specs.Settings.{settings_checks, settings_of, Sound}
use Rattle.plate.specs.declared.settings.Settings.{Settings}

-- a set that is not 0 has a greatest member
pub some-member : (T : ℕ) → T < 2 ^ 32 → (T ≡ 0 → ⊥) → 1 ≤ tmax T
some-member T h n = let f : tmax T ≡ 0 → ⊥ = (λ z. n ((empty-is-zero T h).0 z)) in omega arith

pub sound : (N T : ℕ) → paper.Settings N T → Sound (settings_of N T)
unfolding rows cells heights entries
sound N T s =
    let a = tmax-le T in
    let b = tmin-least T (tmax T) (tmax-member T s.some-thickness) in
    let r : N + 2 * tmax T - 2 ≤ 574 = omega (arith, s.greatest-height) in
    let c = counts-few N T s.greatest-height in
    record {
      low = s.least-height;
      high = s.greatest-height;
      thin = b.0;
      order = b.1;
      thick = a;
      least = refl;
      greatest = refl;
      rows_are = refl;
      cells_are = refl;
      few-cells = omega (arith, mul-le-mul r a);
      counts-are = refl;
      few-counts = c;
      entries-are = ap (λ (x : ℕ). x * (M N T + 1)) (omega (arith, s.least-height, s.some-thickness));
      few-entries =
          let h : N + 2 * tmax T - 1 ≤ 575 = omega arith in
          let w : M N T + 1 ≤ 513 = omega arith in
          omega (arith, mul-le-mul h w);
    }

-- the settings that are made of a least and a greatest member, and of a greatest count
abbrev pub made_of : ℕ → ℕ → ℕ → ℕ → ℕ → Settings
made_of N T lo hi count = record {
  height = N;
  members = T;
  tmin = lo;
  tmax = hi;
  rows = N + 2 * hi - 2;
  cells = (N + 2 * hi - 2) * hi;
  counts = count;
  entries = (N + 2 * hi - 2 + 1) * (count + 1);
}

pub made-is : (N T lo hi count : ℕ) → 1 ≤ N → 1 ≤ hi → lo ≡ tmin T → hi ≡ tmax T → count ≡ M N T → made_of N T lo hi count ≡ settings_of N T
unfolding rows cells heights entries
made-is N T lo hi count n h p q m =
    ap (λ (e : ℕ). record { height = N; members = T; tmin = lo; tmax = hi; rows = N + 2 * hi - 2; cells = (N + 2 * hi - 2) * hi; counts = count; entries = e * (count + 1) })
    (let e : N + 2 * hi - 2 + 1 ≡ N + 2 * hi - 1 = omega arith in e)
    ∙ rw (p, q, m)

-- settings that were made pass 1 and 2
pub settings-fine : (N T : ℕ) → Sound (settings_of N T) → first (settings_checks N T) ≡ none
unfolding settings_checks
settings-fine N T k =
    let f : T ≡ 0 → ⊥ = (λ z. let e = (empty-is-zero T (omega arith)).1 z in absurd (omega (arith, e, k.thin, k.order))) in
    simp (le-ltb N least_height k.low, le-ltb greatest_height N k.high, ne_eqb T 0 f)
