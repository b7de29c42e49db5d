-- Document 02 g): the laws of `paper`'s difference hold of the picture that is answered, since it is `paper`'s, of a column in order and of a thickness
-- in T. That the ends of the difference are where no boundary lies inside the layer is the share's law. Assumes nothing.
use Prim.Native.Nat.{ℕ, ◌+◌, ◌*◌, ◌≤◌, ◌<◌}
use mathlib.Core.Path.{◌≡◌, refl, ap, subst}
use mathlib.Core.Logic.{◌↔◌}
use mathlib.Core.Bool.{Bool, true, false}
use mathlib.Core.List.{List}
use mathlib.Core.Option.{none}
use native.Mathlib.Decide.{dec_lt}
use native.Mathlib.Omega.{arith}
use borrow.Author.Tests.{not-false}
use lib.IntN.{ℤ, pos, nat_abs}
use lib.Signed.{◌<ℤ◌, <ℤ_irrefl}
use Rattle.lists.specs.Checks.{first}
use Rattle.lists.proofs.Checks.{first-none}
use Rattle.paper.specs.Layer.{IsColumn, column_of, allowed, share, filled, difference, Between}
use Rattle.paper.specs.Limits.{most_thickness}
use Rattle.paper.proofs.Differences.{difference-filled, difference-tie, difference-size, difference-least, difference-most, difference-ends, difference-empty}
use Rattle.paper.proofs.Outside.{layer_below, layer-above}
use Rattle.paper.proofs.Thicknesses.{allowed-to}
use Rattle.plate.specs.Settings.{settings_checks}
use Rattle.plate.proofs.Decided.{told-done}
use Rattle.column.specs.Order.{column_checks}
use Rattle.column.specs.Picture.{layer_checks, picture_checks, judgement, picture_answer}
use Rattle.column.proofs.Between.{share-between}
use Rattle.column.proofs.Fine.{column-passed}
use Rattle.promises.specs.Shading.{Shades, Shading}

module _ (N T : ℕ) (bs : List ℕ) (z : ℤ) (t : ℕ) (fine : first (picture_checks N T bs z t) ≡ none) where
  in_order : IsColumn N (column_of bs)
  unfolding picture_checks settings_checks column_checks layer_checks
  in_order =
      let q = (first-none (picture_checks N T bs z t)).0 fine in
      column-passed N bs ((first-none (column_checks N bs)).1 (q.1.1.0, (q.1.1.1.0, tt)))

  in-set : t ≤ most_thickness
  unfolding picture_checks settings_checks column_checks layer_checks
  in-set =
      let q = (first-none (picture_checks N T bs z t)).0 fine in
      allowed-to T t (not-false (allowed T t) q.1.1.1.1.1.0)

  size : 2 * share bs z t + nat_abs (difference bs z t) ≡ t
  size = difference-size bs z t

  unfilled : (b : Bool) → filled bs z t ≡ b → difference bs z t ≡ pos 0 → b ≡ false
  unfilled true e f = absurd (<ℤ_irrefl (subst (λ (d : ℤ). pos 0 <ℤ d) f ((difference-filled bs z t).0 e)))
  unfilled false e f = refl

  no-share : (share bs z t ≡ 0) ↔ (Between bs z t → ⊥)
  no-share = (
    λ e w. let l = (share-between N (column_of bs) in_order z t).1 w in omega arith,
    λ f. go f (dec_lt 0 (share bs z t)),
  )
    where
      go : (Between bs z t → ⊥) → Dec (0 < share bs z t) → share bs z t ≡ 0
      go f (yes l) = absurd (f ((share-between N (column_of bs) in_order z t).0 l))
      go f (no l) = omega arith

  shades : Shades N bs z t (judgement bs z t)
  shades = record {
    as-filled = refl;
    as-shared = refl;
    inside-minus-outside = refl;
    small = omega (arith, size, in-set);
    filled-above = difference-filled bs z t;
    tie = difference-tie bs z t;
    tied = λ e. (unfilled (filled bs z t) refl e, omega (arith, size, ap nat_abs e), omega (arith, size, ap nat_abs e));
    shared = omega (arith, size);
    whole = size;
    parity = omega (arith, size);
    least = difference-least bs z t;
    most = difference-most bs z t;
    sure = (λ e. no-share.0 ((difference-ends bs z t).0 e), λ f. (difference-ends bs z t).1 (no-share.1 f));
    under = λ e. difference-empty bs z t (layer_below bs z t e);
    over = λ e. difference-empty bs z t (layer-above N (column_of bs) in_order z t e);
  }

pub shading : Shading
unfolding picture_answer
shading N T bs z t judged e =
    let d = told-done (first (picture_checks N T bs z t)) (judgement bs z t) judged e in
    subst (Shades N bs z t) d.1 (shades N T bs z t d.0)
