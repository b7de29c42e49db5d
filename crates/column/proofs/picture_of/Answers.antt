-- `picture_of` meets its contract: the column's own checks, the start against the table's, the thickness against T, and then the
-- picture at the start's datum height, which stands for the start. Assumes nothing.
use Rattle.std.proofs.Common.{◌<◌, ◌≡◌, ℕ, ◌+◌, ◌≤◌, ◌++◌, List, true, false, ℤ, sym, ap, ◌∙◌, arith}
use mathlib.Core.Option.{none}
use mir.Syntax.{w32}
use mir.Val.{SFits, to_z, of_z}
use Rattle.plate.specs.Settings.{Sound}
use Rattle.plate.specs.declared.settings.Settings.{Settings}
use mir.ValLaws.{to_z-of_z}
use borrow.Author.Rules.{sfits_of}
use Rattle.lists.specs.Checks.{first}
use Rattle.paper.specs.Layer.{allowed, inside_count}
use Rattle.plate.specs.Refusal.{done, refused, refusal, decided}
use Rattle.plate.specs.declared.refusal.Refusal.{Refusal}
use Rattle.plate.specs.Datum.{datum, height_of}
use Rattle.paper.proofs.Thicknesses.{allowed-to}
use Rattle.plate.proofs.Datum.{height-datum}
use Rattle.plate.proofs.Decided.{decided-passed}
use Rattle.plate.proofs.Signed.{datum-back}
use Rattle.plate.proofs.Calls.{handed-decided}
use Rattle.column.specs.Order.{column_checks}
use Rattle.column.specs.Picture.{start_outside, layer_checks}
use Rattle.column.specs.declared.Judged.{Judged}
use Rattle.column.proofs.Shares.{derived}
use Rattle.column.proofs.Starts.{start-low, start-high, start-in}
use Rattle.column.proofs.picture_of.Goals as goal

-- past the column's own checks
module _ (N T : ℕ) (bs : List ℕ) (z : ℤ) (t : ℕ) (x : Judged) (fine : none ≡ first (column_checks N bs)) where
  out-start : start_outside N T z ≡ true → refused 13 0 ≡ decided (column_checks N bs ++ layer_checks N T z t) x
  unfolding layer_checks
  out-start e = sym (decided-passed (column_checks N bs) (layer_checks N T z t) x (sym fine) ∙ simp e)

  out-thickness : start_outside N T z ≡ false → allowed T t ≡ false → refused 13 1 ≡ decided (column_checks N bs ++ layer_checks N T z t) x
  unfolding layer_checks
  out-thickness e a = sym (decided-passed (column_checks N bs) (layer_checks N T z t) x (sym fine) ∙ simp (e, a))

  in_order : start_outside N T z ≡ false → allowed T t ≡ true → done x ≡ decided (column_checks N bs ++ layer_checks N T z t) x
  unfolding layer_checks
  in_order e a = sym (decided-passed (column_checks N bs) (layer_checks N T z t) x (sym fine) ∙ simp (e, a))

-- the tests on the start's datum height are tests on the start
module _ {s : Settings} (sound : Sound s) (z : ℤ) (fits : SFits w32 z) (h : ℕ) (e : h ≡ datum (to_z w32 (of_z w32 z))) where
  h-is : h ≡ datum z
  h-is = e ∙ datum-back z fits

  below : h + s.tmax < 33 → start_outside s.height s.members z ≡ true
  below l =
      start-low _ _ _ sound.low (omega (arith, sound.greatest, sound.thin, sound.order)) (omega (arith, sound.greatest, sound.thick)) (omega (arith, h-is, sound.greatest))

  above : 33 ≤ h + s.tmax → s.height + s.tmax + 30 < h → start_outside s.height s.members z ≡ true
  above l u =
      start-high _ _ _ sound.low (omega (arith, sound.greatest, sound.thin, sound.order)) (omega (arith, sound.greatest, sound.thick)) (omega (arith, h-is, sound.greatest))
      (omega (arith, h-is, sound.greatest))

  inside : 33 ≤ h + s.tmax → h ≤ s.height + s.tmax + 30 → start_outside s.height s.members z ≡ false
  inside l u =
      start-in _ _ _ sound.low (omega (arith, sound.greatest, sound.thin, sound.order)) (omega (arith, sound.greatest, sound.thick)) (omega (arith, h-is, sound.greatest))
      (omega (arith, h-is, sound.greatest))

  height-is : 33 ≤ h + s.tmax → height_of h ≡ z
  height-is l = ap height_of h-is ∙ height-datum z (omega (arith, h-is, sound.thick))

pub returns-in_err-check_column : goal.returns-in_err-check_column
returns-in_err-check_column c =
    let a = c.args in
    handed-decided _ _ c.from_residual.ensures.1 (column_checks a.s.height a.column.now) (layer_checks a.s.height a.s.members a.start a.thickness) _ c.in_err-check_column.ensures

pub returns-then-h-s-lt33 : goal.returns-then-h-s-lt33
returns-then-h-s-lt33 c =
    ap (λ (r : Refusal). refusal r) c.refusal_at.ensures
    ∙ out-start _ _ _ _ _ _ c.in_ok-check_column.ensures (below c.requires _ c.ranges.start _ c.datum_of-h.ensures c.if-h-s-lt33.true)

pub returns-then-s-h : goal.returns-then-s-h
returns-then-s-h c =
    ap (λ (r : Refusal). refusal r) c.refusal_at-then-s-h.ensures
    ∙ out-start _ _ _ _ _ _ c.in_ok-check_column.ensures (above c.requires _ c.ranges.start _ c.datum_of-h.ensures c.if-h-s-lt33.false c.if-s-h.true)

pub returns-then-not-is_allowed : goal.returns-then-not-is_allowed
returns-then-not-is_allowed c =
    ap (λ (r : Refusal). refusal r) c.refusal_at-then-not-is_allowed.ensures
    ∙ out-thickness _ _ _ _ _ _ c.in_ok-check_column.ensures (inside c.requires _ c.ranges.start _ c.datum_of-h.ensures c.if-h-s-lt33.false c.if-s-h.false)
    (sym c.is_allowed.ensures ∙ c.if-not-is_allowed.true)

pub overflow_cast-thickness-2 : goal.overflow_cast-thickness-2
overflow_cast-thickness-2 c = omega (arith, allowed-to _ _ (sym c.is_allowed.ensures ∙ c.if-not-is_allowed.false))

pub difference_of-requires : goal.difference_of-requires
difference_of-requires c = (c.judge-inside.ensures.1, allowed-to _ _ (sym c.is_allowed.ensures ∙ c.if-not-is_allowed.false))

pub returns : goal.returns
returns c =
    let a = c.args in
    let e = height-is c.requires _ c.ranges.start _ c.datum_of-h.ensures c.if-h-s-lt33.false in
    let counted : c.judge-inside.result ≡ inside_count a.column.now a.start a.thickness = c.judge-inside.ensures.0 ∙ ap (λ (x : ℤ). inside_count a.column.now x a.thickness) e in
    let difference = to_z-of_z w32 c.difference_of.result (sfits_of c.difference_of.type_inv) ∙ c.difference_of.ensures in
    ap done (derived _ _ _ _ counted c.fills.ensures c.share_of.ensures difference)
    ∙ in_order _ _ _ _ _ _ c.in_ok-check_column.ensures (inside c.requires _ c.ranges.start _ c.datum_of-h.ensures c.if-h-s-lt33.false c.if-s-h.false)
    (sym c.is_allowed.ensures ∙ c.if-not-is_allowed.false)
