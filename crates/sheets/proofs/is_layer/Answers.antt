-- By the row where the layer ends, an end above 0 is a row from tmax on, and there the rows tell where the layer starts; under it the layer's
-- heights, cut off at the datum or not, come to at most 0.
use Rattle.std.proofs.Common.{◌≡◌, ℕ, ◌+◌, ◌-◌, ◌≤◌, ◌<◌, true, ltb, sym, ◌∙◌, arith}
use native.Mathlib.Decide.{dec_lt}
use borrow.Author.Tests.{lt-ltb, le-ltb}
use Rattle.paper.specs.Layer.{allowed}
use Rattle.paper.proofs.Thicknesses.{allowed-to}
use Rattle.plate.specs.Datum.{at_row}
use Rattle.sequence.specs.Rules.{shape}
use Rattle.sequence.proofs.Layers.{shape-in, shape-barred, shape-low, shape-high}
use Rattle.sheets.proofs.is_layer.Goals as goal

starts : (N T greatest row t : ℕ) → allowed T t ≡ true → greatest ≤ row → ltb (row + 1) (N + greatest + t) ≡ shape N T (at_row greatest row - t) t
starts N T greatest row t member l = go (dec_lt (row + 1) (N + greatest + t))
  where
    thin : t ≤ 32
    thin = allowed-to T t member

    go : Dec (row + 1 < N + greatest + t) → ltb (row + 1) (N + greatest + t) ≡ shape N T (at_row greatest row - t) t
    go (yes u) = lt-ltb (row + 1) (N + greatest + t) u ∙ sym (shape-in N T (at_row greatest row - t) t member (omega (arith, thin)) (omega (arith, thin)))
    go (no u) = le-ltb (row + 1) (N + greatest + t) (omega arith) ∙ sym (shape-high N T (at_row greatest row - t) t (omega (arith, thin)))

pub returns-then-not-is_allowed : goal.returns-then-not-is_allowed
returns-then-not-is_allowed c = sym (shape-barred _ _ _ _ (sym c.is_allowed.ensures ∙ c.if-not-is_allowed.true))

pub returns-then-end-tmax : goal.returns-then-end-tmax
returns-then-end-tmax c =
    let thin = allowed-to _ _ (sym c.is_allowed.ensures ∙ c.if-not-is_allowed.false) in
    sym (shape-low _ _ _ _ (omega (arith, thin)))

pub overflow_add-result-2 : goal.overflow_add-result-2
overflow_add-result-2 c = omega (arith, allowed-to _ _ (sym c.is_allowed.ensures ∙ c.if-not-is_allowed.false))

pub returns : goal.returns
returns c = starts _ _ _ _ _ (sym c.is_allowed.ensures ∙ c.if-not-is_allowed.false) (omega arith)
