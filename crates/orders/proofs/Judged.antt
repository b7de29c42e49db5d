-- The checks of each record one after the other, as a reader goes through them: where its frame stops the record does, and behind its frame its
-- contents decide. Assumes nothing.
use mathlib.Core.Path.{◌≡◌, sym, ◌∙◌}
use mathlib.Core.Bool.{true}
use mathlib.Core.List.{List, [], ◌∷◌}
use mathlib.Core.Option.{Option, none, some}
use Prim.Native.Nat.{ℕ, ◌+◌, ◌≤◌, ◌<◌}
use borrow.Author.Tests.{eq-eqb, ne_eqb, le-leb, lt-leb}
use lib.Dec.{eqb}
use Rattle.lists.specs.Checks.{Check, first}
use Rattle.lists.proofs.Checks.{first-passed, first-stopped}
use Rattle.plate.specs.Refusal.{Numbered}
use Rattle.record.specs.Bytes.{le16, le32}
use Rattle.record.specs.Frame.{length_at, kind_at, body_at}
use Rattle.record.specs.Faults.{disagrees, unequal, tail, frame_checks}
use Rattle.printed.specs.Possible.{cure_of}
use Rattle.orders.specs.Layer.{cure_bits}
use Rattle.orders.specs.Kinds.{cure_kind, float_length, finish_length}
use Rattle.orders.specs.File.{lift_place, cure_place, lift_checks, cure_checks, layer_checks, finish_checks, thickness_at}
use Rattle.orders.specs.declared.Stack.{Stack}

-- ---- the cure time

module _ (cures file : List ℕ) (layers t : ℕ) where
  abbrev pub frame : List (Check Numbered)
  frame =
      frame_checks file (cure_place layers) (eqb (kind_at file (cure_place layers)) cure_kind) (eqb (length_at file (cure_place layers)) float_length)

  abbrev contents : List (Check Numbered)
  contents = unequal (le32 file (body_at (cure_place layers))) (cure_bits (cure_of cures t)) (cure_place layers) ∷ []

  pub cure-stopped : (r : Numbered) → some r ≡ first frame → some r ≡ first (cure_checks cures file layers t)
  unfolding cure_checks
  cure-stopped r e = sym (first-stopped frame contents r (sym e))

  module _ (passes : none ≡ first frame) where
    pub cure-wrong : (le32 file (body_at (cure_place layers)) ≡ cure_bits (cure_of cures t) → ⊥)
        → some (disagrees true (cure_place layers)).says ≡ first (cure_checks cures file layers t)
    unfolding cure_checks
    cure-wrong n = sym (first-passed frame contents (sym passes) ∙ simp (ne_eqb (le32 file (body_at (cure_place layers))) (cure_bits (cure_of cures t)) n))

    pub cure-right : le32 file (body_at (cure_place layers)) ≡ cure_bits (cure_of cures t) → none ≡ first (cure_checks cures file layers t)
    unfolding cure_checks
    cure-right e = sym (first-passed frame contents (sym passes) ∙ simp (eq-eqb (le32 file (body_at (cure_place layers))) (cure_bits (cure_of cures t)) e))

-- ---- both records of a layer

module _ (N T step : ℕ) (cures file : List ℕ) (read : Stack) where
  abbrev lifted : List (Check Numbered)
  lifted = lift_checks N T step cures file read

  abbrev cured : List (Check Numbered)
  cured = cure_checks cures file read.layers (thickness_at T step cures file read)

  pub layer-stopped : (r : Numbered) → some r ≡ first lifted → some r ≡ first (layer_checks N T step cures file read)
  unfolding layer_checks
  layer-stopped r e = sym (first-stopped lifted cured r (sym e))

  pub layer-behind : none ≡ first lifted → (o : Option Numbered) → o ≡ first cured → o ≡ first (layer_checks N T step cures file read)
  unfolding layer_checks
  layer-behind passes o e = e ∙ sym (first-passed lifted cured (sym passes))

-- ---- the finish

module _ (N : ℕ) (file : List ℕ) (read : Stack) where
  abbrev at : ℕ
  at = lift_place read.layers

  abbrev given : ℕ
  given = le16 file (body_at at)

  pub finish-miscounted : (given ≡ read.layers → ⊥) → some (disagrees true at).says ≡ first (finish_checks N file read)
  unfolding finish_checks
  finish-miscounted n = simp (ne_eqb given read.layers n)

  module _ (e : given ≡ read.layers) where
    pub finish-low : read.rise < N → some (disagrees true at).says ≡ first (finish_checks N file read)
    unfolding finish_checks
    finish-low l = simp (eq-eqb given read.layers e, lt-leb N read.rise l)

    pub finish-high : N ≤ read.rise → first (tail file (body_at at + finish_length) ∷ []) ≡ first (finish_checks N file read)
    unfolding finish_checks
    finish-high l = simp (eq-eqb given read.layers e, le-leb N read.rise l)
