-- Document 02 e), the order file as it is read: 'the reader, after the list, gives 16 at the first record after which no such file is possible', which f)
-- splits. What is asked of each record in its order, record after record, so that the first at fault decides. A layer takes 16 bytes, so that each
-- record has its place by the layers before it. The file doesn't tell where the first boundary stands. Assumes nothing.
use Rattle.std.specs.Prelude.{ℕ, zero, suc, ◌+◌, ◌*◌, Bool, not, cond, ◌&&◌, List, [], ◌∷◌, ◌++◌, eqb, length}
use Rattle.lists.specs.Checks.{Check}
use Rattle.lists.specs.Search.{lowest}
use Rattle.paper.specs.Layer.{tmax}
use Rattle.plate.specs.Refusal.{Numbered}
use Rattle.record.specs.Bytes.{le16, le32}
use Rattle.record.specs.Frame.{length_at, kind_at, body_at}
use Rattle.record.specs.Faults.{cut, disagrees, unequal, tail, frame_checks}
use Rattle.printed.specs.Possible.{cure_of, usable}
use Rattle.printed.specs.Tests.{may_begin, may_lift, may_finish}
use Rattle.orders.specs.Layer.{height_bits, cure_bits}
use Rattle.orders.specs.Kinds.{cure_kind, finish_kind, float_length, finish_length, allowed_after, fits}
use Rattle.orders.specs.declared.Stack.{Stack}

-- where the record of layer k + 1's lift or the finish after k layers begins, and where that layer's cure time does
abbrev pub lift_place : ℕ → ℕ
lift_place layers = 16 * layers

abbrev pub cure_place : ℕ → ℕ
cure_place layers = lift_place layers + 8

-- before the first record, and with a layer more
abbrev pub no_layers : Stack
no_layers = record { layers = 0; first = 0; rise = 0 }

abbrev pub grown : Stack → ℕ → Stack
grown read t = record { layers = read.layers + 1; first = cond (eqb read.layers 0) t read.first; rise = read.rise + t }

-- ---- kind 48: the bytes are those of a height that a usable thickness leads to, and some z0 still leaves the layers so far under N

module _ (T step : ℕ) (cures : List ℕ) where
  -- whether a lift over so many units by the thickness i + 1 has these bits
  unfoldable pub lifts_by : ℕ → ℕ → ℕ → Bool
  lifts_by rise bits i = usable T cures (i + 1) && eqb bits (height_bits step (rise + (i + 1)))

  -- the thickness that the lift after these layers is by: above tmax where it is by none
  unfoldable pub thickness_at : List ℕ → Stack → ℕ
  thickness_at file read = lowest (lifts_by read.rise (le32 file (body_at (lift_place read.layers)))) (tmax T) + 1

-- a layer as thick may come next
abbrev pub may_follow : ℕ → ℕ → List ℕ → Stack → ℕ → Bool
may_follow N T cures read t = cond (eqb read.layers 0) (may_begin T cures t) (may_lift N T cures read.first read.rise t)

unfoldable pub lift_checks : ℕ → ℕ → ℕ → List ℕ → List ℕ → Stack → List (Check Numbered)
lift_checks N T step cures file read = disagrees (not (may_follow N T cures read (thickness_at T step cures file read))) (lift_place read.layers) ∷ []

-- ---- kind 49: the bytes of that thickness' time

unfoldable pub cure_checks : List ℕ → List ℕ → ℕ → ℕ → List (Check Numbered)
cure_checks cures file layers t =
    let at = cure_place layers in
    frame_checks file at (eqb (kind_at file at) cure_kind) (eqb (length_at file at) float_length)
    ++ (unequal (le32 file (body_at at)) (cure_bits (cure_of cures t)) at ∷ [])

-- ---- kind 50: the number of layers, which reach N; then nothing, at the first byte there is

unfoldable pub finish_checks : ℕ → List ℕ → Stack → List (Check Numbered)
finish_checks N file read =
    let at = lift_place read.layers in
    disagrees (not (eqb (le16 file (body_at at)) read.layers && may_finish N read.rise)) at ∷ tail file (body_at at + finish_length) ∷ []

-- ---- record after record

-- what stands after so many layers, before its body is looked at
unfoldable pub next_checks : List ℕ → ℕ → List (Check Numbered)
next_checks file layers =
    let at = lift_place layers in frame_checks file at (allowed_after layers (kind_at file at)) (fits (kind_at file at) (length_at file at))

-- it is the finish
abbrev pub finishes : List ℕ → ℕ → Bool
finishes file layers = eqb (kind_at file (lift_place layers)) finish_kind

module _ (N T step : ℕ) (cures file : List ℕ) where
  -- a layer, behind the frame of its lift
  unfoldable pub layer_checks : Stack → List (Check Numbered)
  layer_checks read = lift_checks N T step cures file read ++ cure_checks cures file read.layers (thickness_at T step cures file read)

  -- all records from there on, of at most so many layers; behind as many as the file has bytes there is nothing
  unfoldable pub orders_checks : ℕ → Stack → List (Check Numbered)
  orders_checks zero read = cut file (lift_place read.layers) ∷ []
  orders_checks (suc n) read =
      next_checks file read.layers
      ++ cond (finishes file read.layers) (finish_checks N file read)
      (layer_checks read ++ orders_checks n (grown read (thickness_at T step cures file read)))

  unfoldable pub file_checks : List (Check Numbered)
  file_checks = orders_checks (length file) no_layers

-- ---- what is read: the layers' thicknesses, from the lowest up

module _ (T step : ℕ) (cures file : List ℕ) where
  unfoldable pub layers_from : ℕ → Stack → List ℕ
  layers_from zero read = []
  layers_from (suc n) read =
      cond (finishes file read.layers) []
      (thickness_at T step cures file read ∷ layers_from n (grown read (thickness_at T step cures file read)))

  unfoldable pub layers_in : List ℕ
  layers_in = layers_from (length file) no_layers
