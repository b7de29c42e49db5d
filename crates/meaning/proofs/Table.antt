-- A plate and the plate of its table, where a layer's error is its cell: the table has a cell for every layer that a sequence can have,
-- so the two agree on those and have the same choice. The index of a layer's cell is written in two digits to the base tmax, how far the
-- start is above the table's first and how far the thickness is above 1; so from the index the layer's start and thickness come back.
-- Tables whose cells add up divide the plate for the same reason. Assumes nothing.
use Prim.Native.Nat.{ℕ, ◌+◌, ◌-◌, ◌<◌}
use mathlib.Core.Path.{◌≡◌, refl, sym, ap, ◌∙◌}
use mathlib.Core.Logic.{◌↔◌}
use mathlib.Core.List.{List, [], ◌∷◌, map}
use native.Mathlib.Omega.{arith}
use lib.Arith.{digits_lt, digits_div, digits_mod}
use lib.IntN.{ℤ, pos, ◌+ℤ◌, ◌-ℤ◌, +ℤ-neg_ℤ_cancel}
use lib.ListN.{get_or}
use Rattle.paper.specs.Layer.{Plate, tmax}
use Rattle.paper.specs.Table.{rows, cells, cell_index, start_at, thickness_at, cell_of, Table, natural, cell_at, of_table}
use Rattle.paper.specs.Sequence.{Chosen, None}
use Rattle.paper.specs.Groups.{Usable, sum_of, Divided}
use Rattle.paper.proofs.Thicknesses.{allowed-from, allowed-to, allowed-tmax}
use Rattle.plate.specs.Datum.{datum, height_of}
use Rattle.plate.proofs.Datum.{over, height-datum, lt-down, pos-height, sum-height}
use Rattle.meaning.specs.Working.{Agree, cell_sum}
use Rattle.meaning.proofs.Sequence.{end-datum}
use Rattle.meaning.proofs.Usable.{agree-back, same_chosen, same_none}

-- the row of a start: how far it is above the table's first
abbrev row_at : ℕ → ℤ → ℕ
row_at T z = natural (z +ℤ pos (tmax T - 1))

-- the index that `cell_at` looks at
abbrev pub index : ℕ → ℤ → ℕ → ℕ
index T z t = cell_index (tmax T) (row_at T z) t

module _ (N T : ℕ) (z : ℤ) (t : ℕ) (u : Usable N T z t) where
  -- it ends above 0, and is no thicker than tmax
  low : 32 - tmax T < datum z
  low = omega (arith, end-datum z t (allowed-to T t u.member) u.ends_above, allowed-tmax T t u.member, allowed-to T t u.member)

  -- the two digits of the index
  at-datum : z ≡ height_of (datum z)
  at-datum = sym (height-datum z (omega (arith, low)))

  row-sum : z +ℤ pos (tmax T - 1) ≡ pos (datum z + (tmax T - 1) - 32)
  row-sum =
      ap (λ x. x +ℤ pos (tmax T - 1)) at-datum
      ∙ sum-height (datum z) (tmax T - 1)
      ∙ over (datum z + (tmax T - 1)) (omega (arith, low))

  row_is : row_at T z ≡ datum z + (tmax T - 1) - 32
  row_is = ap natural row-sum

  digit : t - 1 < tmax T
  digit = omega (arith, allowed-from T t u.member, allowed-tmax T t u.member)

  -- 'A cell for each start from -(tmax-1) to N+tmax-2 and each thickness from 1 to tmax': every usable layer has one
  pub usable-cell : index T z t < cells N T
  unfolding cells rows
  usable-cell =
      let high = lt-down (datum z) (N + 32) (rw (pos-height N, at-datum) at u.starts-below) in
      digits_lt (omega (arith, row_is, digit, low)) digit

  -- the start and the thickness come back from the index
  start_back : start_at T (index T z t) ≡ z
  unfolding start_at
  start_back =
      ap (λ n. pos n -ℤ pos (tmax T - 1)) (digits_div (row_at T z) digit)
      ∙ ap (λ x. x -ℤ pos (tmax T - 1)) (ap pos row_is ∙ sym row-sum)
      ∙ +ℤ-neg_ℤ_cancel z (pos (tmax T - 1))

  thickness-back : thickness_at T (index T z t) ≡ t
  unfolding thickness_at
  thickness-back = omega (arith, digits_mod (row_at T z) digit, allowed-from T t u.member)

  -- 'A cell of an allowed thickness holds the layer's error'
  pub cell-error : (layer_error : ℤ → ℕ → ℕ) → cell_of T layer_error (index T z t) ≡ layer_error z t
  unfolding cell_of
  cell-error layer_error = rw (thickness-back, start_back, u.member)

module _ (p : Plate) (buffer : List ℕ) (table : Table p buffer) where
  pub table-agrees : Agree p (cell_at p.T buffer)
  table-agrees z t u =
      sym (table.holds (index p.T z t) (usable-cell p.N p.T z t u) ∙ cell-error p.N p.T z t u p.layer_error)

  agrees_back : Agree (of_table p.N p.T buffer) p.layer_error
  agrees_back = agree-back p (cell_at p.T buffer) table-agrees

  -- so a plan over the table is a plan of the plate
  pub table-chosen : (bound n : ℕ) (zs : List ℤ) → Chosen p bound n zs ↔ Chosen (of_table p.N p.T buffer) bound n zs
  table-chosen bound n zs = (
    same_chosen p (cell_at p.T buffer) table-agrees bound n zs,
    same_chosen (of_table p.N p.T buffer) p.layer_error agrees_back bound n zs,
  )

  pub table_none : (bound n : ℕ) → None p bound n ↔ None (of_table p.N p.T buffer) bound n
  table_none bound n = (
    same_none p (cell_at p.T buffer) table-agrees bound n,
    same_none (of_table p.N p.T buffer) p.layer_error agrees_back bound n,
  )

-- tables whose cells add up to those of the whole divide it, whether or not columns gave them
pub tables-divided : (N T : ℕ) (whole : List ℕ) (parts : List (List ℕ))
    → ((i : ℕ) → i < cells N T → get_or whole i 0 ≡ cell_sum parts i) → Divided (of_table N T whole) (map (cell_at T) parts)
tables-divided N T whole parts adds z t u = adds (index T z t) (usable-cell N T z t u) ∙ sums parts
  where
    sums : (parts : List (List ℕ)) → cell_sum parts (index T z t) ≡ sum_of (map (cell_at T) parts) z t
    sums [] = refl
    sums (part ∷ parts) = ap (λ e. cell_at T part z t + e) (sums parts)
