-- The cells of a row: the cell at the place j of a row has thickness j + 1 and the row's start, so what is tested in a row against the
-- limits is what document 01 asks of the cell's index; and the cell of a layer, by the datum height of its start, is document 01's, by cases
-- on the start's sign. Assumes nothing.
use mathlib.Core.Path.{◌≡◌, sym, ap, ◌∙◌, subst}
use mathlib.Core.Bool.{false}
use mathlib.Core.List.{List}
use Prim.Native.Nat.{ℕ, suc, ◌+◌, ◌-◌, ◌*◌, ◌/◌, ◌%◌, ◌≤◌, ◌<◌}
use native.Mathlib.Nat.{mod-lt, div-add-mod', div-lt_iff_lt-mul}
use native.Mathlib.Omega.{arith}
use lib.Arith.{digits_lt, digits_div, digits_mod}
use lib.Dec.{ltb}
use lib.IntN.{ℤ, pos, negsuc, ◌+ℤ◌, ◌-ℤ◌, +ℤ_comm}
use lib.ListN.{get_or}
use Rattle.paper.specs.Limits.{most_thickness}
use Rattle.paper.specs.Layer.{tmax}
use Rattle.paper.specs.Table.{rows, cells, cell_index, start_at, thickness_at, natural, cell_at}
use Rattle.paper.proofs.Thicknesses.{tmax-le}
use Rattle.plate.specs.Datum.{datum, height_of, row_of, at_row}
use Rattle.plate.specs.Head.{limit_of, SettingsFor}
use Rattle.plate.specs.Settings.{Sound}
use Rattle.plate.specs.declared.head.Head.{Head}
use Rattle.plate.specs.declared.settings.Settings.{Settings}
use Rattle.plate.proofs.Datum.{neg-height, sum-height, natural-sub}
use Rattle.plate.proofs.Heads.{members-for}
use Rattle.table.specs.Cells.{cell_from, out_of_bounds}
use Rattle.table.specs.Limits.{Limits, NoneAbove, above, above_at}

module _ (T m r j : ℕ) (e : m ≡ tmax T) (l : j < m) where
  pub thickness-row : thickness_at T (r * m + j) ≡ j + 1
  unfolding thickness_at
  thickness-row = rw (← e) (ap (λ (x : ℕ). x + 1) (digits_mod r l))

  pub start-row : m ≤ most_thickness → start_at T (r * m + j) ≡ height_of (at_row m r)
  unfolding start_at
  start-row u =
      let a : 32 - (m - 1) + r ≡ at_row m r = omega arith in
      rw (← e)
      (ap (λ (x : ℕ). pos x -ℤ pos (m - 1)) (digits_div r l)
      ∙ ap (λ (z : ℤ). pos r +ℤ z) (neg-height (m - 1) (omega arith))
      ∙ +ℤ_comm (pos r) (height_of (32 - (m - 1)))
      ∙ sum-height (32 - (m - 1)) r
      ∙ ap height_of a)

-- the cells of a row lie in the table
module _ {s : Settings} (k : Sound s) (r : ℕ) (l : r < s.rows) where
  pub cell_in : (j : ℕ) → j < s.tmax → r * s.tmax + j < s.cells
  cell_in j u = rw k.cells_are (digits_lt l u)

  pub row_in : r * s.tmax + s.tmax ≤ s.cells
  row_in = let h = k.thin in let o = k.order in let i = cell_in (s.tmax - 1) (omega arith) in omega arith

  pub cell-fits : (j : ℕ) → j < s.tmax → r * s.tmax + j < 18_368
  cell-fits j u = let i = cell_in j u in omega (arith, k.few-cells)

module _ {head : Head} {s : Settings} (k : SettingsFor head s) where
  pub greatest-for : s.tmax ≡ tmax head.members
  greatest-for = k.sound.greatest ∙ ap tmax (members-for k)

  -- a cell's limit is the limit of its place in its row
  module _ (limits : List ℕ) (are : Limits head limits) where
    pub limit-at : (i : ℕ) → limit_of head (thickness_at head.members i) ≡ get_or limits (i % s.tmax) 0
    unfolding thickness_at
    limit-at i =
        let l = mod-lt i (let p : 1 ≤ s.tmax = omega (arith, k.sound.thin, k.sound.order) in p) in
        rw (← greatest-for) (sym (are.are (i % s.tmax) (omega (arith, k.sound.thick))))

    pub out_at : (table : List ℕ) (i : ℕ) → out_of_bounds head table i ≡ above_at limits table s.tmax i
    unfolding out_of_bounds above_at
    out_at table i = ap (λ (x : ℕ). ltb x (get_or table i 0)) (limit-at i)

-- in rows of a width: the cell at a place of a row, and every cell stands in a row
module _ (limits table : List ℕ) (w : ℕ) where
  pub above-row : (r j : ℕ) → j < w → above_at limits table w (r * w + j) ≡ above limits table (r * w) j
  unfolding above_at above
  above-row r j l = ap (λ (x : ℕ). ltb (get_or limits x 0) (get_or table (r * w + j) 0)) (digits_mod r l)

  pub rows-within : (rows : ℕ) → 1 ≤ w → ((r : ℕ) → r < rows → NoneAbove limits table (r * w) w) → (i : ℕ) → i < rows * w → above_at limits table w i ≡ false
  rows-within rows p n i l =
      let u = mod-lt i p in
      let r = (div-lt_iff_lt-mul {x = i} {y = rows} p).1 l in
      subst (λ (x : ℕ). above_at limits table w x ≡ false) (div-add-mod' i w) (above-row (i / w) (i % w) u ∙ n (i / w) r (i % w) u)

-- the row of a start
row : (m : ℕ) (z : ℤ) → 1 ≤ m → m ≤ 32 → natural (z +ℤ pos (m - 1)) ≡ row_of m (datum z)
row m (pos n) l u = omega arith
row m (negsuc n) l u = natural-sub (m - 1) (suc n) ∙ omega arith

-- the cell of a layer is document 01's
pub cell-is : (T : ℕ) → 1 ≤ tmax T → (table : List ℕ) (z : ℤ) (t : ℕ) → cell_at T table z t ≡ cell_from T table (datum z) t
unfolding cell_from
cell-is T l table z t = ap (λ (r : ℕ). get_or table (cell_index (tmax T) r t) 0) (row (tmax T) z l (tmax-le T))

-- where the code reads it: at the row of the height h
pub cell-read : (T m : ℕ) (table : List ℕ) (r h t : ℕ) → m ≡ tmax T → r ≡ row_of m h → get_or table (cell_index m r t) 0 ≡ cell_from T table h t
unfolding cell_from
cell-read T m table r h t e i = rw (i, e)

-- the number of cells is as the settings have it
pub cells-sound : {s : Settings} → Sound s → cells s.height s.members ≡ s.cells
unfolding cells rows
cells-sound {s} k = rw (← k.greatest) (sym (k.cells_are ∙ ap (λ (x : ℕ). x * s.tmax) k.rows_are))
