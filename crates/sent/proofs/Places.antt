-- Where the rows stand, for loops that go up by a row in settings that were made: each place is a row's length behind the one before, and the rows
-- stand within the file, the end record behind them. Assumes nothing.
use mathlib.Core.Path.{◌≡◌, sym, ap, ◌∙◌}
use Prim.Native.Nat.{ℕ, suc, ◌+◌, ◌*◌, ◌≤◌, ◌<◌}
use native.Mathlib.Nat.{mul-le-mul_right}
use native.Mathlib.Omega.{arith}
use Rattle.paper.specs.Layer.{tmax}
use Rattle.plate.specs.Head.{SettingsFor}
use Rattle.plate.specs.Settings.{Sound}
use Rattle.plate.specs.declared.head.Head.{Head}
use Rattle.plate.specs.declared.settings.Settings.{Settings}
use Rattle.plate.proofs.Heads.{members-for}
use Rattle.sent.specs.Kinds.{row_length}
use Rattle.sent.specs.Written.{rows_of, file_size}
use Rattle.sent.specs.File.{row_place}
use Rattle.sent.proofs.Rows.{place-next}

module _ {s : Settings} (k : Sound s) where
  pub place-more : (r : ℕ) → row_place s.members (r + 1) ≡ row_place s.members r + (6 + 4 * s.tmax)
  unfolding row_length
  place-more r =
      let next : suc r ≡ r + 1 = omega arith in
      ap (row_place s.members) (sym next) ∙ sym (place-next s.members r) ∙ rw (← k.greatest) (omega arith)

  -- a row ends no further than where the last one does
  pub place-within : (r : ℕ) → r < s.rows → row_place s.members (r + 1) ≤ row_place s.members s.rows
  unfolding row_place
  place-within r l =
      let row = 4 + row_length s.members in
      let up : (r + 1) * row ≤ s.rows * row = mul-le-mul_right row (omega arith) in
      omega arith

  pub few-rows : s.rows ≤ 574
  few-rows = omega (arith, k.rows_are, k.high, k.thick)

-- of the table that a head goes with
module _ {head : Head} {s : Settings} (f : SettingsFor head s) where
  pub place-for : (r : ℕ) → row_place head.members (r + 1) ≡ row_place head.members r + (6 + 4 * s.tmax)
  place-for r = rw (← members-for f) (place-more f.sound r)

  pub place_in : (r : ℕ) → r < s.rows → row_place head.members (r + 1) ≤ row_place head.members s.rows
  place_in r l = rw (← members-for f) (place-within f.sound r l)

  pub place-small : (r : ℕ) → r ≤ s.rows → row_place head.members r ≤ 76_930
  unfolding row_place row_length
  place-small r l =
      let width : 4 + (2 + 4 * tmax head.members) ≡ 6 + 4 * s.tmax = rw (← members-for f, ← f.sound.greatest) (omega arith) in
      let up : r * (6 + 4 * s.tmax) ≤ s.rows * (6 + 4 * s.tmax) = mul-le-mul_right (6 + 4 * s.tmax) l in
      rw width (omega (arith, f.sound.cells_are, f.sound.few-cells, few-rows f.sound))

  pub rows_are : s.rows ≡ rows_of head
  rows_are = ap (λ (x : Settings). x.rows) f.is

  pub end-place : file_size head ≡ row_place s.members s.rows + 6
  unfolding file_size row_place
  end-place = rw (members-for f, rows_are) (omega arith)
