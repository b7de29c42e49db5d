-- Where a row that is due stands whole, its frame and its start pass, so that its cells decide; else all is asked in its order. Assumes nothing.
use Rattle.std.proofs.Common.{◌≡◌, ℕ, ◌+◌, ◌-◌, ◌*◌, List, [], ◌∷◌, sym, ap, ◌∙◌, arith}
use mathlib.Core.Option.{none}
use Rattle.lists.specs.Checks.{first}
use Rattle.plate.specs.Refusal.{check}
use Rattle.plate.specs.Head.{SettingsFor}
use Rattle.plate.specs.declared.head.Head.{Head}
use Rattle.plate.specs.declared.settings.Settings.{Settings}
use lib.IntN.{pos, ◌-ℤ◌}
use Rattle.record.specs.Bytes.{le16}
use Rattle.record.specs.Frame.{length_at, kind_at}
use Rattle.sent.specs.Kinds.{row_kind, row_length}
use Rattle.sent.specs.Start.{row_start, twos16}
use Rattle.sent.specs.File.{head_in, row_place}
use Rattle.sent.proofs.Places.{place-for}
use Rattle.table.proofs.Cells.{greatest-for}
use Rattle.receive.specs.Rows.{RowStands}
use Rattle.receive.proofs.Asks.{frame, row-cells, row-framed, row-decides}
use Rattle.receive.proofs.Rows.{start_is, some-over}
use Rattle.receive.proofs.check_record.Goals as goal

-- a row stands there
module _ {head : Head} {s : Settings} (f : SettingsFor head s) (file : List ℕ) (left row at start : ℕ) (place : at ≡ row_place head.members row) (r : RowStands file at s.tmax start) where
  kind-is : kind_at file (row_place head.members row) ≡ row_kind
  kind-is = sym (ap (kind_at file) place) ∙ r.kind-is

  long : length_at file (row_place head.members row) ≡ row_length head.members
  unfolding row_length
  long = sym (ap (length_at file) place) ∙ r.long ∙ ap (λ (n : ℕ). 2 + 4 * n) (greatest-for f)

  starts : start ≡ twos16 (pos row -ℤ pos (s.tmax - 1)) → le16 file (row_place head.members row + 4) ≡ twos16 (row_start head.members row)
  starts e = sym (ap (λ (n : ℕ). le16 file (n + 4)) place) ∙ r.starts ∙ e ∙ start_is f row

  framed : none ≡ first (frame file head left row)
  framed = row-framed file head left row kind-is long (omega (arith, r.within, place, place-for f row))

pub check_cells-requires : goal.check_cells-requires
check_cells-requires c = (c.requires.settings_for.0.sound.thick, (c.stands.ensures c.if-stands.true).within)

pub returns-then-stands : goal.returns-then-stands
returns-then-stands c =
    let a = c.args in
    let f = c.requires.settings_for in
    let place = c.requires.row_le_rows.1 in
    let row = c.stands.ensures c.if-stands.true in
    let left = a.s.rows - a.row in
    let over = some-over f.0 a.limits.now a.file.now f.1 a.row a.at place in
    let head = head_in a.file.now in
    c.check_cells.ensures
    ∙ (λ i. first (check 6 (over i) (place i) ∷ []))
    ∙ row-cells a.file.now head left a.row (omega arith) (starts f.0 a.file.now left a.row a.at c.start_bits.result place row c.start_bits.ensures)
    ∙ row-decides a.file.now head left a.row (framed f.0 a.file.now left a.row a.at c.start_bits.result place row)
    (λ e. omega (arith, kind-is f.0 a.file.now left a.row a.at c.start_bits.result place row))
