-- A row's start and its cells as the reader has them and as the file does: the limits are those of the table, and the cells are the numbers that stand
-- there. Assumes nothing.
use mathlib.Core.Path.{◌≡◌, sym, ap, ap₂, ◌∙◌}
use mathlib.Core.List.{List}
use Prim.Native.Nat.{ℕ, ◌+◌, ◌-◌, ◌*◌}
use native.Mathlib.Omega.{arith}
use lib.Dec.{ltb}
use lib.IntN.{pos, ◌-ℤ◌}
use Rattle.lists.specs.Search.{some_below}
use Rattle.lists.proofs.Search.{same-below}
use Rattle.plate.specs.Head.{SettingsFor}
use Rattle.plate.specs.declared.head.Head.{Head}
use Rattle.plate.specs.declared.settings.Settings.{Settings}
use Rattle.record.specs.Bytes.{le32}
use Rattle.record.specs.Frame.{body_at}
use Rattle.record.proofs.Bytes.{quad_at}
use Rattle.sent.specs.Start.{row_start, twos16}
use Rattle.sent.specs.File.{row_place, row_at, over, some_over}
use Rattle.table.specs.Limits.{Limits}
use Rattle.table.proofs.Cells.{greatest-for}
use Rattle.receive.specs.Rows.{over_at}

-- the start that is due, as the reader reckons it
pub start_is : {head : Head} {s : Settings} → SettingsFor head s → (r : ℕ) → twos16 (pos r -ℤ pos (s.tmax - 1)) ≡ twos16 (row_start head.members r)
unfolding row_start
start_is f r = ap (λ (n : ℕ). twos16 (pos r -ℤ pos (n - 1))) (greatest-for f)

pub some-over : {head : Head} {s : Settings} → SettingsFor head s → (limits file : List ℕ) → Limits head limits → (r at : ℕ) → at ≡ row_place head.members r
    → some_below (over_at limits file (at + 6)) s.tmax ≡ some_over head (row_at file head.members r)
unfolding over_at over
some-over {head} {s} f limits file are r at e =
    let T = head.members in
    let place : at + 6 ≡ body_at (row_place T r) + 2 = omega arith in
    ap (some_below (over_at limits file (at + 6))) (greatest-for f)
    ∙ same-below (over_at limits file (at + 6)) (over head (row_at file T r)) _
    (λ j l. ap₂ ltb (are.are j (omega (arith, greatest-for f, f.sound.thick))) (ap (λ (n : ℕ). le32 file (n + 4 * j)) place ∙ sym (quad_at file (body_at (row_place T r) + 2) _ j l)))
