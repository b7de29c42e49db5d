-- Document 02 d). The laws of the count and of the boundaries passed are `column`'s. A share above 0 has a boundary strictly inside its layer, and
-- so inside the thickest layer of the same start; where there is none nothing is added to the cell. Assumes nothing.
use Prim.Native.Nat.{ℕ, ◌≤◌, ◌<◌}
use mathlib.Core.Path.{◌≡◌, refl, ◌∙◌}
use mathlib.Core.Bool.{Bool, true, false, cond}
use native.Mathlib.Decide.{dec_lt}
use native.Mathlib.Nat.{mod-lt}
use native.Mathlib.Omega.{arith}
use lib.IntN.{ℤ}
use lib.ListN.{length, get_or}
use Rattle.lists.proofs.Rewrite.{rewritten-at}
use Rattle.paper.specs.Layer.{Column, IsColumn, Settings, allowed, tmax, share, Between}
use Rattle.paper.specs.Table.{start_at, thickness_at, cell_of}
use Rattle.plate.specs.Head.{Held, cells_of}
use Rattle.column.proofs.Between.{share-between, between-wider, count-carried, passed-flips, passed-stays}
use Rattle.adding.specs.Adding.{addend, added}
use Rattle.promises.specs.Carrying.{Carrying}

no-share : (N : ℕ) (column : Column) → IsColumn N column → (z : ℤ) (most : ℕ) → (Between column.boundaries z most → ⊥)
    → (t : ℕ) → t ≤ most → share column.boundaries z t ≡ 0
no-share N column c z most never t l = go (dec_lt 0 (share column.boundaries z t))
  where
    go : Dec (0 < share column.boundaries z t) → share column.boundaries z t ≡ 0
    go (yes x) = absurd (never (between-wider column.boundaries z t most l ((share-between N column c z t).0 x)))
    go (no x) = omega arith

-- a cell's thickness is one of a row's
thickness-le : (T i : ℕ) → 1 ≤ tmax T → thickness_at T i ≤ tmax T
unfolding thickness_at
thickness-le T i l = let u = mod-lt i l in omega arith

none-added : (N T : ℕ) (column : Column) → 1 ≤ tmax T → IsColumn N column → (i : ℕ) → (Between column.boundaries (start_at T i) (tmax T) → ⊥) → addend T column i ≡ 0
unfolding addend cell_of
none-added N T column l c i never = go (allowed T (thickness_at T i))
  where
    go : (b : Bool) → cond b (share column.boundaries (start_at T i) (thickness_at T i)) 0 ≡ 0
    go true = no-share N column c (start_at T i) (tmax T) never (thickness_at T i) (thickness-le T i l)
    go false = refl

passed_over : (held : Held) (column : Column) → Settings held.head.height held.head.members → IsColumn held.head.height column
    → (i : ℕ) → i < cells_of held.head → i < length held.buffer → (Between column.boundaries (start_at held.head.members i) (tmax held.head.members) → ⊥)
    → get_or (added held column) i 0 ≡ get_or held.buffer i 0
unfolding added
passed_over held column s c i l u never =
    rewritten-at _ (cells_of held.head) held.buffer i 0 l u
    ∙ omega (arith, none-added held.head.height held.head.members column s.some-thickness c i never)

-- document 02 d)
pub carrying : Carrying
carrying = record {
  count = count-carried;
  flips = λ bs z r w. passed-flips bs z r w.index w.there w.at;
  stays = λ bs z n. passed-stays bs z (λ i l e. n (record { index = i; there = l; at = e }));
  no-share = no-share;
  passed_over = passed_over;
}
