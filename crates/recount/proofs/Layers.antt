-- One layer: what each test of the code says of it, and its error added to those under it. Where boundaries do not rise, the difference is in
-- no T. Assumes nothing.
use mathlib.Core.Path.{◌≡◌, sym, ap, ap₂, ◌∙◌}
use mathlib.Core.Bool.{true, false}
use mathlib.Core.List.{List}
use Prim.Native.Nat.{ℕ, suc, ◌+◌, ◌-◌, ◌≤◌, ◌<◌}
use native.Mathlib.Omega.{arith}
use native.Mathlib.Numerals.{add-one}
use borrow.Author.Tests.{lt-ltb, le-ltb}
use lib.IntN.{ℤ}
use Rattle.paper.specs.Layer.{allowed, tmax}
use Rattle.paper.specs.Table.{of_table}
use Rattle.paper.specs.Sequence.{◌!◌, error_under}
use Rattle.plate.specs.Datum.{datum}
use Rattle.plate.specs.Settings.{Sound}
use Rattle.plate.specs.declared.settings.Settings.{Settings}
use Rattle.table.specs.Cells.{cell_from}
use Rattle.recount.specs.Layers.{Counted}
use Rattle.recount.specs.Recount.{out_between, layer_out}
use Rattle.recount.proofs.Words.{error-is}

-- what each test says
module _ (N T : ℕ) (table : List ℕ) (bound below above : ℕ) where
  pub out-thickness : allowed T (above - below) ≡ false → out_between N T table bound below above ≡ true
  unfolding out_between
  out-thickness e = simp e

  module _ (e : allowed T (above - below) ≡ true) where
    pub out-end : N + tmax T + 31 < above → out_between N T table bound below above ≡ true
    unfolding out_between
    out-end l = simp (e, lt-ltb (N + tmax T + 31) above l)

    module _ (l : above ≤ N + tmax T + 31) where
      pub out-bound : bound < cell_from T table below (above - below) → out_between N T table bound below above ≡ true
      unfolding out_between
      out-bound u = simp (e, le-ltb (N + tmax T + 31) above l, lt-ltb bound (cell_from T table below (above - below)) u)

      pub in-bound : cell_from T table below (above - below) ≤ bound → out_between N T table bound below above ≡ false
      unfolding out_between
      in-bound u = simp (e, le-ltb (N + tmax T + 31) above l, le-ltb bound (cell_from T table below (above - below)) u)

-- sound settings
pub some-thickness : {s : Settings} → Sound s → 1 ≤ tmax s.members
some-thickness k = omega (arith, k.greatest, k.thin, k.order)

-- one layer more, of which the datum heights are known
module _ {s : Settings} (sound : Sound s) (table : List ℕ) (bound : ℕ) (zs : List ℤ) (k below above : ℕ)
    (b : below ≡ datum (zs ! k)) (a : above ≡ datum (zs ! (k + 1))) (from : 1 ≤ below) where
  next : above ≡ datum (zs ! suc k)
  next = a ∙ ap (λ (i : ℕ). datum (zs ! i)) (add-one k)

  pub layer-between : layer_out s.height s.members table bound zs k ≡ out_between s.height s.members table bound below above
  unfolding layer_out
  layer-between = sym (ap₂ (out_between s.height s.members table bound) b next)

  pub one_more : (sum error : ℕ) → Counted s.height s.members table bound below above error
      → sum ≡ error_under (of_table s.height s.members table) zs k → sum + error ≡ error_under (of_table s.height s.members table) zs (k + 1)
  one_more sum error c e =
      let l : datum (zs ! k) < datum (zs ! suc k) = omega (arith, c.rises, next) in
      rw add-one
      (ap₂ ◌+◌ e
      (c.is
      ∙ ap₂ (λ (h g : ℕ). cell_from s.members table h (g - h)) b next
      ∙ sym (error-is s.height s.members table zs k (some-thickness sound) (omega arith) l)))
