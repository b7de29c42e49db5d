-- Flat indices: each is a place in a row, and each place in a row has one. Assumes nothing.
use Prim.Native.Nat.{ℕ, ◌+◌, ◌*◌, ◌<◌}
use mathlib.Core.Path.{◌≡◌}
use lib.Arith.{digits_div, digits_mod}
use Rattle.lists.specs.Grid.{flat}

pub flat-at : {A : Type 0} (w : ℕ) (f : ℕ → ℕ → A) (r k : ℕ) → k < w → flat w f (r * w + k) ≡ f r k
flat-at w f r k l = rw (digits_div r l, digits_mod r l)
