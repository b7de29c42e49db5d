-- The least error of each count and height, the last layer of the chosen ones, and the chosen sequence, by recursion on the count.
-- Assumes nothing.
use Rattle.std.specs.Prelude.{ℕ, zero, suc, ◌+◌, ◌-◌, cond, ◌&&◌, List, [], ◌∷◌, leb}
use Rattle.std.proofs.Math.Option.{Option, none, some}
use Rattle.lists.specs.Best.{Best, nothing, found, value, place, best_of}
use Rattle.sequence.specs.Sequence.{Rules, starts, lowest_end, Sequence}

abbrev pub plus : ℕ → Option ℕ → Option ℕ
plus c none = none
plus c (some e) = some (e + c)

-- the error of the best that ends with a layer of thickness t at h, where `below` has the best ones of one layer less
abbrev pub via : Rules → (ℕ → Option ℕ) → ℕ → ℕ → Option ℕ
via p below h t = cond (leb t h && p.may (h - t) t) (plus (p.cell (h - t) t) (below (h - t))) none

-- the best of m layers that end at h, by last layers of at most k: its error, and its last thickness, which is 0 for no layers
unfoldable pub best_to : Rules → ℕ → ℕ → ℕ → Best
best_to p zero h k = cond (starts p.tmax h) (found 0 0) nothing
best_to p (suc m) h k = best_of (λ t. via p (λ g. value (best_to p m g p.tmax)) h t) 1 k

-- the least error of m layers that end at h
unfoldable pub least : Rules → ℕ → ℕ → Option ℕ
least p m h = value (best_to p m h p.tmax)

-- the last thickness of the chosen one
unfoldable pub last : Rules → ℕ → ℕ → ℕ
last p m h = place (best_to p m h p.tmax)

-- following `last` down
unfoldable pub walk : Rules → ℕ → ℕ → List ℕ
walk p zero h = []
walk p (suc m) h = last p (suc m) h ∷ walk p m (h - last p (suc m) h)

-- the lowest end height with the least error
unfoldable pub top : Rules → ℕ → Best
top p n = best_of (λ h. least p n h) (lowest_end p.height) p.tmax

abbrev pub from_top : Rules → ℕ → Best → Option Sequence
from_top p n nothing = none
from_top p n (found e h) = some (record { top = h; layers = walk p n h })

unfoldable pub chosen : Rules → ℕ → Option Sequence
chosen p n = from_top p n (top p n)

-- the least error of n layers
unfoldable pub least_of : Rules → ℕ → Option ℕ
least_of p n = value (top p n)
