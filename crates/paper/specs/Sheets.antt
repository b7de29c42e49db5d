-- Document 01, 'Sheets': their sizes, and what the two entries of a height and a count are. Assumes nothing.
use Rattle.std.specs.Prelude.{ℕ, zero, suc, ◌+◌, ◌-◌, ◌*◌, ◌≤◌, ◌≡◌, List, length, ℤ}
use Rattle.paper.specs.Layer.{Plate, tmax}
use Rattle.paper.specs.Sequence.{◌!◌, thickness, Stack, error_under, M, Thinner}

-- each sheet has (N + 2·tmax - 1)·(M + 1) entries: heights from -(tmax - 1) to N + tmax - 1 (outer), counts 0 to M (inner)
unfoldable pub heights : ℕ → ℕ → ℕ
heights N T = N + 2 * tmax T - 1

unfoldable pub entries : ℕ → ℕ → ℕ
entries N T = heights N T * (M N T + 1)

-- a row is one height's entries; where it starts, and the index of the entry of a row and a count m, where `most` is the greatest count
abbrev pub row_start : ℕ → ℕ → ℕ
row_start most row = row * (most + 1)

abbrev pub entry_index : ℕ → ℕ → ℕ → ℕ
entry_index most row m = row_start most row + m

-- where none exists the error is 2^64 - 1
abbrev pub missing : ℕ
missing = 18_446_744_073_709_551_615

-- m layers that end at z, started as above and within the bound; by 02 b) they meet the same two rules
pub record Ending (p : Plate) (bound m : ℕ) (z : ℤ) (zs : List ℤ) : Type 0 where
  pub counts : length zs ≡ suc m
  pub ends : zs ! m ≡ z
  pub stack : Stack p bound zs m

-- the chosen one of them
pub record ChosenAt (p : Plate) (bound m : ℕ) (z : ℤ) (zs : List ℤ) : Type 0 where
  pub ending : Ending p bound m z zs
  pub least : (ys : List ℤ) → Ending p bound m z ys → error_under p zs m ≤ error_under p ys m
  pub first : (ys : List ℤ) → Ending p bound m z ys → error_under p ys m ≡ error_under p zs m → Thinner zs ys m

-- the last thickness; at count 0 it is 0
abbrev pub last_of : List ℤ → ℕ → ℕ
last_of zs zero = 0
last_of zs (suc k) = thickness zs k

-- the entries e and t of the two sheets at the height z and the count m
pub record Entries (p : Plate) (bound m : ℕ) (z : ℤ) (e t : ℕ) : Type 0 where
  -- the least error, and the last thickness of the chosen one
  pub chosen : (zs : List ℤ) → ChosenAt p bound m z zs → (e ≡ error_under p zs m) × (t ≡ last_of zs m)
  -- where none exists the error is 2^64 - 1 and the thickness 0
  pub none : ((zs : List ℤ) → Ending p bound m z zs → ⊥) → (e ≡ missing) × (t ≡ 0)
