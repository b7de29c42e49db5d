-- Document 02 e)'s worked cases over layers and records, by computing them: N 4, T {2, 3}, cure list 0 128 160. Assumes nothing.
use Prim.Native.Nat.{ℕ}
use mathlib.Core.Path.{◌≡◌, refl}
use mathlib.Core.Bool.{true, false}
use mathlib.Core.Option.{none, some}
use mathlib.Core.List.{List, [], ◌∷◌, ◌++◌}
use lib.IntN.{pos, negsuc}
use Rattle.paper.specs.Layer.{allowed}
use Rattle.printed.specs.Possible.{usable}
use Rattle.printed.specs.Tests.{may_lift, lifts, passes, finishes, accepts}
use Rattle.printed.specs.Records.{Record, lift, cure, finish, fresh, lifted, layered, whole, step, read_from}
use Rattle.printed.specs.Paper.{file_of}

abbrev cures : List ℕ
cures = 0 ∷ 128 ∷ 160 ∷ []

abbrev low : List Record
low = lift 2 ∷ cure 128 ∷ lift 4 ∷ cure 128 ∷ []

-- 0 2 4; -1 1 4; -1 1 3 5; and -1 1 3 has the file of 0 2 4 (for N 3 both can be ordered)
pub files : (file_of cures (pos 0 ∷ pos 2 ∷ pos 4 ∷ []) ≡ low ++ (finish 2 ∷ []))
    × (file_of cures (negsuc 0 ∷ pos 1 ∷ pos 4 ∷ []) ≡ lift 2 ∷ cure 128 ∷ lift 5 ∷ cure 160 ∷ finish 2 ∷ [])
    × (file_of cures (negsuc 0 ∷ pos 1 ∷ pos 3 ∷ pos 5 ∷ []) ≡ low ++ (lift 6 ∷ cure 128 ∷ finish 3 ∷ []))
    × (file_of cures (negsuc 0 ∷ pos 1 ∷ pos 3 ∷ []) ≡ file_of cures (pos 0 ∷ pos 2 ∷ pos 4 ∷ []))
files = (refl, refl, refl, refl)

-- layers: two of 2, three of 2, and 2 2 3 are accepted
pub layers : (accepts 4 6 cures (2 ∷ 2 ∷ []) ≡ true)
    × (accepts 4 6 cures (2 ∷ 2 ∷ 2 ∷ []) ≡ true)
    × (accepts 4 6 cures (2 ∷ 2 ∷ 3 ∷ []) ≡ true)
    -- one of 2 alone ends below N, but can be gone on with
    × (accepts 4 6 cures (2 ∷ []) ≡ false)
    × (passes 4 6 cures (2 ∷ []) ≡ true)
    -- a fourth is too many: 6 is not below 4 + 2 - 1
    × (passes 4 6 cures (2 ∷ 2 ∷ 2 ∷ 2 ∷ []) ≡ false)
    -- at the edge: 5 is not below 4 + 2 - 1 either
    × (passes 4 6 cures (2 ∷ 3 ∷ 2 ∷ []) ≡ false)
    -- a thickness whose entry is 0
    × (passes 4 6 (0 ∷ 0 ∷ 160 ∷ []) (2 ∷ []) ≡ false)
unfolding accepts passes finishes lifts may_lift usable allowed
layers = (refl, refl, refl, refl, refl, refl, refl, refl)

-- records: the file of 0 2 4 is read to its end; without its finish, two layers of height 4 are known
pub reads : (read_from 4 6 cures fresh (low ++ (finish 2 ∷ [])) ≡ some whole)
    × (read_from 4 6 cures fresh low ≡ some (layered 2 2 4))
    -- a finish at once, too low, and with a wrong count
    × (step 4 6 cures fresh (finish 0) ≡ none)
    × (step 4 6 cures (layered 1 2 2) (finish 1) ≡ none)
    × (step 4 6 cures (layered 2 2 4) (finish 1) ≡ none)
    -- a cure time of another thickness, and a lift in its place
    × (step 4 6 cures (lifted 1 2 2 2) (cure 160) ≡ none)
    × (step 4 6 cures (lifted 1 2 2 2) (lift 4) ≡ none)
    -- a thickness whose entry is 0 is at fault at the lift, at the first and at a later one
    × (step 4 6 (0 ∷ 0 ∷ 160 ∷ []) fresh (lift 2) ≡ none)
    × (step 4 6 (0 ∷ 0 ∷ 160 ∷ []) (layered 1 3 3) (lift 5) ≡ none)
    -- anything after the finish
    × (step 4 6 cures whole (finish 2) ≡ none)
unfolding read_from step may_lift usable allowed
reads = (refl, refl, refl, refl, refl, refl, refl, refl, refl, refl)
