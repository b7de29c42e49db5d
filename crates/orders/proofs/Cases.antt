-- Document 02 e)'s worked files, byte by byte, by computing them: N 4, T {2, 3}, step 15, cure list 0 128 160; what is written of two sequences, which
-- orders are read, and where a file is refused. Assumes nothing.
use mathlib.Core.Path.{◌≡◌, refl}
use mathlib.Core.List.{List, [], ◌∷◌, ◌++◌}
use Prim.Native.Nat.{ℕ}
use lib.IntN.{pos, negsuc}
use lib.Ieee.{round, to_bits}
use Rattle.lists.specs.Search.{lowest}
use Rattle.paper.specs.Layer.{allowed, greatest_to, tmax}
use Rattle.plate.specs.Call.{answer_of}
use Rattle.plate.specs.Refusal.{Told, done, refused}
use Rattle.plate.specs.Settings.{settings_checks}
use Rattle.record.specs.Bytes.{le16, le32}
use Rattle.record.specs.Faults.{frame_checks}
use Rattle.record.specs.Written.{bytes16, bytes32, framed}
use Rattle.printed.specs.Possible.{usable}
use Rattle.printed.specs.Tests.{may_lift}
use Rattle.printed.specs.Records.{orders_over, orders}
use Rattle.orders.specs.Layer.{micrometres, seconds, height_bits, cure_bits}
use Rattle.orders.specs.Kinds.{allowed_after, fits}
use Rattle.orders.specs.Written.{record_bytes, order_bytes}
use Rattle.orders.specs.Order.{record_at}
use Rattle.orders.specs.File.{lifts_by, thickness_at, next_checks, lift_checks, cure_checks, layer_checks, finish_checks, orders_checks, file_checks, layers_from, layers_in}
use Rattle.orders.specs.Lent.{lent_checks}
use Rattle.orders.specs.Reading.{order_in, reading_order}
use Rattle.orders.specs.declared.Order.{Order}
use Rattle.orders.specs.declared.Order.TheVariants.{Lift, Cure, Finish}

abbrev cures : List ℕ
cures = 0 ∷ 128 ∷ 160 ∷ []

-- `0400 3000` and a height, `0400 3100` and a time, by the two bytes that are not 0
abbrev lifting : ℕ → ℕ → List ℕ
lifting low high = 4 ∷ 0 ∷ 48 ∷ 0 ∷ 0 ∷ 0 ∷ low ∷ high ∷ []

abbrev curing : ℕ → ℕ → List ℕ
curing low high = 4 ∷ 0 ∷ 49 ∷ 0 ∷ 0 ∷ 0 ∷ low ∷ high ∷ []

-- `0200 3200` and a count
abbrev finishing : ℕ → List ℕ
finishing layers = 2 ∷ 0 ∷ 50 ∷ 0 ∷ layers ∷ 0 ∷ []

-- 3.75 µm, 2 s, and then 7.5 µm, 2 s; or 9.375 µm, 2.5 s
abbrev first-layer : List ℕ
first-layer = lifting 0x70 0x40 ++ curing 0x00 0x40

abbrev worked : List ℕ
worked = first-layer ++ (lifting 0xF0 0x40 ++ (curing 0x00 0x40 ++ finishing 2))

pub written : (order_bytes 15 cures (pos 0 ∷ pos 2 ∷ pos 4 ∷ []) ≡ worked)
    × (order_bytes 15 cures (negsuc 0 ∷ pos 1 ∷ pos 4 ∷ []) ≡ first-layer ++ (lifting 0x16 0x41 ++ (curing 0x20 0x40 ++ finishing 2)))
unfolding order_bytes record_bytes framed bytes32 bytes16 height_bits micrometres cure_bits seconds round to_bits
written = (refl, refl)

abbrev told : List ℕ → ℕ → Told Order
told file number = answer_of (reading_order 4 6 15 cures file number)

-- the orders of the worked file, past the last the finish
pub read : (told worked 0 ≡ done (Lift (micrometres 15 2)))
    × (told worked 3 ≡ done (Cure (seconds 128)))
    × (told worked 4 ≡ done (Finish 2))
    × (told worked 4_294_967_295 ≡ done (Finish 2))
unfolding reading_order lent_checks settings_checks order_in layers_in layers_from file_checks orders_checks next_checks frame_checks lift_checks cure_checks layer_checks finish_checks thickness_at lifts_by lowest usable may_lift allowed tmax greatest_to allowed_after fits le16 le32 height_bits micrometres cure_bits seconds round to_bits orders orders_over record_at
read = (refl, refl, refl, refl)

-- a byte less, a byte more, a float's neighbour and its negative, a finish after one layer; lifts to 2, 5 and 7 units
pub refusals : (told (first-layer ++ (lifting 0xF0 0x40 ++ (curing 0x00 0x40 ++ (2 ∷ 0 ∷ 50 ∷ 0 ∷ 2 ∷ [])))) 0 ≡ refused 16 32)
    × (told (worked ++ (0 ∷ [])) 0 ≡ refused 21 38)
    × (told (lifting 0x71 0x40 ++ (curing 0x00 0x40 ++ finishing 1)) 0 ≡ refused 21 0)
    × (told (lifting 0x70 0xC0 ++ (curing 0x00 0x40 ++ finishing 1)) 0 ≡ refused 21 0)
    × (told (first-layer ++ finishing 1) 0 ≡ refused 21 16)
    × (told (first-layer ++ (lifting 0x16 0x41 ++ (curing 0x20 0x40 ++ lifting 0x52 0x41))) 0 ≡ refused 21 32)
unfolding reading_order lent_checks settings_checks file_checks orders_checks next_checks frame_checks lift_checks cure_checks layer_checks finish_checks thickness_at lifts_by lowest usable may_lift allowed tmax greatest_to allowed_after fits le16 le32 height_bits micrometres cure_bits seconds round to_bits
refusals = (refl, refl, refl, refl, refl, refl)
