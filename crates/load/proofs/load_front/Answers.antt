-- `load_front` meets its contract: a table that is too short is not cleared, and one that was cleared is filled. Assumes nothing.
use Rattle.std.proofs.Common.{refl, List, ℕ, arith, w8}
use mir.Val.{Fits}
use Rattle.std.specs.Prelude.{get_or}
use Rattle.record.specs.Bytes.{Bytes}
use Rattle.plate.proofs.Calls.{handed-as}
use Rattle.load.proofs.Loading.{too_short, ready, loaded}
use Rattle.load.proofs.load_front.Goals as goal

bytes : (s : List ℕ) → ((i : ℕ) → Fits w8 (get_or s i 0)) → Bytes s
bytes s fit i = omega (arith, fit i)

pub returns-in_err-clear_table : goal.returns-in_err-clear_table
returns-in_err-clear_table c =
    handed-as _ _ c.from_residual.ensures.1 (too_short _ _ (bytes _ c.type_inv.input) _ c.requires _ _ _ c.in_err-clear_table.ensures _ refl)

pub fill-requires : goal.fill-requires
fill-requires c = ready _ _ (bytes _ c.type_inv.input) _ c.requires _ _ _ c.in_ok-clear_table.ensures _ refl

pub returns : goal.returns
returns c = loaded _ _ (bytes _ c.type_inv.input) _ c.requires _ _ _ c.in_ok-clear_table.ensures _ refl _ c.fill.ensures
