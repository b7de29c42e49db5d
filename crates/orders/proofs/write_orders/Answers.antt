-- `write_orders` meets its contract: what was lent is judged, then the sequence, and what is left is the file's. Assumes nothing.
use Rattle.std.proofs.Common.{◌≡◌, sym, subst, ℕ}
use Rattle.plate.specs.Call.{Call, Does}
use Rattle.plate.specs.Refusal.{Told, refusal, told}
use Rattle.plate.specs.declared.refusal.Refusal.{Refusal}
use Rattle.plate.proofs.Calls.{handed-told}
use Rattle.orders.proofs.Lent.{low-plate, stepped}
use Rattle.orders.proofs.Sequences.{climbs}
use Rattle.orders.proofs.Writes.{unlent, unordered, sequence-passes, filed}
use Rattle.orders.proofs.write_orders.Goals as goal
use Rattle.std.specs.Prelude.{Result, IsErrAnd}

handed : {B : Type 0} (call : Call ℕ B) (now : B) (result : Result ℕ Refusal) (r : Refusal) → IsErrAnd result (λ e. e ≡ r) → Does call (refusal r) now → Does call (told result) now
handed call now result r h d = subst (λ (t : Told ℕ). Does call t now) (sym (handed-told result r h)) d

pub returns-in_err-check_lent : goal.returns-in_err-check_lent
returns-in_err-check_lent c = handed _ _ _ _ c.from_residual.ensures.1 (unlent _ _ _ _ _ _ _ c.in_err-check_lent.ensures.says)

pub returns-in_err-check_sequence : goal.returns-in_err-check_sequence
returns-in_err-check_sequence c =
    handed _ _ _ _ c.from_residual-in_err-check_sequence.ensures.1 (unordered _ _ _ _ _ _ c.in_ok-check_lent.ensures.says _ c.in_err-check_sequence.ensures.says)

pub invariant_of-rising : goal.invariant_of-rising
invariant_of-rising c =
    let a = c.args in
    let lent = c.in_ok-check_lent.ensures.says in
    let ordered = c.in_ok-check_sequence.ensures.says in
    record {
      climbs = climbs a.height a.members a.sequence.now (low-plate a.height a.members a.step a.cure.now lent) (sequence-passes a.height a.members a.step a.cure.now a.sequence.now a.out.now lent ordered);
    }

pub write_file-requires : goal.write_file-requires
write_file-requires c = stepped c.args.height c.args.members c.args.step c.args.cure.now c.in_ok-check_lent.ensures.says

pub returns : goal.returns
returns c = filed _ _ _ _ _ _ c.in_ok-check_lent.ensures.says c.in_ok-check_sequence.ensures.says c.write_file.ensures
