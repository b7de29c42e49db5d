-- Where a plan is done its settings, table and buffers are those that demand 2 asks for: no check of the call held, and what each check asks is
-- what document 01 says. Assumes nothing.
use Prim.Native.Nat.{ℕ, ◌<◌}
use mathlib.Core.Path.{◌≡◌, sym}
use borrow.Author.Tests.{ltb-false}
use lib.ListN.{length}
use Rattle.lists.proofs.Checks.{first-none, first-later, first-earlier}
use Rattle.paper.specs.Limits.{sets}
use Rattle.paper.specs.Table.{cells}
use Rattle.paper.specs.Sequence.{M}
use Rattle.paper.specs.Sheets.{entries}
use Rattle.plate.specs.Call.{answer_of}
use Rattle.plate.specs.Head.{Held, limit_of, head_checks}
use Rattle.plate.specs.Refusal.{done}
use Rattle.plate.proofs.Calls.{finished}
use Rattle.column.proofs.Fine.{settings-passed}
use Rattle.table.specs.Table.{short, out_cell, bound_checks}
use Rattle.table.proofs.Passed.{bounds-passed}
use Rattle.plan.specs.Plan.{Sheets, plan_rest, planning}
use Rattle.promises.specs.Plans.{Accepted}

-- the members are 32 bits wide
pub plan-accepted : (held : Held) (bound : ℕ) (lent : Sheets) (m : ℕ) → held.head.members < sets
    → answer_of (planning held bound lent) ≡ done m → Accepted held lent m
unfolding planning plan_rest short bound_checks out_cell limit_of
plan-accepted held bound lent m bits e =
    let N = held.head.height in
    let T = held.head.members in
    let rest = plan_rest held (length lent.errors) (length lent.thicknesses) (length lent.leasts) in
    let f = finished (planning held bound lent) m e in
    let q = (first-none rest).0 (first-later (head_checks held.head) rest f.0) in
    record {
      settings = settings-passed N T bits (first-earlier (head_checks held.head) rest f.0);
      bounds = bounds-passed held (ltb-false (length held.buffer) (cells N T) q.0) ((first-none (bound_checks held)).1 q.1.1.1.1);
      room = record {
        errors = ltb-false (length lent.errors) (entries N T) q.1.0;
        thicknesses = ltb-false (length lent.thicknesses) (entries N T) q.1.1.0;
        leasts = ltb-false (length lent.leasts) (M N T) q.1.1.1.0;
      };
      counts = sym f.1;
    }
