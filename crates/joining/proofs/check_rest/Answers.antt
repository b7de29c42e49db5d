-- Its tests are the checks 3, 7, 6, in their order.
use Rattle.std.proofs.Common.{◌≡◌, ◌<◌, ◌≤◌, Bool, false, length, refl, ap, ◌∙◌, arith, le-ltb, lt-ltb, Err}
use Rattle.lists.specs.Checks.{first}
use Rattle.lists.proofs.Checks.{or-false}
use Rattle.plate.specs.Head.{Held, cells_of}
use Rattle.plate.proofs.Calls.{judges-bad, judges-good, handed-judges}
use Rattle.plate.proofs.Heads.{cells-for, head-fine}
use Rattle.table.specs.Table.{short}
use Rattle.joining.specs.Joining.{out_checks, rest_checks}
use Rattle.joining.proofs.check_rest.Goals as goal

-- past 3 and 7 the cells are left
left : (beyond : Bool) (held other : Held) → cells_of held.head ≤ length held.buffer → cells_of other.head ≤ length other.buffer → beyond ≡ false
    → first (out_checks held other) ≡ first (rest_checks beyond held other)
unfolding rest_checks short
left beyond held other room room' few = simp (le-ltb _ _ room, le-ltb _ _ room', few)

pub returns-then-held-s : goal.returns-then-held-s
unfolding rest_checks short
returns-then-held-s c =
    let a = c.args in
    let h : length a.held.buffer.now < cells_of a.held.head = omega (arith, cells-for c.requires.settings_for.0) in
    judges-bad _ _ _ _ _ (ap Err c.refusal_at.ensures) (simp (lt-ltb _ _ h))

pub returns-then-other-s : goal.returns-then-other-s
unfolding rest_checks short
returns-then-other-s c =
    let a = c.args in
    let room : cells_of a.held.head ≤ length a.held.buffer.now = omega (arith, cells-for c.requires.settings_for.0) in
    let h : length a.other.buffer.now < cells_of a.other.head = omega (arith, cells-for c.requires.settings_for.1) in
    judges-bad _ _ _ _ _ (ap Err c.refusal_at-then-other-s.ensures) (simp (le-ltb _ _ room, lt-ltb _ _ h))

pub returns-then-beyond : goal.returns-then-beyond
unfolding rest_checks short
returns-then-beyond c =
    let a = c.args in
    let room : cells_of a.held.head ≤ length a.held.buffer.now = omega (arith, cells-for c.requires.settings_for.0) in
    let room' : cells_of a.other.head ≤ length a.other.buffer.now = omega (arith, cells-for c.requires.settings_for.1) in
    judges-bad _ _ _ _ _ (ap Err c.refusal_at-then-beyond.ensures) (simp (le-ltb _ _ room, le-ltb _ _ room', c.if-beyond.true))

pub check_cells-requires : goal.check_cells-requires
check_cells-requires c =
    let k = c.requires.settings_for in
    let f = or-false _ _ (c.requires.other_head_value c.if-beyond.false) in (
      record { fine = head-fine k.0; room = omega (arith, cells-for k.0); few = f.0 },
      record { fine = head-fine k.1; room = omega (arith, cells-for k.1); few = f.1 },
    )

pub returns-in_err-check_cells : goal.returns-in_err-check_cells
returns-in_err-check_cells c =
    let k = c.requires.settings_for in
    handed-judges _ _ c.from_residual.ensures.1 _ _ _
    (c.in_err-check_cells.ensures ∙ left _ _ _ (omega (arith, cells-for k.0)) (omega (arith, cells-for k.1)) c.if-beyond.false)

pub returns : goal.returns
returns c =
    let k = c.requires.settings_for in
    judges-good _ _ _ _ _ refl (k.0.is, k.0.sound)
    (c.in_ok-check_cells.ensures ∙ left _ _ _ (omega (arith, cells-for k.0)) (omega (arith, cells-for k.1)) c.if-beyond.false)
