-- The rows passed over are rewritten as they stand, and then those near the boundary are.
use Rattle.std.proofs.Common.{◌≡◌, ℕ, ◌+◌, ◌*◌, List, get_or, max, ◌∙◌, arith}
use Rattle.lists.specs.Rewrite.{Span}
use Rattle.lists.proofs.Spans.{span_more, span-end}
use Rattle.paper.specs.Layer.{column_of, IsColumn}
use Rattle.plate.specs.Settings.{Sound}
use Rattle.plate.specs.declared.settings.Settings.{Settings}
use Rattle.near.specs.Facing.{Reached}
use Rattle.adding.specs.Adding.{addend}
use Rattle.adding.proofs.Near.{reached-near, reached-next, calm-skip, calm-end, span-calm, rows-le}
use Rattle.adding.proofs.add_rows.Goals as goal

module _ {s : Settings} (k : Sound s) {bs : List ℕ} (o : IsColumn s.height (column_of bs)) {q row : ℕ} (w : Reached bs s.tmax s.rows q row) (from b : ℕ) (is : b ≡ get_or bs q 0) (e : from ≡ max row b) where
  skipped : {old new : List ℕ} → Span 0 0 (row * s.tmax) (λ i x. x + addend s.members (column_of bs) i) old new → Span 0 0 (from * s.tmax) (λ i x. x + addend s.members (column_of bs) i) old new
  skipped x = span-calm k o row from (rows-le _ _ _ (omega arith)) (calm-skip k o w from b is e) x

pub loop-passed-preserved : goal.loop-passed-preserved
loop-passed-preserved c =
    let k = c.args.rows.sound in
    let o = c.args.rows.is_column in
    let l = c.loop-passed in
    let there = c.loop-passed-test.true in
    let is = c.boundary_at-boundary.ensures.0 in
    let near = reached-near k o l.invariant.reached there _ is _ c.later-from.ensures in
    let u = rows-le _ _ c.args.rows.s.tmax near.order in
    let z = skipped k o l.invariant.reached _ _ is c.later-from.ensures l.invariant.rewritten in
    record {
      reached = reached-next k o l.invariant.reached there _ is;
      long = c.fill_states.ensures.long ∙ l.invariant.long;
      rewritten = span-end _ (span_more _ _ (omega arith) z c.add_near.ensures) (omega (arith, u)) (omega (arith, u));
    }

pub returns : goal.returns
returns c =
    let k = c.args.rows.sound in
    let o = c.args.rows.is_column in
    let l = c.loop-passed in
    span-end _
    (span-calm k o l.row c.args.rows.s.rows (rows-le _ _ _ l.invariant.reached.low)
    (λ r u v. calm-end k o (omega arith) l.invariant.reached r u) l.invariant.rewritten)
    (omega (arith, k.cells_are)) (omega (arith, k.cells_are))
