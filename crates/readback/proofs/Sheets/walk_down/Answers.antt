-- `walk_down` meets its contract: each way out is one step of the definitions (`Invariants.antt`). Assumes nothing.
use Rattle.std.proofs.Common.{◌≡◌, ◌-◌, ◌≤◌, arith, sym, ap₂, ◌∙◌}
use Rattle.plate.specs.Datum.{at_row}
use Rattle.sequence.specs.Sequence.{starts}
use Rattle.readback.proofs.Walks.{step_from, fault-here, fault-on, fault-end, fine_end, noted_more, noted-last, faulted}
use Rattle.readback.proofs.Sheets.walk_down.Goals as goal

pub returns-then-not-reads_back : goal.returns-then-not-reads_back
returns-then-not-reads_back c =
    faulted _ _ _ _ _ _ _
    (c.loop-k.invariant.ends
    ∙ fault-here _ _ _ _ (c.loop-k.k - 1) (at_row _ c.loop-k.row) _ (omega arith) c.thickness_at-t.ensures (sym c.reads_back.ensures ∙ c.if-not-reads_back.true))

pub overflow_sub-row : goal.overflow_sub-row
overflow_sub-row c =
    let k = c.args.self.now.sound in
    omega (arith, step_from _ _ _ _ _ _ (sym c.reads_back.ensures ∙ c.if-not-reads_back.false), k.greatest, k.thick)

pub loop-k-preserved : goal.loop-k-preserved
loop-k-preserved c =
    let s = c.args.self.now.settings in
    let k = c.args.self.now.sound in
    let l = c.loop-k in
    let h = at_row s.tmax l.row in
    let t = c.thickness_at-t.result in
    let reads = sym c.reads_back.ensures ∙ c.if-not-reads_back.false in
    let step : t ≤ l.row = omega (arith, step_from _ _ _ _ _ _ reads, k.greatest, k.thick) in
    let next : h - t ≡ at_row s.tmax (l.row - t) = omega (arith, step, k.thick) in
    record {
      some = omega arith;
      in_sheet = omega arith;
      ends = rw (← next) (l.invariant.ends ∙ fault-on _ _ _ _ (l.k - 1) h _ (omega arith) c.thickness_at-t.ensures reads);
      notes =
          noted_more _ c.args.self.now.layers l.k h t _ _ l.heights (omega arith) (omega arith) (omega arith) c.thickness_at-t.ensures c.at_row.ensures (sym next)
          ∙ l.invariant.notes;
    }

pub returns-then-not-is_start : goal.returns-then-not-is_start
returns-then-not-is_start c =
    let start_is = c.is_start.ensures ∙ ap₂ starts c.args.self.now.sound.greatest c.at_row-lowest.ensures in
    faulted _ _ _ _ _ _ _
    (c.loop-k.invariant.ends ∙ fault-end _ _ _ _ (c.loop-k.k - 1) (at_row _ c.loop-k.row) (omega arith) (sym start_is ∙ c.if-not-is_start.true))

pub returns : goal.returns
returns c =
    let s = c.args.self.now.settings in
    let l = c.loop-k in
    let h = at_row s.tmax l.row in
    let start_is = c.is_start.ensures ∙ ap₂ starts c.args.self.now.sound.greatest c.at_row-lowest.ensures in
    record {
      ends = sym (l.invariant.ends ∙ fine_end _ _ _ _ (l.k - 1) h (omega arith) (sym start_is ∙ c.if-not-is_start.false));
      notes = λ q. noted-last _ c.args.self.now.layers l.k h _ l.heights (omega arith) (omega arith) c.at_row-lowest.ensures ∙ l.invariant.notes;
    }
