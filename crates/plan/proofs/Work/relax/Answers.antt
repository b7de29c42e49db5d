-- `relax` meets its contract: the layer is put on the sequences of the counts that the row where it starts can have, and for no other count
-- is there anything to do (`Relaxing`). Assumes nothing.
use Rattle.std.proofs.Common.{◌+◌, ◌-◌, ◌*◌, arith, refl, ap}
use Rattle.plan.proofs.Relaxing.{Relaxing, rows_under, first-few, first-end, relaxed}
use Rattle.plan.proofs.Work.relax.Goals as goal
use Rattle.plan.proofs.Work.relax.Goals.{After-end_count-end}

found : (c : After-end_count-end) → Relaxing c.args.self.now.table.now c.args.self.now.bound c.args.q c.args.t c.args.errors.now c.args.thicknesses.now c.args.first
    c.end_count-end.result (c.entry_of-at.result - c.args.t * (c.args.self.now.settings.counts + 1)) (c.entry_of-at.result + 1) c.layer_cell-cell.result c.args.self.now.settings
found c =
    let a = c.args in
    record {
      ready = a.self.now.ready;
      under = c.requires.under;
      permitted = c.requires.permitted;
      first-low = c.requires.tmax_bound;
      row = c.requires.row_to;
      end-some = c.end_count-end.ensures.0;
      end-few = c.end_count-end.ensures.1;
      end-past = c.end_count-end.ensures.2;
      from_is = omega (arith, rows_under (a.self.now.settings.counts + 1) a.q a.t a.first c.requires.permitted.above, c.entry_of-at.ensures.0);
      to_is = ap (λ i. i + 1) c.entry_of-at.ensures.0;
      cell-fits = omega arith;
      cell-is = c.layer_cell-cell.ensures;
    }

pub entry_of-at-requires : goal.entry_of-at-requires
entry_of-at-requires c =
    let a = c.args in
    (c.requires.under.row, first-few a.self.now.settings a.self.now.ready.sound a.q a.first c.requires.under.row c.requires.tmax_bound)

pub overflow_sub-past : goal.overflow_sub-past
overflow_sub-past c = first-end (found (goal.at.overflow_sub-past c).After-end_count-end)

pub returns : goal.returns
returns c = relaxed (found (goal.at.returns c).After-end_count-end) _ refl _ _ c.put_all.ensures
