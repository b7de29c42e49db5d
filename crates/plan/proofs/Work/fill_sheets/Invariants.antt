-- Whatever buffers the rows at 0 or less were filled from, from those the first q rows of both sheets are filled; and fewer than `first` layers do not reach
-- the lowest row from which a layer ends at row q. Assumes nothing.
use Rattle.std.proofs.Common.{ℕ, ◌-◌, ◌*◌, ◌≤◌, List}
use Rattle.plan.specs.Rows.{SheetTo}
use Rattle.plan.specs.Working.{rules_of}
use Rattle.plan.proofs.Work.fill_sheets.Given as goal

abbrev pub invariant-loop-q : goal.invariant-loop-q
invariant-loop-q l =
    let s = l.self.settings in
    let p = rules_of l.self in
    record {
      first_low : l.first * s.tmax ≤ l.q - s.tmax;
      filled : (E F : List ℕ) → SheetTo s p s.tmax E F l.initial.errors l.initial.thicknesses → SheetTo s p l.q E F l.errors l.thicknesses;
    }
