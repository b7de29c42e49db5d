-- `least_error` meets its contract: in a sheet that a plan filled the least entry at the end heights, or the mark where there is none, is the least error.
-- Assumes nothing.
use Rattle.std.proofs.Common.{◌≡◌, MatchOption, rules, ◌∙◌}
use Rattle.paper.specs.Sheets.{missing}
use Rattle.sheets.proofs.Ends.{error-or}
use Rattle.plan.proofs.Listing.{listed}
use Rattle.plan.proofs.Work.least_error.Goals as goal

pub returns : goal.returns
returns c =
    let w = c.args.self.now in
    let m : MatchOption c.least_end-end.result (c.map_or.result ≡ missing) (λ l. c.map_or.result ≡ l.error) = search (rules, c.map_or.ensures) in
    error-or c.least_end-end.ensures m ∙ listed w.settings w.bound w.table.now w.ready c.args.errors.now c.requires.planned c.args.n c.requires.count
