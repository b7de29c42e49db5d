-- The number that the record gives is that of the columns, or the record is at fault. Assumes nothing.
use Rattle.std.proofs.Common.{sym, ap, ◌∙◌}
use Rattle.plate.specs.Refusal.{refused, Numbered}
use Rattle.job.specs.Record.{moved}
use Rattle.job.specs.declared.Kind.TheVariants as kind
use Rattle.job.proofs.Reading.{body_refused, body-passed}
use Rattle.job.proofs.Bodies.{unequal, equal}
use Rattle.job.proofs.Cursor.ending.Goals as goal

pub returns-then-columns-head : goal.returns-then-columns-head
returns-then-columns-head c =
    let a = c.args in
    ap (λ (n : Numbered). moved a.state a.self.at (refused n.number a.self.at)) c.at.ensures
    ∙ body_refused _ _ _ kind.End _ (unequal _ _ _ (λ e. c.if-columns-head.true (c.quad-columns.ensures ∙ e)))

pub returns : goal.returns
returns c =
    let q = c.quad-columns.ensures in
    c.passed.ensures ∙ rw (c.finish.ensures, q) (body-passed _ _ _ kind.End (equal _ _ _ (sym q ∙ c.if-columns-head.false)))
