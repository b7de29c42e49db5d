-- 7 by the state, and then 4 and 5 of `check_column`, at the record's first byte; 4 is asked first where there are more boundaries than can be
-- held. Assumes nothing.
use Rattle.std.proofs.Common.{◌≡◌, ℕ, ◌/◌, ◌<◌, List, sym, ap, ◌∙◌, subst}
use mathlib.Core.Option.{Option}
use Rattle.lists.specs.Checks.{first}
use Rattle.paper.specs.Limits.{most_boundaries}
use Rattle.plate.specs.Refusal.{refused, number_of, Numbered}
use Rattle.plate.specs.declared.refusal.Refusal.{Refusal}
use Rattle.column.specs.Order.{column_checks}
use Rattle.record.specs.Bytes.{words}
use Rattle.record.specs.Frame.{length_at, body_at}
use Rattle.job.specs.Record.{boundaries_at, moved, Moved}
use Rattle.job.specs.declared.State.{State}
use Rattle.job.specs.declared.Kind.TheVariants as kind
use Rattle.job.proofs.Reading.{handed, body_refused, body-passed}
use Rattle.job.proofs.Bodies.{full, column-refused, column-passed, too_long}
use Rattle.job.proofs.Cursor.column.Goals as goal

-- what was said of the boundaries by their length is said of the record's
said : (o : Option Numbered) (height at len : ℕ) (s : List ℕ) → len ≡ length_at s at → o ≡ first (column_checks height (words s (body_at at) (len / 2))) → first (column_checks height (boundaries_at s at)) ≡ o
unfolding boundaries_at
said o height at len s e h = sym (ap (λ (n : ℕ). first (column_checks height (words s (body_at at) (n / 2)))) e) ∙ sym h

-- what is told of a refusal
abbrev tells : State → ℕ → Refusal → Moved
tells st at r = moved st at (refused (number_of r.reason) at)

pub returns-then-is_full : goal.returns-then-is_full
returns-then-is_full c =
    ap (tells c.args.state c.args.self.at) c.refusal_at.ensures ∙ body_refused _ _ _ kind.Column 7 (full _ _ _ (sym c.is_full.ensures ∙ c.if-is_full.true))

pub returns-then-count-gt-MOST_BOUNDARIES : goal.returns-then-count-gt-MOST_BOUNDARIES
returns-then-count-gt-MOST_BOUNDARIES c =
    ap (tells c.args.state c.args.self.at) c.refusal_at-then-count-gt-MOST_BOUNDARIES.ensures
    ∙ body_refused _ _ _ kind.Column 4
    (column-refused _ _ _ (sym c.is_full.ensures ∙ c.if-is_full.false) _ (too_long _ _ _ (subst (λ (n : ℕ). most_boundaries < n / 2) c.length_at-count.ensures c.if-count-gt-MOST_BOUNDARIES.true)))

pub returns-in_err-check_at : goal.returns-in_err-check_at
returns-in_err-check_at c =
    handed _ _ _ _ c.from_residual.ensures.1
    ∙ body_refused _ _ _ kind.Column _
    (column-refused _ _ _ (sym c.is_full.ensures ∙ c.if-is_full.false) _ (said _ _ _ _ _ c.length_at-count.ensures c.in_err-check_at.ensures))

pub returns : goal.returns
returns c =
    let l = c.length_at-count.ensures in
    c.passed.ensures
    ∙ rw (c.counted.ensures, l)
    (body-passed _ _ _ kind.Column (column-passed _ _ _ (sym c.is_full.ensures ∙ c.if-is_full.false) (said _ _ _ _ _ l c.in_ok-check_at.ensures)))
