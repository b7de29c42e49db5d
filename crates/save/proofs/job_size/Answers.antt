-- The counts are refused, or the length is by their number and their sum. Assumes nothing.
use Rattle.std.proofs.Common.{◌≡◌, ap, ◌∙◌, arith}
use mathlib.Core.Option.{Option}
use Rattle.plate.specs.Refusal.{done, Numbered, told_by}
use Rattle.plate.proofs.Calls.{handed-told}
use Rattle.save.specs.Runs.{total, file_size}
use Rattle.save.specs.Writing.{count_checks, size_answer}
use Rattle.save.proofs.Counts.{counts-right}
use Rattle.save.proofs.Answers.{told-refusal, told-value}
use Rattle.save.proofs.job_size.Goals as goal

pub returns-in_err-together : goal.returns-in_err-together
unfolding size_answer
returns-in_err-together c =
    let counts = c.args.counts.now in
    handed-told _ _ c.from_residual.ensures.1
    ∙ ap (λ (o : Option Numbered). told_by o (file_size counts)) (told-refusal (count_checks counts) (total counts) _ c.in_err-together.ensures)

pub size_of-requires : goal.size_of-requires
size_of-requires c =
    let counts = c.args.counts.now in
    let t = told-value (count_checks counts) (total counts) _ c.in_ok-together.ensures in
    let right = counts-right counts t.0 in
    record { columns_le_most_columns = right.few; together_bound = omega (arith, t.1, right.together) }

pub returns : goal.returns
unfolding size_answer file_size
returns c =
    let counts = c.args.counts.now in
    let t = told-value (count_checks counts) (total counts) _ c.in_ok-together.ensures in
    let size : c.size_of.result ≡ file_size counts = omega (arith, c.size_of.ensures, t.1) in
    ap done size ∙ ap (λ (o : Option Numbered). told_by o (file_size counts)) t.0
