-- It is refused by the settings or the counts, or the run decides. Assumes nothing.
use Rattle.plate.proofs.Calls.{handed-does}
use Rattle.save.specs.Runs.{total}
use Rattle.save.specs.Writing.{count_checks, writing}
use Rattle.save.proofs.Answers.{told-refusal, told-value, settings-stop, counts-stop}
use Rattle.save.proofs.write_job.Goals as goal

pub returns-in_err-new : goal.returns-in_err-new
unfolding writing
returns-in_err-new c =
    let a = c.args in
    handed-does _ _ c.from_residual.ensures.1 (writing a.height a.members a.bound a.boundaries.now a.counts.now a.out.now)
    (settings-stop a.height a.members a.bound a.boundaries.now a.counts.now a.out.now _ c.in_err-new.ensures.says)

pub returns-in_err-together : goal.returns-in_err-together
unfolding writing
returns-in_err-together c =
    let a = c.args in
    let stops = told-refusal (count_checks a.counts.now) (total a.counts.now) _ c.in_err-together.ensures in
    handed-does _ _ c.from_residual-in_err-together.ensures.1 (writing a.height a.members a.bound a.boundaries.now a.counts.now a.out.now)
    (counts-stop a.height a.members a.bound a.boundaries.now a.counts.now a.out.now c.in_ok-new.ensures.says _ stops)

pub write_run-requires : goal.write_run-requires
write_run-requires c =
    let a = c.args in
    let t = told-value (count_checks a.counts.now) (total a.counts.now) _ c.in_ok-together.ensures in
    record { none_value = c.in_ok-new.ensures.says; none_value_2 = t.0; together_value = t.1 }
