-- The settings and the counts passed, so that the run's checks decide; where they pass, the file is written. Assumes nothing.
use Rattle.std.proofs.Common.{◌≡◌, ℕ, ◌+◌, ◌*◌, List, length, ◌∙◌, arith}
use Rattle.plate.proofs.Calls.{handed-does, works}
use Rattle.save.specs.Runs.{total, file_size}
use Rattle.save.specs.Writing.{writing}
use Rattle.save.proofs.Counts.{counts-right}
use Rattle.save.proofs.Answers.{settings-low, run-passed, run-decides, file-left}
use Rattle.save.proofs.write_run.Goals as goal

pub size_of-size-requires : goal.size_of-size-requires
size_of-size-requires c =
    let right = counts-right c.args.counts.now c.requires.none_value_2 in
    record { columns_le_most_columns = right.few; together_bound = omega (arith, c.requires.together_value, right.together) }

size_is : (size : ℕ) (counts : List ℕ) (together : ℕ) → size ≡ 22 + 4 * length counts + 2 * together → together ≡ total counts → size ≡ file_size counts
unfolding file_size
size_is size counts together e t = omega arith

pub check_run-requires : goal.check_run-requires
check_run-requires c =
    let r = c.requires in
    record { none_value = r.none_value_2; together_value = (r.together_value, size_is _ _ _ c.size_of-size.ensures r.together_value) }

pub returns-in_err-check_run : goal.returns-in_err-check_run
unfolding writing
returns-in_err-check_run c =
    let a = c.args in
    let r = c.requires in
    handed-does _ _ c.from_residual.ensures.1 (writing a.asked.height a.asked.members a.asked.bound a.run.now a.counts.now a.out.now)
    (c.in_err-check_run.ensures ∙ run-decides a.asked.height a.asked.members a.asked.bound a.run.now a.counts.now a.out.now r.none_value r.none_value_2)

pub write_file-requires : goal.write_file-requires
write_file-requires c =
    let a = c.args in
    let r = c.requires in
    let p = run-passed a.asked.height a.run.now a.counts.now (length a.out.now) c.in_ok-check_run.ensures in
    let size : c.size_of-size.result ≡ file_size a.counts.now = size_is _ _ _ c.size_of-size.ensures r.together_value in
    record {
      height_le_greatest_height = settings-low a.asked.height a.asked.members r.none_value;
      none_value = r.none_value_2;
      counts_in_bounds = p.0;
      size_value = (size, omega (arith, size, p.1));
    }

pub returns : goal.returns
unfolding writing
returns c =
    let a = c.args in
    let r = c.requires in
    let q = a.asked in
    let p = run-passed q.height a.run.now a.counts.now (length a.out.now) c.in_ok-check_run.ensures in
    let size : c.size_of-size.result ≡ file_size a.counts.now = size_is _ _ _ c.size_of-size.ensures r.together_value in
    works (writing q.height q.members q.bound a.run.now a.counts.now a.out.now) _ _
    (c.in_ok-check_run.ensures ∙ run-decides q.height q.members q.bound a.run.now a.counts.now a.out.now r.none_value r.none_value_2)
    size
    (c.write_file.ensures ∙ file-left q.height q.members q.bound a.run.now a.counts.now a.out.now p.0 p.1)
