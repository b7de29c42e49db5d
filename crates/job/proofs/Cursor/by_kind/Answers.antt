-- A remark has no checks of its own. Assumes nothing.
use Rattle.std.proofs.Common.{refl, sym, ap, ◌∙◌}
use Rattle.job.specs.Record.{read_body, body_checks}
use Rattle.job.specs.declared.Kind.TheVariants as kind
use Rattle.job.proofs.Reading.{body-passed}
use Rattle.job.proofs.Cursor.by_kind.Goals as goal

pub returns-in-Remark : goal.returns-in-Remark
unfolding body_checks
returns-in-Remark c =
    let a = c.args in
    c.passed.ensures ∙ body-passed _ _ _ kind.Remark refl ∙ ap (read_body a.input.now a.state a.self.at) (sym c.in-Remark.is)
