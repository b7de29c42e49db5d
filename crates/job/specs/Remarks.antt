-- How many remarks a file has, up to its end or its first fault: one more fold over its records. Assumes nothing.
use Rattle.std.specs.Prelude.{ℕ, suc, List}
use Rattle.plate.specs.Refusal.{Told, done, refused}
use Rattle.job.specs.Record.{What, settings, column, ended, remark}
use Rattle.job.specs.Fold.{Over, fold_of}

abbrev pub remark_by : Told What → Over ℕ
remark_by (done (settings a)) s at m rest = rest m.state m.next
remark_by (done (column start count)) s at m rest = rest m.state m.next
remark_by (done (ended columns)) s at m rest = 0
remark_by (done remark) s at m rest = suc (rest m.state m.next)
remark_by (refused number place) s at m rest = 0

abbrev pub remark_over : Over ℕ
remark_over s at m rest = remark_by m.told s at m rest

unfoldable pub remarks_in : List ℕ → ℕ
remarks_in s = fold_of remark_over 0 s
