-- `read_job` meets its contract: what a look through the file refuses is refused, and what stands past its end is; and then nothing was written.
-- Assumes nothing.
use Rattle.std.proofs.Common.{subst}
use Rattle.plate.specs.Refusal.{Told, told}
use Rattle.plate.specs.Call.{Does}
use Rattle.plate.proofs.Calls.{handed-as}
use Rattle.job.specs.File.{Job}
use Rattle.load.specs.Load.{loading}
use Rattle.load.proofs.Loading.{front-refused, tail-refused, whole_is}
use Rattle.load.proofs.read_job.Goals as goal

pub returns-in_err-front : goal.returns-in_err-front
returns-in_err-front c = handed-as _ _ c.from_residual.ensures.1 (front-refused _ _ _ _ c.in_err-front.ensures)

pub load_front-requires : goal.load_front-requires
load_front-requires c = c.in_ok-front.ensures.0

pub returns-in_err-check_tail : goal.returns-in_err-check_tail
returns-in_err-check_tail c = handed-as _ _ c.from_residual-in_err-check_tail.ensures.1 (tail-refused _ _ _ _ c.in_ok-front.ensures.0 _ c.in_ok-front.ensures.1 _ c.in_err-check_tail.ensures)

pub returns : goal.returns
returns c =
    subst (λ (file : Told Job). Does (loading c.args.table.now file) (told c.load_front.result) c.load_front.new.table)
    (whole_is _ _ c.args.table.now _ c.in_ok-front.ensures.0 _ c.in_ok-front.ensures.1 c.in_ok-check_tail.ensures)
    c.load_front.ensures
