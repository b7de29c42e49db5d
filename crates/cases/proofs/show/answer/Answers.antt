-- Of a value nothing is put. Assumes nothing.
use Rattle.text.specs.Sink.{put}
use Rattle.cases.proofs.show.answer.Goals as goal

pub returns-in-Ok-clause-shown : goal.returns-in-Ok-clause-shown
unfolding put
returns-in-Ok-clause-shown g c = rw c.in-Ok.is
