-- A motor height is no NaN, so it has bits. Assumes nothing.
use Rattle.trial_calls.proofs.Heights.{no_nan}
use Rattle.trial_calls.proofs.calls.motor.Goals as goal

pub float_to_bits-height : goal.float_to_bits-height
float_to_bits-height c = no_nan _ _ _ c.in-Ok.ensures.1
