-- `cure_bits` meets its contract: the layer is exact, so that this float of it is no NaN, and by its definition has these bits. Assumes nothing.
use Rattle.std.proofs.Common.{ap}
use lib.Ieee.{binary32, to_bits}
use Rattle.orders.specs.Layer.{cure_bits}
use Rattle.orders.specs.declared.Printed.{Printed}
use Rattle.orders.proofs.Floats.{no_nan}
use Rattle.orders.proofs.cure_bits.Goals as goal

pub float_to_bits-result : goal.float_to_bits-result
float_to_bits-result c = no_nan _ _ _ _ c.as_printed-layer.ensures.1.for-time.sixtyfourfold

pub returns : goal.returns
unfolding cure_bits
returns c = ap (λ (p : Printed). to_bits binary32 p.cure) c.as_printed-layer.ensures.0
