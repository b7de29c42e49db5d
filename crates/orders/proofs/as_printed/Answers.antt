-- `as_printed` meets its contract: each product is small, so that its cast is defined, and the division gives the float that the layer has by
-- definition, which is exact. Assumes nothing.
use Rattle.std.proofs.Common.{◌≡◌, subst, sym, ℕ, ◌*◌, ◌<◌, ◌≤◌, pos, arith}
use lib.Ieee.{Float, binary32, div, of_int, of_bits}
use Rattle.motor.proofs.Exact.{castable}
use Rattle.orders.specs.Layer.{printed_layer, Exactly}
use Rattle.orders.specs.declared.Printed.{Printed}
use Rattle.orders.proofs.Floats.{product_small, micrometres-are, seconds-are, layer-exact}
use Rattle.orders.proofs.as_printed.Goals as goal

pub int_to_float-result : goal.int_to_float-result
int_to_float-result c = castable (pos _) (product_small c.args.rise c.args.step (omega arith) (omega arith))

pub int_to_float-result-2 : goal.int_to_float-result-2
int_to_float-result-2 c = castable (pos _) (product_small c.args.thickness c.args.step (omega arith) (omega arith))

module _ (rise thickness step cure : ℕ) (r : rise < 1024) (t : thickness < 1024) (s : step ≤ 8192) (c : cure < 65_536) where
  -- what the casts and divisions give
  abbrev computed : ℕ → Float
  computed units = div binary32 (of_int binary32 (pos (units * step))) (of_bits binary32 0x4100_0000)

  abbrev made : Printed
  made = record { height = computed rise; thickness = computed thickness; cure = div binary32 (of_int binary32 (pos cure)) (of_bits binary32 0x4280_0000) }

  same : made ≡ printed_layer rise thickness step cure
  same i = record {
    height = micrometres-are rise step (product_small rise step r s) i;
    thickness = micrometres-are thickness step (product_small thickness step t s) i;
    cure = seconds-are cure c i;
  }

  printed : (made ≡ printed_layer rise thickness step cure) × Exactly made rise thickness step cure
  printed = (same, subst (λ (p : Printed). Exactly p rise thickness step cure) (sym same) (layer-exact rise thickness step cure r t s c))

pub returns : goal.returns
returns c = printed c.args.rise c.args.thickness c.args.step c.args.cure (omega arith) (omega arith) (omega arith) (omega arith)
