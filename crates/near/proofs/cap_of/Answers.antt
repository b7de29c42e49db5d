-- Where the thickness is allowed its limit is the product, which 32 bits hold.
use Rattle.std.proofs.Common.{sym, ◌∙◌, arith}
use Rattle.table.proofs.Limits.{limit-allowed, limit-product}
use Rattle.near.proofs.Caps.{cap-allowed}
use Rattle.near.proofs.cap_of.Goals as goal

pub overflow_mul-result : goal.overflow_mul-result
overflow_mul-result c = omega (arith, limit-product c.args.head c.args.t c.requires.head_value c.requires.t_le_most_thickness)

pub returns-then-is_allowed : goal.returns-then-is_allowed
returns-then-is_allowed c =
    let e = sym c.is_allowed.ensures ∙ c.if-is_allowed.true in
    sym (cap-allowed _ _ e ∙ limit-allowed _ _ e)
