-- `allowed_after` meets its contract, kind by kind. Assumes nothing.
use Rattle.std.proofs.Common.{sym, ap, ◌∙◌}
use borrow.Author.Tests.{ne_eqb}
use Rattle.orders.specs.Kinds.{number_of, lift_kind, finish_kind, allowed_after}
use Rattle.orders.specs.declared.Kind.TheVariants as kind
use Rattle.orders.proofs.allowed_after.Goals as goal

pub returns-in-Ok-Lift : goal.returns-in-Ok-Lift
unfolding allowed_after
returns-in-Ok-Lift c = ap (allowed_after c.args.layers) (sym (c.in-Ok-Lift.ensures ∙ ap number_of c.in-Ok-Lift.field-0-is))

pub returns-in-Ok-Cure : goal.returns-in-Ok-Cure
unfolding allowed_after
returns-in-Ok-Cure c = ap (allowed_after c.args.layers) (sym (c.in-Ok-Cure.ensures ∙ ap number_of c.in-Ok-Cure.field-0-is))

pub returns-in-Ok-Finish : goal.returns-in-Ok-Finish
unfolding allowed_after
returns-in-Ok-Finish c = ap (allowed_after c.args.layers) (sym (c.in-Ok-Finish.ensures ∙ ap number_of c.in-Ok-Finish.field-0-is))

pub returns-in-Err : goal.returns-in-Err
unfolding allowed_after
returns-in-Err c =
    let none = c.in-Err.ensures.1 in simp (ne_eqb c.args.number finish_kind (none kind.Finish), ne_eqb c.args.number lift_kind (none kind.Lift))
