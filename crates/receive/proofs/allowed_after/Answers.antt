-- By whether the kind is the end's. Assumes nothing.
use Rattle.std.proofs.Common.{sym, ap, ◌∙◌}
use borrow.Author.Tests.{eq-eqb, ne_eqb}
use lib.Dec.{eqb}
use Rattle.sent.specs.Kinds.{end_kind, allowed_after}
use Rattle.receive.proofs.allowed_after.Goals as goal

pub returns-then-kind-number : goal.returns-then-kind-number
unfolding allowed_after
returns-then-kind-number c = simp (eq-eqb c.args.kind end_kind (c.if-kind-number.true ∙ c.number.ensures))

pub returns : goal.returns
unfolding allowed_after
returns c = ap (eqb c.args.kind) c.number-2.ensures ∙ simp (ne_eqb c.args.kind end_kind (λ e. c.if-kind-number.false (e ∙ sym c.number.ensures)))
