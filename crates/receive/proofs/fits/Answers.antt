-- A row is as long as its start and its cells. Assumes nothing.
use Rattle.std.proofs.Common.{ℕ, ◌+◌, ◌*◌, sym, ap, ◌∙◌}
use borrow.Author.Tests.{eq-eqb, ne_eqb}
use lib.Dec.{eqb}
use Rattle.sent.specs.Kinds.{end_kind, row_length, fits}
use Rattle.receive.proofs.fits.Goals as goal

pub returns-then-kind-number : goal.returns-then-kind-number
unfolding fits
returns-then-kind-number c = simp (eq-eqb c.args.kind end_kind (c.if-kind-number.true ∙ c.number.ensures))

pub returns : goal.returns
unfolding fits row_length
returns c =
    ap (λ (n : ℕ). eqb c.args.length (2 + 4 * n)) c.requires.greatest ∙ simp (ne_eqb c.args.kind end_kind (λ e. c.if-kind-number.false (e ∙ sym c.number.ensures)))
