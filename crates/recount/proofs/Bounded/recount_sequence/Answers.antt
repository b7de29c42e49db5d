-- `recount_sequence` meets its contract: 13 at 0 for fewer than two boundaries or a first that is no start, 13 at 1 for a z1 that is not above 0, and
-- then the layers. Assumes nothing.
use Rattle.std.proofs.Common.{arith, sym, ap, ap₂, ◌∙◌}
use Rattle.plate.specs.Refusal.{refusal}
use Rattle.plate.specs.declared.refusal.Refusal.{Refusal}
use Rattle.sequence.specs.Sequence.{starts}
use Rattle.recount.proofs.Answers.{too_few, out-start, out_first}
use Rattle.recount.proofs.Bounded.recount_sequence.Goals as goal

pub returns-then-sequence-lt2 : goal.returns-then-sequence-lt2
returns-then-sequence-lt2 c = ap (λ (r : Refusal). refusal r) c.refusal_at.ensures ∙ too_few _ _ _ _ _ (omega arith)

pub returns-then-not-is_start : goal.returns-then-not-is_start
returns-then-not-is_start c =
    let is = c.is_start.ensures ∙ ap₂ starts c.args.self.now.sound.greatest c.datum_at-start.ensures.0 in
    ap (λ (r : Refusal). refusal r) c.refusal_at-then-not-is_start.ensures ∙ out-start _ _ _ _ _ (omega arith) (sym is ∙ c.if-not-is_start.true)

pub returns-then-datum_at-le32 : goal.returns-then-datum_at-le32
returns-then-datum_at-le32 c =
    let is = c.is_start.ensures ∙ ap₂ starts c.args.self.now.sound.greatest c.datum_at-start.ensures.0 in
    ap (λ (r : Refusal). refusal r) c.refusal_at-then-datum_at-le32.ensures
    ∙ out_first _ _ _ _ _ (omega arith) (sym is ∙ c.if-not-is_start.false) (omega (arith, c.datum_at.ensures.0))

pub recount_layers-requires : goal.recount_layers-requires
recount_layers-requires c =
    let is = c.is_start.ensures ∙ ap₂ starts c.args.self.now.sound.greatest c.datum_at-start.ensures.0 in
    record { layered = omega arith; starts-in = sym is ∙ c.if-not-is_start.false; first_above = omega (arith, c.datum_at.ensures.0) }
