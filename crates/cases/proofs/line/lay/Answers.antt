-- A character more is laid by the next step of the recursion. Assumes nothing.
use Rattle.std.proofs.Common.{◌≡◌, ◌∙◌, refl, ap, List, ℕ, suc, ◌+◌, get_or, arith}
use Rattle.cases.specs.Cases.{Laid, with_next, laid_by}
use Rattle.cases.proofs.line.lay.Goals as goal

more : (words held : List ℕ) (l : Laid) (i : ℕ) → l ≡ laid_by words i held → with_next (get_or words i 0) l ≡ laid_by words (i + 1) held
unfolding laid_by
more words held l i e =
    let q : suc i ≡ i + 1 = omega arith in
    ap (with_next (get_or words i 0)) e ∙ ap (λ (n : ℕ). laid_by words n held) q

pub loop-character-init : goal.loop-character-init
unfolding laid_by
loop-character-init c = refl

pub loop-character-preserved : goal.loop-character-preserved
loop-character-preserved c = c.lay_next-halves.ensures ∙ more _ _ _ _ c.loop-character.invariant
