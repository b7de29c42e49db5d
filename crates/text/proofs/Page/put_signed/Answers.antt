-- A sign below 0, and then what is left.
use Rattle.std.proofs.Common.{◌≡◌, List, ℕ, [], ◌∷◌, ap, ◌∙◌, w32}
use mir.ValLaws.{to_z-of_z}
use Rattle.std.specs.Int.RustNames.{unsigned_abs}
use Rattle.text.specs.Page.{lay}
use Rattle.text.specs.Numbers.{decimal}
use Rattle.text.proofs.Pages.{laid-onto}
use Rattle.text.proofs.Signed.{below-text, above-text}
use Rattle.text.proofs.Page.put_signed.Goals as goal
use Rattle.text.proofs.Page.put_signed.Goals.{then-z-lt0, else-z-lt0}

pub returns : goal.returns
returns c =
    let a = c.args in
    let same = to_z-of_z w32 a.z c.ranges.z in
    let rest : c.from.result ≡ unsigned_abs a.z = c.from.ensures ∙ c.unsigned_abs.ensures.value ∙ ap unsigned_abs same in
    elim c.if-z-lt0.branch [
      | then-z-lt0 w ↦
          let text = below-text a.z c.from.result (rw same at w.if-z-lt0.true) rest in
          laid-onto (45 ∷ []) (decimal c.from.result) a.self.now _ _ w.put_byte.ensures (rw w.self-is at c.put_number.ensures) ∙ ap (λ (t : List ℕ). lay t a.self.now) text
      | else-z-lt0 w ↦
          let text = above-text a.z c.from.result (rw same at w.if-z-lt0.false) rest in
          rw (w.self-is, text) at c.put_number.ensures
    ]
