-- `reads_back` meets its contract: its tests are those of `reads_back`, in their order, and by the rows a step below the lowest is one of more rows
-- than there are under the layer's end. Assumes nothing.
use Rattle.std.proofs.Common.{◌≡◌, ℕ, ◌-◌, not, ◌||◌, eqb, ltb, arith, sym, ap, ◌∙◌}
use Rattle.plate.specs.Datum.{at_row}
use Rattle.sequence.specs.Sequence.{lowest_end}
use Rattle.readback.proofs.Walks.{barred, stepped-under, step-fine}
use Rattle.readback.proofs.Sheets.reads_back.Goals as goal
use Rattle.readback.proofs.Sheets.reads_back.Goals.{then-not-is_allowed-via-then-not-is_allowed, then-not-is_allowed-via-else-not-is_allowed+then-row-t}

pub returns-then-not-is_allowed : goal.returns-then-not-is_allowed
returns-then-not-is_allowed c =
    let a = c.args in
    let k = a.self.now.sound in
    elim c.then-not-is_allowed.branch [
      | then-not-is_allowed-via-then-not-is_allowed w ↦ sym (barred _ _ _ _ _ _ (sym c.is_allowed.ensures ∙ w.if-not-is_allowed.true))
      | then-not-is_allowed-via-else-not-is_allowed+then-row-t w ↦
          sym (stepped-under _ _ a.self.now.layers a.k (at_row a.self.now.settings.tmax a.row) a.t (omega (arith, k.greatest, k.thick)))
    ]

pub returns-then-may_start : goal.returns-then-may_start
returns-then-may_start c =
    let a = c.args in
    let s = a.self.now.settings in
    let k = a.self.now.sound in
    let lower : at_row s.tmax (a.row - a.t) ≡ at_row s.tmax a.row - a.t = omega (arith, k.thick) in
    let rest = step-fine s.height s.members a.self.now.layers a.k (at_row s.tmax a.row) a.t (sym c.is_allowed.ensures ∙ c.if-not-is_allowed.false) (omega (arith, k.greatest, k.thick)) in
    let asked = ap (λ (g : ℕ). not (eqb a.k a.self.now.layers) || ltb g (lowest_end s.height)) (sym lower) ∙ sym c.may_start.ensures ∙ c.if-may_start.true in
    c.may_end.ensures ∙ sym (rest ∙ rw asked)

pub returns-else-may_start : goal.returns-else-may_start
returns-else-may_start c =
    let a = c.args in
    let s = a.self.now.settings in
    let k = a.self.now.sound in
    let lower : at_row s.tmax (a.row - a.t) ≡ at_row s.tmax a.row - a.t = omega (arith, k.thick) in
    let rest = step-fine s.height s.members a.self.now.layers a.k (at_row s.tmax a.row) a.t (sym c.is_allowed.ensures ∙ c.if-not-is_allowed.false) (omega (arith, k.greatest, k.thick)) in
    let asked = ap (λ (g : ℕ). not (eqb a.k a.self.now.layers) || ltb g (lowest_end s.height)) (sym lower) ∙ sym c.may_start.ensures ∙ c.if-may_start.false in
    c.if-may_start.false ∙ sym (rest ∙ rw asked)
