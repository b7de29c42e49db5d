-- `may_use` meets its contract: a layer is permitted where it has the shape of one and its cell is at most the bound. Assumes nothing.
use Rattle.std.proofs.Common.{◌≡◌, ℕ, ◌-◌, true, false, List, arith, sym, ap, ◌∙◌}
use lib.Dec.{leb}
use Rattle.plate.specs.Datum.{at_row}
use Rattle.plate.specs.declared.settings.Settings.{Settings}
use Rattle.sequence.specs.Rules.{shape}
use Rattle.table.specs.Cells.{cell_from}
use Rattle.plan.specs.Planning.{plan_rules, table_rules}
use Rattle.plan.proofs.Work.may_use.Goals as goal

module _ (s : Settings) (bound : ℕ) (table : List ℕ) (q t : ℕ) where
  forbidden : shape s.height s.members (at_row s.tmax (q - t)) t ≡ false → false ≡ (table_rules s bound table).may (at_row s.tmax (q - t)) t
  unfolding plan_rules
  forbidden e = rw e

  within : (x : ℕ) → shape s.height s.members (at_row s.tmax (q - t)) t ≡ true → x ≡ cell_from s.members table (at_row s.tmax (q - t)) t
      → leb x bound ≡ (table_rules s bound table).may (at_row s.tmax (q - t)) t
  unfolding plan_rules
  within x e i = rw (e, i)

pub returns-then-is_layer : goal.returns-then-is_layer
returns-then-is_layer c =
    let a = c.args in
    let s = a.self.now.settings in
    let h : at_row s.tmax (a.q - a.t) ≡ at_row s.tmax a.q - a.t = omega (arith, a.self.now.ready.sound.thick) in
    within s _ _ _ _ _ (ap (λ (g : ℕ). shape s.height s.members g a.t) h ∙ sym c.is_layer.ensures ∙ c.if-is_layer.true) c.layer_cell.ensures

pub returns-else-is_layer : goal.returns-else-is_layer
returns-else-is_layer c =
    let a = c.args in
    let s = a.self.now.settings in
    let h : at_row s.tmax (a.q - a.t) ≡ at_row s.tmax a.q - a.t = omega (arith, a.self.now.ready.sound.thick) in
    c.if-is_layer.false ∙ forbidden s _ _ _ _ (ap (λ (g : ℕ). shape s.height s.members g a.t) h ∙ sym c.is_layer.ensures ∙ c.if-is_layer.false)
