-- What a plan leaves: the two entries of every height and count, and the list, are document 01's. The entries are what the rules of the table
-- give at their flat index (crate `plan`), and those are the least errors and last thicknesses of the table's plate (crate `meaning`); the list
-- has the error of the sequence found. On another plate whose errors agree with the table's cells they are the same. Assumes nothing.
use Prim.Native.Nat.{ℕ, ◌+◌, ◌-◌, ◌≤◌, ◌<◌}
use mathlib.Core.Path.{◌≡◌, refl, sym, ap, ◌∙◌, subst}
use mathlib.Core.Logic.{inl, inr}
use mathlib.Core.List.{List}
use mathlib.Core.Option.{Option, none, some}
use native.Mathlib.Omega.{arith}
use lib.Arith.{digits_lt}
use lib.IntN.{ℤ, pos, ◌-ℤ◌, +ℤ-neg_ℤ_cancel}
use lib.ListN.{get_or}
use Rattle.lists.proofs.Grid.{flat-at}
use Rattle.paper.specs.Limits.{largest_bound}
use Rattle.paper.specs.Layer as paper
use Rattle.paper.specs.Layer.{tmax}
use Rattle.paper.specs.Sequence.{M}
use Rattle.paper.specs.Sheets.{heights, entries, entry_index, Entries}
use Rattle.paper.specs.Groups.{part}
use Rattle.paper.proofs.Thicknesses.{tmax-le}
use Rattle.plate.specs.Call.{left_by}
use Rattle.plate.specs.Datum.{height_of, at_row}
use Rattle.plate.specs.Head.{Held}
use Rattle.plate.proofs.Datum.{pos-height, sum-height}
use Rattle.sequence.specs.Sequence.{Rules}
use Rattle.sequence.specs.Least.{least, last}
use Rattle.sequence.specs.Sheets.{mark, error_entry, thickness_entry}
use Rattle.table.specs.Table.{Bounded}
use Rattle.plan.specs.Plan.{Sheets, planned, planning}
use Rattle.meaning.specs.Working.{Agree, rules_of, found}
use Rattle.meaning.proofs.Agreed.{same_entries, same-least-error}
use Rattle.meaning.proofs.Choice.{found-exact, found_none}
use Rattle.meaning.proofs.Sheets as sheets
use Rattle.meaning.proofs.Usable.{same_none}
use Rattle.promises.specs.Plans.{plate_of, SettingsOf, Room, row_height, Listed, Fills}
use Rattle.promises.proofs.Demands.{plan-leaves}
use Rattle.promises.proofs.Plans.{errors-are, lasts_are, plan-lists, plan-lists-none}

-- the height of a row, over the datum
row-height : (T row : ℕ) → 1 ≤ tmax T → row_height T row ≡ height_of (at_row (tmax T) row)
row-height T row thick =
    let l = tmax-le T in
    let e : at_row (tmax T) row + (tmax T - 1) ≡ row + 32 = omega arith in
    ap (λ (x : ℤ). x -ℤ pos (tmax T - 1)) (pos-height row ∙ ap height_of (sym e) ∙ sym (sum-height (at_row (tmax T) row) (tmax T - 1)))
    ∙ +ℤ-neg_ℤ_cancel (height_of (at_row (tmax T) row)) (pos (tmax T - 1))

-- ---- over the table

module _ (held : Held) (settings : SettingsOf held) (b : Bounded held) (bound : ℕ) (small : bound ≤ largest_bound) (lent : Sheets)
    (room : Room held.head.height held.head.members lent) where
  abbrev N : ℕ
  N = held.head.height

  abbrev T : ℕ
  T = held.head.members

  abbrev R : Rules
  R = rules_of (plate_of held) bound

  place : (row m : ℕ) → row < heights N T → m ≤ M N T → entry_index (M N T) row m < entries N T
  unfolding entries
  place row m l u = digits_lt l (omega arith)

  at-errors : (row m : ℕ) → row < heights N T → m ≤ M N T
      → get_or (planned N T bound held.buffer lent).errors (entry_index (M N T) row m) 0 ≡ mark (least R m (at_row (tmax T) row))
  unfolding error_entry
  at-errors row m l u =
      errors-are N T bound settings small held.buffer lent room _ (place row m l u)
      ∙ flat-at (M N T + 1) (λ row m. mark (least R m (at_row (tmax T) row))) row m (omega arith)

  at-thicknesses : (row m : ℕ) → row < heights N T → m ≤ M N T
      → get_or (planned N T bound held.buffer lent).thicknesses (entry_index (M N T) row m) 0 ≡ last R m (at_row (tmax T) row)
  unfolding thickness_entry
  at-thicknesses row m l u =
      lasts_are N T bound settings small held.buffer lent room _ (place row m l u)
      ∙ flat-at (M N T + 1) (λ row m. last R m (at_row (tmax T) row)) row m (omega arith)

  entries-are : (row m : ℕ) → row < heights N T → m ≤ M N T
      → Entries (plate_of held) bound m (row_height T row) (get_or (planned N T bound held.buffer lent).errors (entry_index (M N T) row m) 0)
      (get_or (planned N T bound held.buffer lent).thicknesses (entry_index (M N T) row m) 0)
  entries-are row m l u =
      rw (at-errors row m l u, at-thicknesses row m l u, row-height T row settings.some-thickness)
      (sheets.entries (plate_of held) bound m (at_row (tmax T) row))

  list-is : (n : ℕ) → 1 ≤ n → n ≤ M N T → Listed (plate_of held) bound n (get_or (planned N T bound held.buffer lent).leasts (n - 1) 0)
  list-is n low high = go (found (plate_of held) bound n) refl
    where
      go : (o : Option (List ℤ)) → found (plate_of held) bound n ≡ o → Listed (plate_of held) bound n (get_or (planned N T bound held.buffer lent).leasts (n - 1) 0)
      go none e =
          let f = (found_none (plate_of held) bound n low).0 e in
          inr (f, plan-lists-none N T bound settings small held.buffer lent room n low high f)
      go (some zs) e =
          let c = (found-exact (plate_of held) bound n low zs).1 e in
          inl (record {
            one = zs;
            least = record { admissible = c.admissible; counts = c.counts; least = c.least };
            its = sym (plan-lists N T bound settings small held.buffer lent room n low high zs c);
          })

  -- what the call leaves
  pub plan-fills : Fills (plate_of held) bound (left_by (planning held bound lent))
  plan-fills =
      subst (Fills (plate_of held) bound) (sym (plan-leaves held settings b bound lent room)) (record { entries = entries-are; list = list-is })

-- ---- on another plate whose errors agree

pub fills-agree : (p : paper.Plate) (other : ℤ → ℕ → ℕ) → Agree p other → (bound : ℕ) (sheets : Sheets) → Fills p bound sheets → Fills (part p other) bound sheets
fills-agree p other agree bound sheets f = record {
  entries = λ row m l u. same_entries p other agree bound m (row_height p.T row) _ _ (f.entries row m l u);
  list = λ n low high. listed n _ (f.list n low high);
}
  where
    listed : (n e : ℕ) → Listed p bound n e → Listed (part p other) bound n e
    listed n e (inl x) = inl (same-least-error p other agree bound n e x)
    listed n e (inr x) = inr (same_none p other agree bound n x.0, x.1)
