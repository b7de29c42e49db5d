-- No sum of layers' errors comes near the mark for none: over a table whose cells are in bounds, m layers have an error of at most m times
-- the greatest cell, since every permitted layer has a cell of the table. By induction on the layers from the top down. Assumes nothing.
use Prim.Native.Nat.{ℕ, ◌+◌, ◌-◌, ◌*◌, ◌≤◌, ◌<◌}
use mathlib.Core.Path.{◌≡◌, refl}
use mathlib.Core.Bool.{true}
use mathlib.Core.List.{List}
use mathlib.Core.Option.{Option, none, some}
use native.Mathlib.Omega.{arith}
use lib.Dec.{leb}
use Rattle.paper.specs.Sheets.{missing}
use Rattle.paper.specs.Table.{cell_index}
use Rattle.paper.proofs.Thicknesses.{and-true, allowed-from, allowed-tmax, tmin-least}
use Rattle.plate.specs.Datum.{row_of}
use Rattle.plate.specs.declared.settings.Settings.{Settings}
use Rattle.sequence.specs.Sequence.{Rules}
use Rattle.sequence.specs.Least.{via, least}
use Rattle.sequence.specs.Rules.{shape}
use Rattle.sequence.proofs.Bounds.{Known, rules-known, least-bound}
use Rattle.sequence.proofs.Layers.{shape-allowed, shape-above, shape-from, shape-to}
use Rattle.sequence.proofs.Least.{via-some}
use Rattle.sequence.proofs.Marks.{Small}
use Rattle.table.specs.Cells.{cell_from}
use Rattle.table.specs.Limits.{greatest_limit}
use Rattle.table.proofs.Cells.{cell_in, cell-read}
use Rattle.plan.specs.Planning.{Ready, plan_rules, table_rules}

small : (o : Option ℕ) → ((e : ℕ) → o ≡ some e → e < missing) → Small o
small none f = tt
small (some e) f = f e refl

module _ (s : Settings) (bound : ℕ) (table : List ℕ) (ready : Ready s table) where
  abbrev p : Rules
  p = table_rules s bound table

  -- the shape of a permitted layer
  shape_of : (h t : ℕ) → p.may h t ≡ true → shape s.height s.members h t ≡ true
  unfolding plan_rules
  shape_of h t e = (and-true (shape s.height s.members h t) (leb (cell_from s.members table h t) bound) e).0

  cell-small : (h t : ℕ) → p.may h t ≡ true → p.cell h t ≤ greatest_limit
  unfolding plan_rules
  cell-small h t e =
      let r = ready.sound in
      let f = shape_of h t e in
      let a = shape-allowed _ _ h t f in
      let row = row_of s.tmax h in
      let i =
      cell_in r row (omega (arith, shape-from _ _ h t f, shape-to _ _ h t f, allowed-from _ t a, r.greatest, r.rows_are)) (t - 1) (omega (arith, allowed-from _ t a, allowed-tmax _ t a, r.greatest)) in
      omega (arith, ready.small.are (cell_index s.tmax row t) i, cell-read s.members s.tmax table row h t r.greatest refl)

  may-thick : (h t : ℕ) → p.may h t ≡ true → s.tmin ≤ t
  may-thick h t e = omega (arith, ready.sound.least, (tmin-least _ t (shape-allowed _ _ h t (shape_of h t e))).1)

  -- what is known of every permitted layer
  pub known : Known p s.tmin
  unfolding plan_rules
  known = rw ready.sound.least (rules-known s.height s.members bound (cell_from s.members table))

  -- no layer ends at 0 or less
  pub via_empty : (m h t : ℕ) → h ≤ 32 → via p (λ g. least p m g) h t ≡ none
  via_empty m h t l = go _ refl
    where
      go : (o : Option ℕ) → via p (λ g. least p m g) h t ≡ o → via p (λ g. least p m g) h t ≡ none
      go none e = e
      go (some d) e =
          let v = via-some p (λ g. least p m g) h t d e in
          absurd (omega (arith, v.0, shape-above _ _ (h - t) t (shape_of (h - t) t v.1)))

  -- no layer is thinner than tmin
  pub via-thin : (m h t : ℕ) → t < s.tmin → via p (λ g. least p m g) h t ≡ none
  via-thin m h t l = go _ refl
    where
      go : (o : Option ℕ) → via p (λ g. least p m g) h t ≡ o → via p (λ g. least p m g) h t ≡ none
      go none e = e
      go (some d) e = absurd (omega (arith, may-thick (h - t) t (via-some p (λ g. least p m g) h t d e).1))

  pub sum-most : (m h e : ℕ) → least p m h ≡ some e → e ≤ m * greatest_limit
  sum-most m h e q = least-bound p greatest_limit (λ g t l. cell-small (g - t) t l.allowed) m h e q

  pub least-small : (m h : ℕ) → m ≤ s.counts → Small (least p m h)
  least-small m h l = small (least p m h) (λ e q. omega (arith, sum-most m h e q, ready.sound.few-counts))

  -- with one layer more
  pub via-small : (m h t : ℕ) → m ≤ s.counts → Small (via p (λ g. least p m g) h t)
  via-small m h t l = small (via p (λ g. least p m g) h t) (λ e q. sum e (via-some p (λ g. least p m g) h t e q))
    where
      sum : (e : ℕ) → (t ≤ h) × (p.may (h - t) t ≡ true) × ((d : ℕ) × (least p m (h - t) ≡ some d) × (d + p.cell (h - t) t ≡ e)) → e < missing
      sum e v =
          let b = sum-most m (h - t) v.2.0 v.2.1 in
          omega (arith, cell-small (h - t) t v.1, v.2.2, ready.sound.few-counts)
