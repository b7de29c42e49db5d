-- The refusals of a plan: what each test that holds says, and what is known where none does. Past 3 the table is asked as any other
-- (`table-asks`), and a table in order is ready to be planned. Assumes nothing.
use mathlib.Core.Path.{◌≡◌, sym, ap, ◌∙◌}
use mathlib.Core.Option.{none, some}
use Prim.Native.Nat.{ℕ, ◌≤◌, ◌<◌}
use native.Mathlib.Omega.{arith}
use borrow.Author.Tests.{lt-ltb, le-ltb, ltb-false}
use lib.ListN.{length}
use Rattle.lists.specs.Checks.{first}
use Rattle.lists.proofs.Checks.{first-none, first-later}
use Rattle.paper.specs.Sequence.{M}
use Rattle.paper.specs.Sheets.{entries}
use Rattle.plate.specs.Head.{Held, cells_of, head_checks, SettingsFor}
use Rattle.plate.specs.Settings.{Judges}
use Rattle.plate.specs.declared.head.Head.{Head}
use Rattle.plate.specs.declared.settings.Settings.{Settings}
use Rattle.plate.proofs.Heads.{head-fine}
use Rattle.table.specs.Table.{short, bound_checks, table_checks}
use Rattle.table.proofs.Passed.{table-asks, table-passed}
use Rattle.plan.specs.Plan.{plan_rest, plan_checks, Plannable}
use Rattle.std.specs.Prelude.{Result}
use Rattle.plate.specs.declared.refusal.Refusal.{Refusal}

-- the sizes of the sheets are those of the settings
module _ {head : Head} {s : Settings} (k : SettingsFor head s) where
  pub entries-for : s.entries ≡ entries head.height head.members
  entries-for = ap (λ (s : Settings). s.entries) k.is

  pub counts-for : s.counts ≡ M head.height head.members
  counts-for = ap (λ (s : Settings). s.counts) k.is

module _ (held : Held) (errors thicknesses leasts : ℕ) where
  pub short-table : length held.buffer < cells_of held.head → some (record { number = 3; place = 1 }) ≡ first (plan_rest held errors thicknesses leasts)
  unfolding plan_rest short
  short-table l = simp (lt-ltb _ _ l)

  module _ (room : cells_of held.head ≤ length held.buffer) where
    pub short-errors : errors < entries held.head.height held.head.members → some (record { number = 3; place = 2 }) ≡ first (plan_rest held errors thicknesses leasts)
    unfolding plan_rest short
    short-errors l = simp (le-ltb _ _ room, lt-ltb _ _ l)

    module _ (e : entries held.head.height held.head.members ≤ errors) where
      pub short-thicknesses : thicknesses < entries held.head.height held.head.members → some (record { number = 3; place = 3 }) ≡ first (plan_rest held errors thicknesses leasts)
      unfolding plan_rest short
      short-thicknesses l = simp (le-ltb _ _ room, le-ltb _ _ e, lt-ltb _ _ l)

      module _ (t : entries held.head.height held.head.members ≤ thicknesses) where
        pub short-list : leasts < M held.head.height held.head.members → some (record { number = 3; place = 4 }) ≡ first (plan_rest held errors thicknesses leasts)
        unfolding plan_rest short
        short-list l = simp (le-ltb _ _ room, le-ltb _ _ e, le-ltb _ _ t, lt-ltb _ _ l)

        module _ (m : M held.head.height held.head.members ≤ leasts) where
          -- 7 and 6 are left
          rest-is : first (bound_checks held) ≡ first (plan_rest held errors thicknesses leasts)
          unfolding plan_rest short
          rest-is = simp (le-ltb _ _ room, le-ltb _ _ e, le-ltb _ _ t, le-ltb _ _ m)

          pub table-judged : {s : Settings} → SettingsFor held.head s → (made : Result Settings Refusal) → Judges made (table_checks held) held.head.height held.head.members
              → Judges made (plan_rest held errors thicknesses leasts) held.head.height held.head.members
          table-judged k made j = record { says = j.says ∙ table-asks held (head-fine k) room ∙ rest-is; good = j.good }

  -- passed: the list has room for every count
  pub list-room : first (plan_checks held errors thicknesses leasts) ≡ none → M held.head.height held.head.members ≤ leasts
  unfolding plan_rest short
  list-room e =
      ltb-false leasts (M held.head.height held.head.members)
      ((first-none (plan_rest held errors thicknesses leasts)).0 (first-later (head_checks held.head) (plan_rest held errors thicknesses leasts) e)).1.1.1.0

  -- passed: what else is known then
  module _ {s : Settings} (k : SettingsFor held.head s) where
    pub plan-passed : none ≡ first (plan_checks held errors thicknesses leasts) → Plannable held errors thicknesses leasts s
    unfolding plan_rest short
    plan-passed e =
        let q = (first-none (plan_rest held errors thicknesses leasts)).0 (first-later (head_checks held.head) (plan_rest held errors thicknesses leasts) (sym e)) in
        let room = ltb-false (length held.buffer) (cells_of held.head) q.0 in
        let rest = (first-none (bound_checks held)).1 q.1.1.1.1 in
        let o = table-passed held k (sym (table-asks held (head-fine k) room ∙ rest)) in
        record {
          ready = record { sound = k.sound; size = o.room; small = o.small };
          errors-whole = omega (arith, entries-for k, ltb-false errors (entries held.head.height held.head.members) q.1.0);
          thicknesses-whole = omega (arith, entries-for k, ltb-false thicknesses (entries held.head.height held.head.members) q.1.1.0);
          leasts-whole = omega (arith, counts-for k, list-room (sym e));
        }
