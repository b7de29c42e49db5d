-- DEMAND 2 over a table that is held: the call `plan` answers the greatest count, leaves document 01's entries, and its counts are read back as
-- document 01 says; in the words of the table, of the columns where the table is theirs, and wherever `plan` was done. All that is asked of the
-- plate is that its layers' errors agree with the table's cells. Assumes nothing.
use Prim.Native.Nat.{ℕ, ◌≤◌, ◌<◌}
use mathlib.Core.Path.{◌≡◌, refl, sym, ap, ◌∙◌}
use mathlib.Core.Logic.{◌↔◌}
use mathlib.Core.List.{List}
use lib.IntN.{ℤ}
use Rattle.paper.specs.Limits.{sets, largest_bound}
use Rattle.paper.specs.Layer as paper
use Rattle.paper.specs.Layer.{Column, of_columns}
use Rattle.paper.specs.Table.{Table}
use Rattle.paper.specs.Groups.{part}
use Rattle.plate.specs.Call.{answer_of, left_by}
use Rattle.plate.specs.Head.{Held}
use Rattle.plate.specs.Refusal.{done}
use Rattle.table.specs.Table.{Bounded}
use Rattle.plan.specs.Plan.{Sheets, planning}
use Rattle.meaning.specs.Working.{Agree}
use Rattle.promises.specs.Plans.{plate_of, SettingsOf, Room, Accepted, Plans, PlansTable}
use Rattle.promises.proofs.Accepted.{plan-accepted}
use Rattle.promises.proofs.Counts.{counts-read}
use Rattle.promises.proofs.Demands.{plan-done, demand-2, answers_agree, columns-agree}
use Rattle.promises.proofs.Filled.{plan-fills, fills-agree}

module _ (held : Held) (bound : ℕ) (small : bound ≤ largest_bound) (lent : Sheets) where
  -- ---- settings, table and buffers that a plan takes

  module _ (settings : SettingsOf held) (b : Bounded held) (room : Room held.head.height held.head.members lent) where
    agreeing-plans : (other : ℤ → ℕ → ℕ) → Agree (plate_of held) other → Plans (part (plate_of held) other) held bound lent
    agreeing-plans other agree = record {
      answer = plan-done held settings b bound lent room;
      fills = fills-agree (plate_of held) other agree bound (left_by (planning held bound lent)) (plan-fills held settings b bound small lent room);
      reads = counts-read (part (plate_of held) other) bound (left_by (planning held bound lent))
          (λ n low high out fits. answers_agree (plate_of held) other agree bound n _ out _ (demand-2 held settings b bound lent small room n low high out fits));
    }

    pub table-plans : Plans (plate_of held) held bound lent
    table-plans = agreeing-plans (plate_of held).layer_error (λ z t u. refl)

    pub columns-plan : (columns : List Column) → Table (of_columns held.head.height held.head.members columns) held.buffer
        → Plans (of_columns held.head.height held.head.members columns) held bound lent
    columns-plan columns t = agreeing-plans (paper.shares columns) (columns-agree held.head.height held.head.members columns held.buffer t)

  -- ---- wherever a plan was done

  module _ (bits : held.head.members < sets) where
    -- it is done exactly where it takes what it is handed
    plan-exactly : (m : ℕ) → (answer_of (planning held bound lent) ≡ done m) ↔ Accepted held lent m
    plan-exactly m = (plan-accepted held bound lent m bits, λ a. plan-done held a.settings a.bounds bound lent a.room ∙ ap done (sym a.counts))

    pub plans-table : PlansTable held bound lent
    plans-table = record {
      exactly = plan-exactly;
      plans = λ m is. let a = (plan-exactly m).0 is in table-plans a.settings a.bounds a.room;
    }
