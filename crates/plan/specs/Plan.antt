-- Document 01, 'Plan': its refusals 1, 2, 3 (table, error sheet, thickness sheet, list), 7, 6, what it returns, and what the two sheets
-- and the list hold then. Assumes nothing.
use Rattle.std.specs.Prelude.{ℕ, ◌≤◌, List, ◌∷◌, ◌++◌, ltb, length}
use Rattle.std.specs.Borrow.{MutBor}
use Rattle.lists.specs.Checks.{Check}
use Rattle.paper.specs.Sequence.{M}
use Rattle.paper.specs.Sheets.{entries}
use Rattle.plate.specs.Call.{Call}
use Rattle.plate.specs.Head.{Held, head_checks}
use Rattle.plate.specs.Refusal.{Numbered, check}
use Rattle.plate.specs.declared.settings.Settings.{Settings}
use Rattle.table.specs.Table.{short, bound_checks}
use Rattle.plan.specs.Planning.{plan_rules, planned_errors, planned_thicknesses, planned_list, Ready}

-- what a plan is handed to write into
pub record Sheets : Type 0 where
  pub errors : List ℕ
  pub thicknesses : List ℕ
  pub leasts : List ℕ

abbrev pub sheets_of : List ℕ → List ℕ → List ℕ → Sheets
sheets_of errors thicknesses leasts = record { errors = errors; thicknesses = thicknesses; leasts = leasts }

-- what three buffers hold, as sheets and list
abbrev pub sheets_in : MutBor (List ℕ) → MutBor (List ℕ) → MutBor (List ℕ) → Sheets
sheets_in errors thicknesses leasts = sheets_of errors.now thicknesses.now leasts.now

-- past the settings: 3, by the lengths of the buffers, 7, 6
unfoldable pub plan_rest : Held → ℕ → ℕ → ℕ → List (Check Numbered)
plan_rest held errors thicknesses leasts =
    short held 1
    ∷ check 3 (ltb errors (entries held.head.height held.head.members)) 2
    ∷ check 3 (ltb thicknesses (entries held.head.height held.head.members)) 3
    ∷ check 3 (ltb leasts (M held.head.height held.head.members)) 4
    ∷ bound_checks held

abbrev pub plan_checks : Held → ℕ → ℕ → ℕ → List (Check Numbered)
plan_checks held errors thicknesses leasts = head_checks held.head ++ plan_rest held errors thicknesses leasts

-- what is written over a table of N and T
abbrev pub planned : ℕ → ℕ → ℕ → List ℕ → Sheets → Sheets
planned N T bound table lent = record {
  errors = planned_errors N T (plan_rules N T bound table) lent.errors;
  thicknesses = planned_thicknesses N T (plan_rules N T bound table) lent.thicknesses;
  leasts = planned_list N T (plan_rules N T bound table) lent.leasts;
}

-- THE CALL: it answers the greatest count, and fills the sheets and the list
unfoldable pub planning : Held → ℕ → Sheets → Call ℕ Sheets
planning held bound lent = record {
  checks = plan_checks held (length lent.errors) (length lent.thicknesses) (length lent.leasts);
  value = M held.head.height held.head.members;
  writes = planned held.head.height held.head.members bound held.buffer lent;
  held = lent;
}

-- what is known where none of the refusals is given
pub record Plannable (held : Held) (errors thicknesses leasts : ℕ) (s : Settings) : Type 0 where
  pub ready : Ready s held.buffer
  pub errors-whole : s.entries ≤ errors
  pub thicknesses-whole : s.entries ≤ thicknesses
  pub leasts-whole : s.counts ≤ leasts
