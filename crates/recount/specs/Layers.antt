-- What the parts of recounting say to each other, over heights counted from the datum: what a look at a layer tells, what is known of a
-- sequence whose start is in order, and what is answered from there. Assumes nothing.
use Rattle.std.specs.Prelude.{ℕ, ◌+◌, ◌-◌, ◌≤◌, ◌<◌, ◌≡◌, true, false, List, ℤ, length}
use Rattle.paper.specs.Layer.{tmax}
use Rattle.paper.specs.Table.{of_table}
use Rattle.paper.specs.Sequence.{◌!◌, error}
use Rattle.plate.specs.Datum.{datum}
use Rattle.plate.specs.Refusal.{Told, decided}
use Rattle.plate.specs.declared.settings.Settings.{Settings}
use Rattle.sequence.specs.Sequence.{starts, lowest_end}
use Rattle.table.specs.Cells.{cell_from}
use Rattle.recount.specs.Recount.{out_between, sequence_checks}
use Rattle.std.specs.Prelude.{Option, None, Some}

-- a layer that is by itself one of an admissible sequence, and its error
pub record Counted (N T : ℕ) (table : List ℕ) (bound below above error : ℕ) : Type 0 where
  pub admissible : out_between N T table bound below above ≡ false
  pub is : error ≡ cell_from T table below (above - below)
  pub rises : below < above
  pub ends : above < lowest_end N + tmax T
  pub small : error < 4_294_967_296

-- what a look at a layer tells
abbrev pub Looked : Option ℕ → ℕ → ℕ → List ℕ → ℕ → ℕ → ℕ → Type 0
Looked None N T table bound below above = out_between N T table bound below above ≡ true
Looked (Some x) N T table bound below above = Counted N T table bound below above x

-- a sequence that starts as an admissible one does: two boundaries at least, z0 a start, and z1 above 0
pub record Started (s : Settings) (zs : List ℤ) : Type 0 where
  pub layered : 2 ≤ length zs
  pub starts-in : starts (tmax s.members) (datum (zs ! 0)) ≡ true
  pub first_above : 32 < datum (zs ! 1)

-- what is answered where the table is in order: 13, or the sequence's error
unfoldable pub sequence_answer : ℕ → ℕ → List ℕ → ℕ → List ℤ → Told ℕ
sequence_answer N T table bound zs = decided (sequence_checks N T table bound zs) (error (of_table N T table) zs)
