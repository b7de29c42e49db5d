-- A file read record by record: one recursion over its records, in which `over` says what a record makes of what is read after it.
-- Assumes nothing.
use Rattle.std.specs.Prelude.{ℕ, zero, suc, List, length}
use Rattle.job.specs.State.{start_state}
use Rattle.job.specs.Record.{Moved, read_record}
use Rattle.job.specs.declared.State.{State}

-- given the file, the place of a record, what reading it found, and what is read from a state and a place on
abbrev pub Over : Type 0 → Type 0
Over A = List ℕ → ℕ → Moved → (State → ℕ → A) → A

module _ {A : Type 0} (over : Over A) (unread : A) where
  -- at most that many records
  unfoldable pub fold_from : ℕ → List ℕ → State → ℕ → A
  fold_from zero s st at = unread
  fold_from (suc n) s st at = over s at (read_record s st at) (fold_from n s)

  -- a record takes four bytes or more, so that one more than the bytes bounds the records
  unfoldable pub fold_of : List ℕ → A
  fold_of s = fold_from (suc (length s)) s start_state 0
