-- What is answered and left. The table's checks are asked first; where they pass, the output's length decides; and where it is enough, the file is
-- as long as its head says, so that it is laid over the beginning of the output. Assumes nothing.
use mathlib.Core.Path.{◌≡◌, sym, ap, ◌∙◌}
use mathlib.Core.List.{List, [], ◌∷◌, ◌++◌}
use mathlib.Core.Option.{none, some}
use Prim.Native.Nat.{ℕ, ◌+◌, ◌≤◌, ◌<◌}
use native.Mathlib.Omega.{arith}
use borrow.Author.Tests.{lt-ltb, le-ltb}
use lib.ListN.{length, drop}
use lib.Seq.{sets, sets-eq}
use Rattle.lists.specs.Checks.{first}
use Rattle.lists.proofs.Checks.{first-passed, first-stopped}
use Rattle.plate.specs.Refusal.{Numbered}
use Rattle.plate.specs.Head.{Held, cells_of}
use Rattle.table.specs.Table.{table_checks}
use Rattle.sent.specs.Written.{file_of, file_size}
use Rattle.sent.proofs.Laid.{length-table}
use Rattle.send.specs.Sending.{no_room, sending}

module _ (held : Held) (out : List ℕ) where
  pub table-stop : (r : Numbered) → some r ≡ first (table_checks held) → some r ≡ first (sending held out).checks
  unfolding sending
  table-stop r e = sym (first-stopped (table_checks held) (no_room held.head (length out) ∷ []) r (sym e))

  module _ (in_order : none ≡ first (table_checks held)) where
    pub output-stop : length out < file_size held.head → some (record { number = 3; place = 2 }) ≡ first (sending held out).checks
    unfolding sending no_room
    output-stop short = sym (first-passed (table_checks held) (no_room held.head (length out) ∷ []) (sym in_order) ∙ simp (lt-ltb (length out) (file_size held.head) short))

    pub all_pass : file_size held.head ≤ length out → none ≡ first (sending held out).checks
    unfolding sending no_room
    all_pass room = sym (first-passed (table_checks held) (no_room held.head (length out) ∷ []) (sym in_order) ∙ simp (le-ltb (length out) (file_size held.head) room))

  pub file-left : cells_of held.head ≤ length held.buffer → file_size held.head ≤ length out → sets out 0 (file_of held) ≡ (sending held out).writes
  unfolding sending
  file-left whole room =
      let size : 0 + length (file_of held) ≡ file_size held.head = omega (arith, length-table held.head held.buffer whole) in
      sets-eq (file_of held) out 0 (omega arith) ∙ ap (λ (n : ℕ). file_of held ++ drop n out) size
