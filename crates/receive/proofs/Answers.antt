-- What is answered and left. The first record's checks are asked first, then those of the others; where they pass, the lent table's length
-- decides; and where it is enough, the cells are laid over its beginning. Assumes nothing.
use mathlib.Core.Path.{◌≡◌, sym, ap, ◌∙◌}
use mathlib.Core.List.{List, [], ◌∷◌, ◌++◌}
use mathlib.Core.Option.{none, some}
use Prim.Native.Nat.{ℕ, ◌+◌, ◌≤◌, ◌<◌}
use native.Mathlib.Omega.{arith}
use borrow.Author.Tests.{lt-ltb, le-ltb}
use lib.ListN.{length, drop}
use lib.Seq.{sets, sets-eq}
use Rattle.lists.specs.Checks.{first}
use Rattle.lists.proofs.Checks.{first-passed, first-stopped}
use Rattle.paper.specs.Table.{cells}
use Rattle.plate.specs.Refusal.{Numbered}
use Rattle.plate.specs.Head.{held_in, cells_of}
use Rattle.table.specs.Table.{short}
use Rattle.sent.specs.Written.{rows_of}
use Rattle.sent.specs.File.{head_in, opening_checks, rows_checks, file_checks, cells_in}
use Rattle.sent.proofs.Laid.{length-cells}
use Rattle.receive.specs.Receiving.{receiving}
use Rattle.receive.proofs.Asks.{at}

module _ (file lent : List ℕ) where
  pub opening-stop : (r : Numbered) → some r ≡ first (opening_checks file) → some r ≡ first (receiving file lent).checks
  unfolding receiving file_checks
  opening-stop r e =
      let others = rows_checks file (head_in file) (rows_of (head_in file)) 0 in
      sym (first-stopped (opening_checks file ++ others) (short (held_in (head_in file) lent) 1 ∷ []) r (first-stopped (opening_checks file) others r (sym e)))

  module _ (opened : none ≡ first (opening_checks file)) where
    pub records-stop : (r : Numbered) → some r ≡ first (rows_checks file (head_in file) (rows_of (head_in file)) 0) → some r ≡ first (receiving file lent).checks
    unfolding receiving file_checks
    records-stop r e =
        let others = rows_checks file (head_in file) (rows_of (head_in file)) 0 in
        sym (first-stopped (opening_checks file ++ others) (short (held_in (head_in file) lent) 1 ∷ []) r (first-passed (opening_checks file) others (sym opened) ∙ sym e))

    module _ (read : none ≡ first (rows_checks file (head_in file) (rows_of (head_in file)) 0)) where
      table-decides : first (receiving file lent).checks ≡ first (short (held_in (head_in file) lent) 1 ∷ [])
      unfolding receiving file_checks
      table-decides =
          let others = rows_checks file (head_in file) (rows_of (head_in file)) 0 in
          first-passed (opening_checks file ++ others) (short (held_in (head_in file) lent) 1 ∷ []) (first-passed (opening_checks file) others (sym opened) ∙ sym read)

      pub table-stop : length lent < cells_of (head_in file) → some (at 3 1) ≡ first (receiving file lent).checks
      unfolding short
      table-stop l = sym (table-decides ∙ simp (lt-ltb (length lent) (cells_of (head_in file)) l))

      pub all_pass : cells_of (head_in file) ≤ length lent → none ≡ first (receiving file lent).checks
      unfolding short
      all_pass l = sym (table-decides ∙ simp (le-ltb (length lent) (cells_of (head_in file)) l))

  pub cells_left : cells_of (head_in file) ≤ length lent → sets lent 0 (cells_in file) ≡ (receiving file lent).writes
  unfolding receiving cells_in cells
  cells_left l =
      let head = head_in file in
      let long = length-cells file head.members (rows_of head) 0 in
      let whole : 0 + length (cells_in file) ≡ length (cells_in file) = omega arith in
      sets-eq (cells_in file) lent 0 (omega arith) ∙ ap (λ (n : ℕ). cells_in file ++ drop n lent) whole
