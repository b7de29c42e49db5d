-- Document 02 c), the reader of table files: 'Refusals of the reader: 16 by record as in the job file', which f) splits, 'then 1, 2, 7 and 6
-- as they apply, at the record; after the whole file 3 for the lent table'; and what the table then holds. Assumes nothing.
use Rattle.std.specs.Prelude.{ℕ, List, [], ◌∷◌, ◌++◌, length, drop}
use Rattle.plate.specs.Call.{Call, answer_of}
use Rattle.plate.specs.Refusal.{Told}
use Rattle.plate.specs.Head.{held_in}
use Rattle.plate.specs.declared.head.Head.{Head}
use Rattle.table.specs.Table.{short}
use Rattle.sent.specs.File.{head_in, file_checks, cells_in}

-- THE CALL: where nothing is refused it answers what goes with the table, and writes the cells over what the lent table held
unfoldable pub receiving : List ℕ → List ℕ → Call Head (List ℕ)
receiving file lent = record {
  checks = file_checks file ++ (short (held_in (head_in file) lent) 1 ∷ []);
  value = head_in file;
  writes = cells_in file ++ drop (length (cells_in file)) lent;
  held = lent;
}

abbrev pub read_answer : List ℕ → List ℕ → Told Head
read_answer file lent = answer_of (receiving file lent)
