-- Document 02 c), the writer of table files: 'Of the writer: 1, 2, 3 for the table, 7, 6, 3 for the output'; and what is written. Assumes nothing.
use Rattle.std.specs.Prelude.{ℕ, List, [], ◌∷◌, ◌++◌, ltb, length, drop}
use Rattle.lists.specs.Checks.{Check}
use Rattle.plate.specs.Call.{Call, answer_of}
use Rattle.plate.specs.Refusal.{Told, Numbered, check}
use Rattle.plate.specs.Head.{Held}
use Rattle.plate.specs.declared.head.Head.{Head}
use Rattle.table.specs.Table.{table_checks}
use Rattle.sent.specs.Written.{file_of, file_size}

-- 3 for the output
unfoldable pub no_room : Head → ℕ → Check Numbered
no_room head room = check 3 (ltb room (file_size head)) 2

-- THE CALL: where nothing is refused it answers the file's length, and writes the file over what the output held
unfoldable pub sending : Held → List ℕ → Call ℕ (List ℕ)
sending held out = record {
  checks = table_checks held ++ (no_room held.head (length out) ∷ []);
  value = file_size held.head;
  writes = file_of held ++ drop (file_size held.head) out;
  held = out;
}

abbrev pub write_answer : Held → List ℕ → Told ℕ
write_answer held out = answer_of (sending held out)
