-- Document 01, 'Join the second into the first' and 'Take the second off the first'. Assumes nothing.
use Rattle.std.specs.Prelude.{◌≡◌, ℕ, ◌+◌, ◌-◌, ◌≤◌, ◌<◌, Bool, false, not, ◌&&◌, List, [], ◌∷◌, ◌++◌, length, ◌==◌, nat_lt, slice_index}
use Rattle.std.proofs.Math.Option.{none}
use Rattle.lists.specs.Checks.{Check, first}
use Rattle.lists.specs.Rewrite.{rewritten}
use Rattle.plate.specs.Refusal.{Told, Numbered, check}
use Rattle.plate.specs.Call.{Call, answer_of, left_by}
use Rattle.plate.specs.Head.{Held, SettingsFor, both, less, is_over, either_over, any_over, is_less, cells_of, head_checks}
use Rattle.plate.specs.declared.head.Head.{Head}
use Rattle.plate.specs.declared.settings.Settings.{Settings}
use Rattle.table.specs.Table.{short, out_cell, InOrder}
use Rattle.joining.specs.Parts.{first_not_part}

-- ---- two tables: 1 and 2 for the first, then the second; 8; 3; 7; 6 in the first, then the second

-- 8: two tables' settings differ
unfoldable pub differ : Head → Head → Check Numbered
differ head other = check 8 (not (head.height == other.height && head.members == other.members)) 0

unfoldable pub pair_checks : Head → Head → List (Check Numbered)
pair_checks head other = head_checks head ++ (head_checks other ++ (differ head other ∷ []))

-- 6 in the first, then the second
unfoldable pub out_checks : Held → Held → List (Check Numbered)
out_checks held other = out_cell held ∷ out_cell other ∷ []

-- 3, 7 where this test holds, 6
unfoldable pub rest_checks : Bool → Held → Held → List (Check Numbered)
rest_checks beyond held other = short held 1 ∷ short other 2 ∷ check 7 beyond 0 ∷ out_checks held other

unfoldable pub both_checks : Bool → Held → Held → List (Check Numbered)
both_checks beyond held other = pair_checks held.head other.head ++ rest_checks beyond held other

-- a table of which only the cells are left to be asked
pub record Whole (held : Held) : Type 0 where
  pub fine : first (head_checks held.head) ≡ none
  pub room : cells_of held.head ≤ length held.buffer
  pub few : is_over held.head ≡ false

-- what is known of two tables that passed them: the second has the first's settings, and both are in order
pub record PairInOrder (held other : Held) (s : Settings) : Type 0 where
  pub for-other : SettingsFor other.head s
  pub one : InOrder held s
  pub two : InOrder other s

-- each of the first n cells is what the rule may give for it and the other table's cell at its place; what stands past them stays
pub record Combined (rule : ℕ → ℕ → ℕ → Type 0) (n : ℕ) (other old new : List ℕ) : Type 0 where
  pub long : length new ≡ length old
  pub inside : (i : ℕ) → i < n → rule (slice_index old i) (slice_index other i) (slice_index new i)
  pub above : (i : ℕ) → n ≤ i → slice_index new i ≡ slice_index old i

-- ---- Join the second into the first: 7 for either count or the sum. Returns the sum of counts

unfoldable pub joined : Held → Held → List ℕ
joined held other = rewritten (λ i x. x + slice_index other.buffer i) (cells_of held.head) held.buffer

unfoldable pub joining : Held → Held → Call Head (List ℕ)
joining held other = record {
  checks = both_checks (any_over held.head other.head) held other;
  value = both held.head other.head;
  writes = joined held other;
  held = held.buffer;
}

abbrev pub join_answer : Held → Held → Told Head
join_answer held other = answer_of (joining held other)

abbrev pub join_table : Held → Held → List ℕ
join_table held other = left_by (joining held other)

-- ---- Take the second off the first: the same order, 7 for either count only, then 9: place 0 if its count is greater, else the lowest cell
-- where the difference is negative or out of bounds for the difference of counts. Returns that difference

unfoldable pub part_checks : Held → Held → List (Check Numbered)
part_checks held other =
    check 9 (is_less held.head other.head) 0 ∷ check 9 (nat_lt (first_not_part held other) (cells_of held.head)) (first_not_part held other) ∷ []

unfoldable pub taken : Held → Held → List ℕ
taken held other = rewritten (λ i x. x - slice_index other.buffer i) (cells_of held.head) held.buffer

unfoldable pub taking : Held → Held → Call Head (List ℕ)
taking held other = record {
  checks = both_checks (either_over held.head other.head) held other ++ part_checks held other;
  value = less held.head other.head;
  writes = taken held other;
  held = held.buffer;
}

abbrev pub take_answer : Held → Held → Told Head
take_answer held other = answer_of (taking held other)

abbrev pub take_table : Held → Held → List ℕ
take_table held other = left_by (taking held other)
