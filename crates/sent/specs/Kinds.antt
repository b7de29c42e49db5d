-- Document 02 c), 'Sending a table between workstations': the kinds of records of a table file, which are allowed where, and which body
-- lengths are right. Assumes nothing.
use Rattle.std.specs.Prelude.{ℕ, ◌+◌, ◌*◌, Bool, cond, ltb, eqb}
use Rattle.paper.specs.Layer.{tmax}
use Rattle.sent.specs.declared.Kind.{Kind}
use Rattle.sent.specs.declared.Kind.TheVariants as kind

-- 'kind 16, N (2), T (4), column count (4); kind 17, one start (signed, 2) and its tmax cells (4 each); kind 18, the number of rows (2)'
abbrev pub head_kind : ℕ
head_kind = 16

abbrev pub row_kind : ℕ
row_kind = 17

abbrev pub end_kind : ℕ
end_kind = 18

-- the number of a kind
abbrev pub kind_number : Kind → ℕ
kind_number kind.Head = head_kind
kind_number kind.Row = row_kind
kind_number kind.End = end_kind

abbrev pub head_length : ℕ
head_length = 10

unfoldable pub row_length : ℕ → ℕ
row_length T = 2 + 4 * tmax T

abbrev pub end_length : ℕ
end_length = 2

-- kinds go 16, then 17 once or more, then 18: whether a kind may come after the head and so many rows
unfoldable pub allowed_after : ℕ → ℕ → Bool
allowed_after r kind = cond (eqb kind end_kind) (ltb 0 r) (eqb kind row_kind)

-- the length is right for the kind, behind the head
unfoldable pub fits : ℕ → ℕ → ℕ → Bool
fits T kind length = cond (eqb kind end_kind) (eqb length end_length) (eqb length (row_length T))
