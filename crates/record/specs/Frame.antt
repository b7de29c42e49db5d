-- Document 01, 'Job file': 'a body length in two bytes, a kind in two bytes, the body; all little-endian'. Assumes nothing.
use Rattle.std.specs.Prelude.{ℕ, ◌+◌, ◌-◌, List, length}
use Rattle.record.specs.Bytes.{le16}

-- the bytes from a place on; a place past the input counts as nothing left
abbrev pub left : List ℕ → ℕ → ℕ
left s at = length s - at

abbrev pub length_at : List ℕ → ℕ → ℕ
length_at s at = le16 s at

abbrev pub kind_at : List ℕ → ℕ → ℕ
kind_at s at = le16 s (at + 2)

-- where the body begins, and where the record ends
abbrev pub body_at : ℕ → ℕ
body_at at = at + 4

abbrev pub past_at : List ℕ → ℕ → ℕ
past_at s at = body_at at + length_at s at
