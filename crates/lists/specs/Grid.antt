-- Numbers laid out flat, row after row: the cells of a table, the entries of a sheet. Assumes nothing.
use Rattle.std.specs.Prelude.{ℕ, ◌/◌, ◌%◌}

-- what stands at the flat index i of rows of w, where f r k stands at the place k of the row r
abbrev pub flat : {A : Type 0} → ℕ → (ℕ → ℕ → A) → ℕ → A
flat w f i = f (i / w) (i % w)
