-- Each record as the numbers of two bytes that are written for it: its length, its kind and what its body holds. Where the output has room they
-- are the record's bytes. Assumes nothing.
use mathlib.Core.Path.{◌≡◌, sym, ap, ◌∙◌}
use mathlib.Core.List.{List, [], ◌∷◌, ◌++◌}
use Prim.Native.Nat.{ℕ, ◌+◌, ◌*◌, ◌/◌, ◌%◌, ◌≤◌}
use native.Mathlib.Omega.{arith}
use lib.ListN.{length}
use lib.Seq.{sets, length-sets}
use Rattle.paper.specs.Layer.{column_of}
use Rattle.record.specs.Written.{bytes16, bytes32, bytes_of, framed, laid_at}
use Rattle.record.proofs.Spelled.{length-bytes_of}
use Rattle.record.proofs.Stores.{stored-then, laid, halves, opening-numbers}
use Rattle.job.specs.Kinds.{settings_kind, column_kind, end_kind}
use Rattle.job.specs.Written.{settings_record, column_record, end_record}
use Rattle.job.specs.declared.Asked.{Asked}
use Rattle.save.proofs.Laid.{length-settings, length-end}

-- ---- the settings

abbrev settings_numbers : Asked → List ℕ
settings_numbers a = 10 ∷ settings_kind ∷ a.height ∷ a.members % 65536 ∷ a.members / 65536 ∷ a.bound % 65536 ∷ a.bound / 65536 ∷ []

settings-numbers : (a : Asked) → bytes_of (settings_numbers a) ≡ settings_record a
unfolding settings_record
settings-numbers a = opening-numbers settings_kind a.height a.members a.bound

pub settings-laid : (a : Asked) (out : List ℕ) → 14 ≤ length out → laid_at out 0 (bytes_of (settings_numbers a)) ≡ sets out 0 (settings_record a)
settings-laid a out room = ap (laid_at out 0) (settings-numbers a) ∙ laid out 0 (settings_record a) (omega (arith, length-settings a))

-- ---- a column

column-numbers : (bs : List ℕ) → bytes_of (2 * length bs ∷ column_kind ∷ []) ++ bytes_of bs ≡ column_record (column_of bs)
unfolding bytes_of column_record framed bytes16
column-numbers bs = ap (λ (n : ℕ). bytes16 n ++ (bytes16 column_kind ++ bytes_of bs)) (sym (length-bytes_of bs))

-- its boundaries behind what it begins with
pub column-laid : (bs out begun : List ℕ) (at : ℕ) → at + 4 + 2 * length bs ≤ length out → begun ≡ laid_at out at (bytes_of (2 * length bs ∷ column_kind ∷ []))
    → laid_at begun (at + 4) (bytes_of bs) ≡ sets out at (column_record (column_of bs))
column-laid bs out begun at room e =
    let head = bytes_of (2 * length bs ∷ column_kind ∷ []) in
    let four = length-bytes_of (2 * length bs ∷ column_kind ∷ []) in
    let stored = e ∙ laid out at head (omega (arith, four)) in
    let long = ap (λ (l : List ℕ). length l) stored ∙ length-sets out at head in
    laid begun (at + 4) (bytes_of bs) (omega (arith, length-bytes_of bs, long))
    ∙ stored-then out begun at (at + 4) head (bytes_of bs) stored (omega (arith, four))
    ∙ ap (sets out at) (column-numbers bs)

-- ---- the end

abbrev end_numbers : ℕ → List ℕ
end_numbers columns = 4 ∷ end_kind ∷ columns % 65536 ∷ columns / 65536 ∷ []

end-numbers : (columns : ℕ) → bytes_of (end_numbers columns) ≡ end_record columns
unfolding bytes_of end_record framed bytes32 bytes16
end-numbers columns = ap (λ (l : List ℕ). bytes16 4 ++ (bytes16 end_kind ++ l)) (halves columns)

pub end-laid : (columns at : ℕ) (out : List ℕ) → at + 8 ≤ length out → laid_at out at (bytes_of (end_numbers columns)) ≡ sets out at (end_record columns)
end-laid columns at out room = ap (laid_at out at) (end-numbers columns) ∙ laid out at (end_record columns) (omega (arith, length-end columns))
