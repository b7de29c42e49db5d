-- Each record as it is stored: the numbers of two bytes that are written for it, and a row's cells behind them. Where the output has room they are
-- the record's bytes. Assumes nothing.
use mathlib.Core.Path.{◌≡◌, refl, ap, ◌∙◌}
use mathlib.Core.List.{List, [], ◌∷◌, ◌++◌}
use Prim.Native.Nat.{ℕ, suc, ◌+◌, ◌*◌, ◌/◌, ◌%◌, ◌≤◌}
use native.Mathlib.Omega.{arith}
use lib.ListN.{length}
use lib.Seq.{sets}
use Rattle.plate.specs.declared.head.Head.{Head}
use Rattle.record.specs.Written.{bytes16, bytes_of, quad_bytes_of, framed, laid_at}
use Rattle.record.proofs.Spelled.{length-bytes_of, length-quad_bytes_of}
use Rattle.record.proofs.Stores.{stored-then, laid, opening-numbers}
use Rattle.sent.specs.Kinds.{head_kind, row_kind, end_kind}
use Rattle.sent.specs.Written.{head_record, end_record}
use Rattle.sent.proofs.Laid.{length-head, length-end}

-- ---- the head

abbrev head_numbers : Head → List ℕ
head_numbers head =
    10 ∷ head_kind ∷ head.height ∷ head.members % 65536 ∷ head.members / 65536 ∷ head.columns % 65536 ∷ head.columns / 65536 ∷ []

head-numbers : (head : Head) → bytes_of (head_numbers head) ≡ head_record head
unfolding head_record
head-numbers head = opening-numbers head_kind head.height head.members head.columns

pub head-laid : (head : Head) (out : List ℕ) → 14 ≤ length out → laid_at out 0 (bytes_of (head_numbers head)) ≡ sets out 0 (head_record head)
head-laid head out room = ap (laid_at out 0) (head-numbers head) ∙ laid out 0 (head_record head) (omega (arith, length-head head))

-- ---- a row

abbrev row_numbers : ℕ → ℕ → List ℕ
row_numbers start width = (2 + 4 * width) ∷ row_kind ∷ start ∷ []

row-numbers : (start : ℕ) (row : List ℕ) → bytes_of (row_numbers start (length row)) ++ quad_bytes_of row ≡ framed row_kind (bytes16 start ++ quad_bytes_of row)
unfolding bytes_of framed bytes16
row-numbers start row =
    let long : 2 + 4 * length row ≡ suc (suc (length (quad_bytes_of row))) = omega (arith, length-quad_bytes_of row) in
    ap (λ (n : ℕ). bytes16 n ++ (bytes16 row_kind ++ (bytes16 start ++ quad_bytes_of row))) long

-- its cells behind what it begins with
module _ (start : ℕ) (row out begun : List ℕ) (at : ℕ) (room : at + 6 + 4 * length row ≤ length out) (e : begun ≡ laid_at out at (bytes_of (row_numbers start (length row)))) where
  begun-stored : begun ≡ sets out at (bytes_of (row_numbers start (length row)))
  begun-stored = e ∙ laid out at (bytes_of (row_numbers start (length row))) (omega (arith, length-bytes_of (row_numbers start (length row))))

  pub row_laid : sets begun (at + 6) (quad_bytes_of row) ≡ sets out at (framed row_kind (bytes16 start ++ quad_bytes_of row))
  row_laid =
      stored-then out begun at (at + 6) (bytes_of (row_numbers start (length row))) (quad_bytes_of row) begun-stored (omega (arith, length-bytes_of (row_numbers start (length row))))
      ∙ ap (sets out at) (row-numbers start row)

-- ---- the end

abbrev end_numbers : ℕ → List ℕ
end_numbers rows = 2 ∷ end_kind ∷ rows ∷ []

end-numbers : (rows : ℕ) → bytes_of (end_numbers rows) ≡ end_record rows
unfolding bytes_of end_record framed bytes16
end-numbers rows = refl

pub end-laid : (rows at : ℕ) (out : List ℕ) → at + 6 ≤ length out → laid_at out at (bytes_of (end_numbers rows)) ≡ sets out at (end_record rows)
end-laid rows at out room = ap (laid_at out at) (end-numbers rows) ∙ laid out at (end_record rows) (omega (arith, length-end rows))
