-- Document 01's plate as a table file, byte by byte, by computation: the 164 bytes both ways, and what is refused where a byte of them is another.
-- Assumes nothing.
use mathlib.Core.Path.{◌≡◌, refl}
use mathlib.Core.List.{List, [], ◌∷◌, ◌++◌}
use Prim.Native.Nat.{ℕ}
use lib.ListN.{take}
use Rattle.lists.specs.Search.{some_below}
use Rattle.paper.specs.Layer.{allowed, greatest_to, tmax}
use Rattle.paper.specs.Table.{rows, limit}
use Rattle.plate.specs.Refusal.{done, refused}
use Rattle.plate.specs.Settings.{settings_checks}
use Rattle.plate.specs.Head.{Held, held_in, is_over, limit_of}
use Rattle.record.specs.Bytes.{le16, le32, quads}
use Rattle.record.specs.Faults.{frame_checks}
use Rattle.record.specs.Written.{bytes16, bytes32, quad_bytes_of, framed}
use Rattle.sent.specs.Kinds.{row_length, allowed_after, fits}
use Rattle.sent.specs.Start.{row_start, twos16}
use Rattle.sent.specs.Written.{head_record, row_record, end_record, row_records, table_bytes, file_of}
use Rattle.sent.specs.File.{head_in, opening_checks, row_place, over, row_checks, end_checks, record_checks, rows_checks, file_checks, cells_from, cells_in, table_file}

-- N = 4 and T = 6, thicknesses 2 and 3, of two columns: 8 rows of 3 cells
abbrev plate : List ℕ → Held
plate cells = held_in (record { height = 4; members = 6; columns = 2 }) cells

abbrev plate_cells : List ℕ
plate_cells = 0 ∷ 0 ∷ 1 ∷ 0 ∷ 1 ∷ 2 ∷ 0 ∷ 1 ∷ 1 ∷ 0 ∷ 0 ∷ 1 ∷ 0 ∷ 1 ∷ 2 ∷ 0 ∷ 1 ∷ 1 ∷ 0 ∷ 0 ∷ 0 ∷ 0 ∷ 0 ∷ 0 ∷ []

-- `0A00 1000 0400 06000000 02000000`
abbrev opening : List ℕ
opening = 10 ∷ 0 ∷ 16 ∷ 0 ∷ 4 ∷ 0 ∷ 6 ∷ 0 ∷ 0 ∷ 0 ∷ 2 ∷ 0 ∷ 0 ∷ 0 ∷ []

-- a row by the two bytes of its start, and the lowest byte of each cell
abbrev row : ℕ → ℕ → ℕ → ℕ → ℕ → List ℕ
row low high x y z = 14 ∷ 0 ∷ 17 ∷ 0 ∷ low ∷ high ∷ x ∷ 0 ∷ 0 ∷ 0 ∷ y ∷ 0 ∷ 0 ∷ 0 ∷ z ∷ 0 ∷ 0 ∷ 0 ∷ []

abbrev later_rows : List ℕ
later_rows = row 255 255 0 1 2 ++ (row 0 0 0 1 1 ++ (row 1 0 0 0 1 ++ (row 2 0 0 1 2 ++ (row 3 0 0 1 1 ++ (row 4 0 0 0 0 ++ row 5 0 0 0 0)))))

-- `0200 1200 0800`
abbrev closing : List ℕ
closing = 2 ∷ 0 ∷ 18 ∷ 0 ∷ 8 ∷ 0 ∷ []

abbrev plate_file : List ℕ
plate_file = opening ++ (row 254 255 0 0 1 ++ (later_rows ++ closing))

pub plate-written : file_of (plate plate_cells) ≡ plate_file
unfolding table_bytes head_record row_records row_record end_record framed quad_bytes_of bytes32 bytes16 twos16 row_start rows tmax greatest_to allowed
plate-written = refl

pub plate-read : table_file plate_file ≡ done (plate plate_cells)
unfolding table_file file_checks opening_checks head_in rows_checks record_checks row_checks end_checks frame_checks row_place row_length allowed_after fits over some_below cells_in cells_from settings_checks is_over limit_of limit twos16 row_start rows tmax greatest_to allowed quads le32 le16
plate-read = refl

-- the cell at byte 28 set to 2: good
pub two_good : table_file (opening ++ (row 254 255 0 0 2 ++ (later_rows ++ closing)))
    ≡ done (plate (0 ∷ 0 ∷ 2 ∷ 0 ∷ 1 ∷ 2 ∷ 0 ∷ 1 ∷ 1 ∷ 0 ∷ 0 ∷ 1 ∷ 0 ∷ 1 ∷ 2 ∷ 0 ∷ 1 ∷ 1 ∷ 0 ∷ 0 ∷ 0 ∷ 0 ∷ 0 ∷ 0 ∷ []))
unfolding table_file file_checks opening_checks head_in rows_checks record_checks row_checks end_checks frame_checks row_place row_length allowed_after fits over some_below cells_in cells_from settings_checks is_over limit_of limit twos16 row_start rows tmax greatest_to allowed quads le32 le16
two_good = refl

-- that cell set to 3, and the cell at byte 20, of thickness 1, set to 1: 6 at the row
pub cells_over : (table_file (opening ++ (row 254 255 0 0 3 ++ (later_rows ++ closing))) ≡ refused 6 14)
    × (table_file (opening ++ (row 254 255 1 0 1 ++ (later_rows ++ closing))) ≡ refused 6 14)
unfolding table_file file_checks opening_checks head_in rows_checks record_checks row_checks end_checks frame_checks row_place row_length allowed_after fits over some_below cells_in cells_from settings_checks is_over limit_of limit twos16 row_start rows tmax greatest_to allowed quads le32 le16
cells_over = (refl, refl)

-- the first start one lower; kind 18, and a remark, straight after kind 16
pub first-row : (table_file (opening ++ (row 253 255 0 0 1 ++ (later_rows ++ closing))) ≡ refused 21 14)
    × (table_file (opening ++ closing) ≡ refused 19 14)
    × (table_file (opening ++ (0 ∷ 0 ∷ 0 ∷ 128 ∷ (row 254 255 0 0 1 ++ (later_rows ++ closing)))) ≡ refused 19 14)
unfolding table_file file_checks opening_checks head_in rows_checks record_checks row_checks end_checks frame_checks row_place row_length allowed_after fits over some_below cells_in cells_from settings_checks is_over limit_of limit twos16 row_start rows tmax greatest_to allowed quads le32 le16
first-row = (refl, refl, refl)

-- cut to 163, 160 and 158 bytes; the number of rows 7; a row too many, and too few; and a byte after the end
pub at-the-end : (table_file (take 163 plate_file) ≡ refused 16 158)
    × (table_file (take 160 plate_file) ≡ refused 16 158)
    × (table_file (take 158 plate_file) ≡ refused 16 158)
    × (table_file (opening ++ (row 254 255 0 0 1 ++ (later_rows ++ (2 ∷ 0 ∷ 18 ∷ 0 ∷ 7 ∷ 0 ∷ [])))) ≡ refused 21 158)
    × (table_file (opening ++ (row 254 255 0 0 1 ++ (later_rows ++ (row 6 0 0 0 0 ++ closing)))) ≡ refused 21 158)
    × (table_file (opening ++ (row 254 255 0 0 1 ++ closing)) ≡ refused 21 32)
    × (table_file (plate_file ++ (0 ∷ [])) ≡ refused 21 164)
unfolding table_file file_checks opening_checks head_in rows_checks record_checks row_checks end_checks frame_checks row_place row_length allowed_after fits over some_below cells_in cells_from settings_checks is_over limit_of limit twos16 row_start rows tmax greatest_to allowed quads le32 le16
at-the-end = (refl, refl, refl, refl, refl, refl, refl)

-- the head: nothing at all, N = 0, T empty, 1,000,001 columns; and with 1,000,000 of them the fault is that no row comes after it
pub heads : (table_file [] ≡ refused 16 0)
    × (table_file (10 ∷ 0 ∷ 16 ∷ 0 ∷ 0 ∷ 0 ∷ 6 ∷ 0 ∷ 0 ∷ 0 ∷ 2 ∷ 0 ∷ 0 ∷ 0 ∷ []) ≡ refused 1 0)
    × (table_file (10 ∷ 0 ∷ 16 ∷ 0 ∷ 4 ∷ 0 ∷ 0 ∷ 0 ∷ 0 ∷ 0 ∷ 2 ∷ 0 ∷ 0 ∷ 0 ∷ []) ≡ refused 2 0)
    × (table_file (10 ∷ 0 ∷ 16 ∷ 0 ∷ 4 ∷ 0 ∷ 6 ∷ 0 ∷ 0 ∷ 0 ∷ 65 ∷ 66 ∷ 15 ∷ 0 ∷ []) ≡ refused 7 0)
    × (table_file (10 ∷ 0 ∷ 16 ∷ 0 ∷ 4 ∷ 0 ∷ 6 ∷ 0 ∷ 0 ∷ 0 ∷ 64 ∷ 66 ∷ 15 ∷ 0 ∷ []) ≡ refused 16 14)
unfolding table_file file_checks opening_checks head_in rows_checks record_checks row_checks end_checks frame_checks row_place row_length allowed_after fits over some_below cells_in cells_from settings_checks is_over limit_of limit twos16 row_start rows tmax greatest_to allowed quads le32 le16
heads = (refl, refl, refl, refl, refl)
