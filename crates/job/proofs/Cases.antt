-- Files of document 01's plate, byte by byte, by computation: what is written, that a remark is counted, so that a file which has one is not what is
-- written of its job, and document 02 f)'s worked faults. Assumes nothing.
use mathlib.Core.Path.{◌≡◌, refl}
use mathlib.Core.List.{List, [], ◌∷◌, ◌++◌}
use Prim.Native.Nat.{ℕ}
use lib.ListN.{set, take}
use Rattle.lists.specs.Search.{lowest}
use Rattle.paper.specs.Limits.{largest_bound}
use Rattle.paper.specs.Layer.{Column, column_of}
use Rattle.plate.specs.Refusal.{Told, done, refused}
use Rattle.plate.specs.Settings.{settings_checks}
use Rattle.plate.specs.Head.{is_full}
use Rattle.column.specs.Order.{misplaced, first_misplaced, column_checks}
use Rattle.record.specs.Bytes.{le16, le32, words}
use Rattle.record.specs.Faults.{frame_checks}
use Rattle.record.specs.Written.{bytes16, bytes32, bytes_of, framed}
use Rattle.job.specs.Record.{boundaries_at, body_checks, kind_checks, record_checks, read_record}
use Rattle.job.specs.Fold.{fold_from, fold_of}
use Rattle.job.specs.File.{Job, job_from, whole_file}
use Rattle.job.specs.Written.{settings_record, column_record, end_record, column_records, written}
use Rattle.job.specs.Remarks.{remarks_in}

-- N = 4 and T = 6, thicknesses 2 and 3
abbrev job_with : ℕ → List Column → Job
job_with bound columns = record { asked = record { height = 4; members = 6; bound = bound }; columns = columns }

-- `0A00 0100 0400 06000000 FFFFFFFF 0400 0200 0100 0400 0400 0200 0000 0300 0400 0300 02000000`
abbrev worked : List ℕ
worked = 10 ∷ 0 ∷ 1 ∷ 0 ∷ 4 ∷ 0 ∷ 6 ∷ 0 ∷ 0 ∷ 0 ∷ 255 ∷ 255 ∷ 255 ∷ 255 ∷ 4 ∷ 0 ∷ 2 ∷ 0 ∷ 1 ∷ 0 ∷ 4 ∷ 0 ∷ 4 ∷ 0 ∷ 2 ∷ 0 ∷ 0 ∷ 0 ∷ 3 ∷ 0 ∷ 4 ∷ 0 ∷ 3 ∷ 0 ∷ 2 ∷ 0 ∷ 0 ∷ 0 ∷ []

pub two-columns : written (job_with largest_bound (column_of (1 ∷ 4 ∷ []) ∷ column_of (0 ∷ 3 ∷ []) ∷ [])) ≡ worked
unfolding written settings_record column_records column_record end_record framed bytes_of bytes32 bytes16
two-columns = refl

-- `0A00 0100 0400 06000000 FFFFFFFF 0400 0300 00000000`
pub no-column : written (job_with largest_bound []) ≡ 10 ∷ 0 ∷ 1 ∷ 0 ∷ 4 ∷ 0 ∷ 6 ∷ 0 ∷ 0 ∷ 0 ∷ 255 ∷ 255 ∷ 255 ∷ 255 ∷ 4 ∷ 0 ∷ 3 ∷ 0 ∷ 0 ∷ 0 ∷ 0 ∷ 0 ∷ []
unfolding written settings_record column_records column_record end_record framed bytes_of bytes32 bytes16
no-column = refl

-- a column with no boundary, and the least bound
abbrev with-empty : Job
with-empty = job_with 0 (column_of [] ∷ column_of (1 ∷ 4 ∷ []) ∷ [])

-- `0A00 0100 0400 06000000 00000000 0000 0200 0400 0200 0100 0400 0400 0300 02000000`
pub an-empty-column : written with-empty
    ≡ 10 ∷ 0 ∷ 1 ∷ 0 ∷ 4 ∷ 0 ∷ 6 ∷ 0 ∷ 0 ∷ 0 ∷ 0 ∷ 0 ∷ 0 ∷ 0 ∷ 0 ∷ 0 ∷ 2 ∷ 0 ∷ 4 ∷ 0 ∷ 2 ∷ 0 ∷ 1 ∷ 0 ∷ 4 ∷ 0 ∷ 4 ∷ 0 ∷ 3 ∷ 0 ∷ 2 ∷ 0 ∷ 0 ∷ 0 ∷ []
unfolding written settings_record column_records column_record end_record framed bytes_of bytes32 bytes16
an-empty-column = refl

-- an empty remark, of kind 32768, in front of that: it is counted, and the job is read as before
abbrev remarked : List ℕ
remarked = 0 ∷ 0 ∷ 0 ∷ 128 ∷ written with-empty

pub remark-counted : (remarks_in remarked ≡ 1) × (whole_file (λ at a. []) remarked ≡ done with-empty)
unfolding written settings_record column_records column_record end_record framed bytes_of bytes32 bytes16 remarks_in whole_file job_from fold_of fold_from read_record record_checks kind_checks frame_checks body_checks boundaries_at words le16 le32 settings_checks is_full column_checks first_misplaced misplaced lowest
remark-counted = (refl, refl)

-- ---- document 02 f)'s worked faults, on that file: records at 0, 14, 22 and 30

abbrev told_of : List ℕ → Told Job
told_of file = whole_file (λ at a. []) file

-- cut off
pub runs-out : (told_of (take 37 worked) ≡ refused 16 30)
    × (told_of (take 33 worked) ≡ refused 16 30)
    × (told_of (take 30 worked) ≡ refused 16 30)
    × (told_of (take 3 worked) ≡ refused 16 0)
    × (told_of [] ≡ refused 16 0)
    × (told_of (set worked 14 254) ≡ refused 16 14)
unfolding whole_file job_from fold_of fold_from read_record record_checks kind_checks frame_checks body_checks boundaries_at words le16 le32 settings_checks is_full column_checks first_misplaced misplaced lowest
runs-out = (refl, refl, refl, refl, refl, refl)

-- another kind: 2 first, 6 first, a second 1, and 9
pub wrong-kind : (told_of (set worked 2 2) ≡ refused 19 0)
    × (told_of (set worked 2 6) ≡ refused 19 0)
    × (told_of (set worked 16 1) ≡ refused 19 14)
    × (told_of (set worked 16 9) ≡ refused 19 14)
unfolding whole_file job_from fold_of fold_from read_record record_checks kind_checks frame_checks body_checks boundaries_at words le16 le32 settings_checks is_full column_checks first_misplaced misplaced lowest
wrong-kind = (refl, refl, refl, refl)

-- another length; and it comes before the body: settings of 12 bytes and of 10 where the file ends after 8
pub wrong-length : (told_of (set worked 0 11) ≡ refused 20 0)
    × (told_of (set worked 14 3) ≡ refused 20 14)
    × (told_of (set worked 30 5) ≡ refused 20 30)
    × (told_of (set (take 8 worked) 0 12) ≡ refused 20 0)
    × (told_of (take 8 worked) ≡ refused 16 0)
unfolding whole_file job_from fold_of fold_from read_record record_checks kind_checks frame_checks body_checks boundaries_at words le16 le32 settings_checks is_full column_checks first_misplaced misplaced lowest
wrong-length = (refl, refl, refl, refl, refl)

-- an end of 3 for 2 columns; a byte more, and a remark more
pub disagrees : (told_of (set worked 34 3) ≡ refused 21 30)
    × (told_of (worked ++ (0 ∷ [])) ≡ refused 21 38)
    × (told_of (worked ++ (0 ∷ 0 ∷ 0 ∷ 128 ∷ [])) ≡ refused 21 38)
unfolding whole_file job_from fold_of fold_from read_record record_checks kind_checks frame_checks body_checks boundaries_at words le16 le32 settings_checks is_full column_checks first_misplaced misplaced lowest
disagrees = (refl, refl, refl)
