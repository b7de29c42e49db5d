-- What is written of a job, laid out: it is bytes, so many of them, and column by column; by induction on the columns, from what is known of each
-- record. Assumes nothing.
use mathlib.Core.Path.{◌≡◌, refl, sym}
use mathlib.Core.List.{List, [], ◌∷◌, ◌++◌, append_assoc}
use Prim.Native.Nat.{ℕ, ◌+◌, ◌*◌}
use native.Mathlib.Omega.{arith}
use lib.ListN.{length, length-append}
use Rattle.paper.specs.Layer.{Column}
use Rattle.record.specs.Bytes.{Bytes}
use Rattle.record.specs.Written.{bytes16, bytes32, bytes_of}
use Rattle.record.proofs.Spelled.{length-bytes_of, length-framed, bytes-none, bytes-append, bytes-32, bytes-of, bytes-framed, bytes-opening}
use Rattle.job.specs.Kinds.{settings_kind, column_kind, end_kind}
use Rattle.job.specs.File.{Job}
use Rattle.job.specs.Written.{settings_record, column_record, end_record, column_records, written}
use Rattle.job.specs.declared.Asked.{Asked}
use Rattle.save.specs.Runs.{boundary_count}

-- columns after others
pub columns-append : (xs ys : List Column) → column_records (xs ++ ys) ≡ column_records xs ++ column_records ys
unfolding column_records
columns-append [] ys = refl
columns-append (x ∷ xs) ys = rw (columns-append xs ys) (sym (append_assoc (column_record x) (column_records xs) (column_records ys)))

-- ---- how many bytes

pub length-settings : (a : Asked) → length (settings_record a) ≡ 14
unfolding settings_record bytes32 bytes16
length-settings a = length-framed settings_kind (bytes16 a.height ++ (bytes32 a.members ++ bytes32 a.bound))

pub length-column : (column : Column) → length (column_record column) ≡ 4 + 2 * length column.boundaries
unfolding column_record
length-column column = omega (arith, length-framed column_kind (bytes_of column.boundaries), length-bytes_of column.boundaries)

pub length-end : (columns : ℕ) → length (end_record columns) ≡ 8
unfolding end_record bytes32 bytes16
length-end columns = length-framed end_kind (bytes32 columns)

-- the columns' by the number of all their boundaries together
pub length-columns : (columns : List Column) → length (column_records columns) ≡ 4 * length columns + 2 * boundary_count columns
unfolding column_records boundary_count
length-columns [] = refl
length-columns (column ∷ columns) = omega (arith, length-append (column_record column) (column_records columns), length-column column, length-columns columns)

pub length-written : (job : Job) → length (written job) ≡ 22 + 4 * length job.columns + 2 * boundary_count job.columns
unfolding written
length-written job =
    let columns = column_records job.columns in
    let end = end_record (length job.columns) in
    omega (arith, length-append (settings_record job.asked) (columns ++ end), length-append columns end, length-settings job.asked, length-columns job.columns, length-end (length job.columns))

-- ---- they are bytes

bytes-settings : (a : Asked) → Bytes (settings_record a)
unfolding settings_record
bytes-settings a = bytes-opening settings_kind a.height a.members a.bound

bytes-columns : (columns : List Column) → Bytes (column_records columns)
unfolding column_records column_record
bytes-columns [] = bytes-none
bytes-columns (column ∷ columns) =
    bytes-append (column_record column) (column_records columns) (bytes-framed column_kind (bytes_of column.boundaries) (bytes-of column.boundaries)) (bytes-columns columns)

bytes-end : (columns : ℕ) → Bytes (end_record columns)
unfolding end_record
bytes-end columns = bytes-framed end_kind (bytes32 columns) (bytes-32 columns)

pub bytes-written : (job : Job) → Bytes (written job)
unfolding written
bytes-written job =
    bytes-append (settings_record job.asked) (column_records job.columns ++ end_record (length job.columns)) (bytes-settings job.asked)
    (bytes-append (column_records job.columns) (end_record (length job.columns)) (bytes-columns job.columns) (bytes-end (length job.columns)))
