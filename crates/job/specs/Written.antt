-- Document 01, 'Job file', as it is written: one definition for the bytes of each kind of record, and the file of a job. What is read from it
-- again stands in Record and File, by the same kinds. Assumes nothing.
use Rattle.std.specs.Prelude.{ℕ, List, [], ◌∷◌, ◌++◌, length}
use Rattle.paper.specs.Layer.{Column}
use Rattle.record.specs.Written.{bytes16, bytes32, bytes_of, framed}
use Rattle.job.specs.Kinds.{settings_kind, column_kind, end_kind}
use Rattle.job.specs.File.{Job}
use Rattle.job.specs.declared.Asked.{Asked}

-- 'Kind 1, settings, 10 bytes: N (2), T (4), bound (4)'
unfoldable pub settings_record : Asked → List ℕ
settings_record a = framed settings_kind (bytes16 a.height ++ (bytes32 a.members ++ bytes32 a.bound))

-- 'Kind 2, column: its boundaries, two bytes each'
unfoldable pub column_record : Column → List ℕ
column_record column = framed column_kind (bytes_of column.boundaries)

-- 'Kind 3, end, 4 bytes: the number of columns'
unfoldable pub end_record : ℕ → List ℕ
end_record columns = framed end_kind (bytes32 columns)

unfoldable pub column_records : List Column → List ℕ
column_records [] = []
column_records (column ∷ columns) = column_record column ++ column_records columns

-- THE FILE of a job: its settings, its columns in their order, and the end with their number; no remarks
unfoldable pub written : Job → List ℕ
written job = settings_record job.asked ++ (column_records job.columns ++ end_record (length job.columns))
