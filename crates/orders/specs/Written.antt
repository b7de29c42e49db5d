-- Document 02 e), the order file as it is written: one definition for the bytes of each kind of record, and the file of a sequence. What is read
-- from it again stands in File, by the same kinds. Assumes nothing.
use Rattle.std.specs.Prelude.{ℕ, ◌+◌, ◌*◌, List, ℤ}
use Rattle.record.specs.Written.{bytes16, bytes32, framed}
use Rattle.printed.specs.Records.{Record, lift, cure, finish}
use Rattle.printed.specs.Paper.{file_of}
use Rattle.printed.specs.Bytes.{bytes_of}
use Rattle.orders.specs.Layer.{height_bits, cure_bits}
use Rattle.orders.specs.Kinds.{lift_kind, cure_kind, finish_kind}

-- the bytes of an order
unfoldable pub record_bytes : ℕ → Record → List ℕ
record_bytes step (lift x) = framed lift_kind (bytes32 (height_bits step x))
record_bytes step (cure c) = framed cure_kind (bytes32 (cure_bits c))
record_bytes step (finish n) = framed finish_kind (bytes16 n)

-- THE FILE of a sequence: lift and cure for each layer from the lowest up, the finish with their number, and then nothing
unfoldable pub order_bytes : ℕ → List ℕ → List ℤ → List ℕ
order_bytes step cures zs = bytes_of (record_bytes step) (file_of cures zs)

-- its length
unfoldable pub file_size : ℕ → ℕ
file_size layers = 16 * layers + 6
