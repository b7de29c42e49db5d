-- Written, and then read. The file has 16 bytes for each layer and 6 for the finish, and stands at the front of what the writer leaves. It is bytes,
-- and the file of the sequence, so that reading it gives the orders of the sequence's records, one after the other, and past the last the finish.
-- Assumes nothing.
use mathlib.Core.Path.{◌≡◌, refl, sym, ap, ◌∙◌}
use mathlib.Core.List.{List, [], ◌∷◌, ◌++◌}
use Prim.Native.Nat.{ℕ, zero, suc, ◌+◌, ◌*◌, ◌≤◌, ◌<◌}
use native.Mathlib.Omega.{arith}
use lib.IntN.{ℤ, nat_abs, ◌-ℤ◌}
use lib.ListN.{length, get_or, take, drop}
use lib.Seq.{take_at, drop_at}
use Rattle.paper.specs.Sequence.{◌!◌, count, thickness}
use Rattle.plate.specs.Call.{answer_of, left_by}
use Rattle.plate.specs.Refusal.{done}
use Rattle.plate.proofs.Calls.{finished}
use Rattle.record.specs.Bytes.{Bytes}
use Rattle.record.specs.Written.{bytes16, bytes32}
use Rattle.record.proofs.Spelled.{bytes-none, bytes-append, bytes-16, bytes-32, bytes-framed}
use Rattle.printed.specs.Possible.{cure_of}
use Rattle.printed.specs.Records.{Record, lift, cure, finish}
use Rattle.printed.specs.Paper.{Orderable, file_of}
use Rattle.printed.specs.Bytes.{bytes_of}
use Rattle.printed.proofs.Orders.{file-length, lift-at, cure-at, finish-at}
use Rattle.orders.specs.Layer.{height_bits, cure_bits}
use Rattle.orders.specs.Kinds.{lift_kind, cure_kind, finish_kind}
use Rattle.orders.specs.Written.{record_bytes, order_bytes, file_size}
use Rattle.orders.specs.Order.{order_of, record_at}
use Rattle.orders.specs.Reading.{reading_order}
use Rattle.orders.specs.Writing.{filing, writing_orders}
use Rattle.orders.proofs.Records.{length-file}
use Rattle.promises.specs.Printing.{Lent, WrittenThenRead}
use Rattle.promises.proofs.PrintedRead.{reads-exactly}
use Rattle.promises.proofs.PrintedWritten.{writes-exactly}

-- ---- the order at a number

-- before the last, and from the last on
record-at : (d : Record) (rs : List Record) (i : ℕ) → i < length rs → record_at rs i ≡ get_or rs i d
unfolding record_at
record-at d [] i l = absurd (omega arith)
record-at d (r ∷ []) zero l = refl
record-at d (r ∷ []) (suc i) l = absurd (omega arith)
record-at d (r ∷ (q ∷ rs)) zero l = refl
record-at d (r ∷ (q ∷ rs)) (suc i) l = record-at d (q ∷ rs) i (omega arith)

record-past : (d : Record) (rs : List Record) (n i : ℕ) → length rs ≡ suc n → n ≤ i → record_at rs i ≡ get_or rs n d
unfolding record_at
record-past d [] n i e l = absurd (omega arith)
record-past d (r ∷ []) zero i e l = refl
record-past d (r ∷ []) (suc n) i e l = absurd (omega arith)
record-past d (r ∷ (q ∷ rs)) zero i e l = absurd (omega arith)
record-past d (r ∷ (q ∷ rs)) (suc n) zero e l = absurd (omega arith)
record-past d (r ∷ (q ∷ rs)) (suc n) (suc i) e l = record-past d (q ∷ rs) n i (omega arith) (omega arith)

module _ (step : ℕ) where
  abbrev code : Record → List ℕ
  code = record_bytes step

  -- ---- the file is bytes

  bytes-record : (r : Record) → Bytes (code r)
  unfolding record_bytes
  bytes-record (lift x) = bytes-framed lift_kind (bytes32 (height_bits step x)) (bytes-32 (height_bits step x))
  bytes-record (cure c) = bytes-framed cure_kind (bytes32 (cure_bits c)) (bytes-32 (cure_bits c))
  bytes-record (finish n) = bytes-framed finish_kind (bytes16 n) (bytes-16 n)

  bytes-records : (rs : List Record) → Bytes (bytes_of code rs)
  bytes-records [] = bytes-none
  bytes-records (r ∷ rs) = bytes-append (code r) (bytes_of code rs) (bytes-record r) (bytes-records rs)

  module _ (cures : List ℕ) (zs : List ℤ) where
    pub bytes-orders : Bytes (order_bytes step cures zs)
    unfolding order_bytes
    bytes-orders = bytes-records (file_of cures zs)

    pub length-orders : length (order_bytes step cures zs) ≡ 16 * count zs + 6
    unfolding file_size
    length-orders = length-file step cures zs

-- ---- the trip

module _ {N T step : ℕ} {cures : List ℕ} (l : Lent N T step cures) {zs : List ℤ} (o : Orderable N T cures zs) where
  abbrev file : List ℕ
  file = order_bytes step cures zs

  read_at : (number : ℕ) (r : Record) → record_at (file_of cures zs) number ≡ r → answer_of (reading_order N T step cures file number) ≡ done (order_of step r)
  read_at number r e =
      ((reads-exactly l file (bytes-orders step cures zs) number).accepts (order_of step r)).1 (zs, o, refl, ap (order_of step) (sym e))

  left : (out : List ℕ) → 16 * count zs + 6 ≤ length out → left_by (writing_orders N T step cures zs out) ≡ file ++ drop (16 * count zs + 6) out
  unfolding writing_orders filing file_size
  left out room =
      let e = ((writes-exactly l zs out).writes (file_size (count zs))).1 (o, refl, room) in
      (finished (writing_orders N T step cures zs out) (file_size (count zs)) e).2

  pub written-then-read : (out : List ℕ) → 16 * count zs + 6 ≤ length out → WrittenThenRead N T step cures zs out
  written-then-read out room =
      let rs = file_of cures zs in
      let n = file-length cures zs in
      let d = finish 0 in record {
        length-is = length-orders step cures zs;
        file = ap (take (16 * count zs + 6)) (left out room) ∙ take_at file (drop (16 * count zs + 6) out) (16 * count zs + 6) (length-orders step cures zs);
        kept = ap (drop (16 * count zs + 6)) (left out room) ∙ drop_at file (drop (16 * count zs + 6) out) (16 * count zs + 6) (length-orders step cures zs);
        lifts = λ k u. read_at (2 * k) (lift (nat_abs (zs ! suc k -ℤ zs ! 0))) (record-at d rs (2 * k) (omega arith) ∙ lift-at cures zs d k u);
        cures-for = λ k u. read_at (2 * k + 1) (cure (cure_of cures (thickness zs k))) (record-at d rs (2 * k + 1) (omega arith) ∙ cure-at cures zs d k u);
        finishes = λ number u. read_at number (finish (count zs)) (record-past d rs (2 * count zs) number (omega arith) u ∙ finish-at cures zs d);
      }
