-- The records of an order list as bytes. They are laid out as the mathematics of order lists asks for, and the bytes of different heights differ,
-- so that the bytes tell the record that comes next. Where the bytes of a record stand, its kind, its length and its number are read; and where
-- these are read, the bytes are the record's. Assumes nothing.
use mathlib.Core.Path.{◌≡◌, refl, sym, ap, subst, ◌∙◌}
use mathlib.Core.List.{List, ◌++◌}
use Prim.Native.Nat.{ℕ, ◌+◌, ◌*◌, ◌-◌, ◌%◌, ◌≤◌, ◌<◌}
use native.Mathlib.Omega.{arith}
use lib.ListN.{length, drop}
use Rattle.paper.specs.Layer.{tmax}
use Rattle.record.specs.Bytes.{Bytes, le16, le32}
use Rattle.record.specs.Frame.{length_at, kind_at, body_at, past_at}
use Rattle.record.specs.Written.{bytes16, bytes32, framed}
use Rattle.record.proofs.Spelled.{read16, read32, read_frame, write16, write32, write_frame}
use Rattle.printed.specs.Records.{Record, lift, cure, finish}
use Rattle.printed.specs.Bytes.{Distinct}
use Rattle.printed.proofs.Laid.{layout, HeightsDiffer, layout-distinct}
use Rattle.orders.specs.Layer.{height_bits, cure_bits}
use Rattle.orders.specs.Kinds.{lift_kind, cure_kind, finish_kind, float_length, finish_length}
use Rattle.orders.specs.Written.{record_bytes}
use Rattle.promises.specs.Printing.{Lent}
use Rattle.promises.proofs.PrintedFloats.{height-bits-small, cure-bits-small, heights-same}

-- ---- the bytes tell the record

module _ {N T step : ℕ} {cures : List ℕ} (l : Lent N T step cures) where
  height-bytes : ℕ → List ℕ
  height-bytes x = bytes32 (height_bits step x)

  differ : HeightsDiffer (N + 2 * tmax T - 2) height-bytes
  unfolding height-bytes
  differ x y u v a b e =
      heights-same l x y u v
      (sym (read32 (bytes32 (height_bits step x) ++ a) 0 (height_bits step x) a (height-bits-small step x) refl)
      ∙ read32 (bytes32 (height_bits step x) ++ a) 0 (height_bits step y) b (height-bits-small step y) e)

  laid_out : (r : Record) → layout height-bytes (λ c. bytes32 (cure_bits c)) bytes16 r ≡ record_bytes step r
  unfolding record_bytes height-bytes framed bytes32 bytes16
  laid_out (lift x) = refl
  laid_out (cure c) = refl
  laid_out (finish n) = refl

  pub distinct : Distinct N T cures (record_bytes step)
  distinct =
      subst (λ (code : Record → List ℕ). Distinct N T cures code) (λ i r. laid_out r i)
      (layout-distinct N T cures l.settings.least-height height-bytes (λ c. bytes32 (cure_bits c)) bytes16 differ)

-- ---- how many bytes a record has

pub lift-long : (step x : ℕ) → length (record_bytes step (lift x)) ≡ 8
unfolding record_bytes framed bytes32 bytes16
lift-long step x = refl

pub cure-long : (step c : ℕ) → length (record_bytes step (cure c)) ≡ 8
unfolding record_bytes framed bytes32 bytes16
cure-long step c = refl

pub finish-long : (step n : ℕ) → length (record_bytes step (finish n)) ≡ 6
unfolding record_bytes framed bytes16
finish-long step n = refl

-- ---- a record at a place

-- its kind and its length, and that it ends in the input
pub record Head (file : List ℕ) (at kind long : ℕ) : Type 0 where
  pub kind-is : kind_at file at ≡ kind
  pub long-is : length_at file at ≡ long
  pub within : body_at at + long ≤ length file

-- and its number
abbrev pub There : ℕ → List ℕ → ℕ → Record → Type 0
There step file at (lift x) = Head file at lift_kind float_length × (le32 file (body_at at) ≡ height_bits step x)
There step file at (cure c) = Head file at cure_kind float_length × (le32 file (body_at at) ≡ cure_bits c)
There step file at (finish n) = Head file at finish_kind finish_length × (le16 file (body_at at) ≡ n % 65_536)

head_of : (file : List ℕ) (at kind : ℕ) (body rest : List ℕ) → kind < 65_536 → length body < 65_536 → framed kind body ++ rest ≡ drop at file
    → Head file at kind (length body) × (drop (body_at at) file ≡ body ++ rest)
head_of file at kind body rest k l e =
    let f = read_frame file at kind body rest k l (sym e) in
    (record { kind-is = f.kind-is; long-is = f.long; within = omega (arith, f.room) }, f.body_is)

pub there : (step : ℕ) (file : List ℕ) (at : ℕ) (r : Record) (rest : List ℕ) → record_bytes step r ++ rest ≡ drop at file → There step file at r
unfolding record_bytes bytes32 bytes16
there step file at (lift x) rest e =
    let h = head_of file at lift_kind (bytes32 (height_bits step x)) rest (omega arith) (omega arith) e in
    (h.0, read32 file (body_at at) (height_bits step x) rest (height-bits-small step x) h.1)
there step file at (cure c) rest e =
    let h = head_of file at cure_kind (bytes32 (cure_bits c)) rest (omega arith) (omega arith) e in
    (h.0, read32 file (body_at at) (cure_bits c) rest (cure-bits-small c) h.1)
there step file at (finish n) rest e =
    let h = head_of file at finish_kind (bytes16 n) rest (omega arith) (omega arith) e in
    (h.0, read16 file (body_at at) n rest h.1)

module _ (file : List ℕ) (byte : Bytes file) where
  framed-there : (at kind : ℕ) (body : List ℕ) → Head file at kind (length body) → drop (body_at at) file ≡ body ++ drop (body_at at + length body) file
      → drop at file ≡ framed kind body ++ drop (body_at at + length body) file
  framed-there at kind body h e =
      let p : past_at file at ≡ body_at at + length body = ap (λ (n : ℕ). body_at at + n) h.long-is in
      rw p at (write_frame file byte at kind body (rw p h.within) h.kind-is (rw p e))

  quad-there : (at kind n : ℕ) → Head file at kind float_length → le32 file (body_at at) ≡ n → drop at file ≡ framed kind (bytes32 n) ++ drop (at + 8) file
  unfolding bytes32 bytes16
  quad-there at kind n h e =
      let p : body_at at + 4 ≡ at + 8 = omega arith in
      rw p at (framed-there at kind (bytes32 n) h (rw e at (write32 file byte (body_at at) h.within)))

  pub lift-there : (step at x : ℕ) → There step file at (lift x) → drop at file ≡ record_bytes step (lift x) ++ drop (at + 8) file
  unfolding record_bytes
  lift-there step at x t = quad-there at lift_kind (height_bits step x) t.0 t.1

  pub cure-there : (step at c : ℕ) → There step file at (cure c) → drop at file ≡ record_bytes step (cure c) ++ drop (at + 8) file
  unfolding record_bytes
  cure-there step at c t = quad-there at cure_kind (cure_bits c) t.0 t.1

  pub finish-there : (step at n : ℕ) → Head file at finish_kind finish_length → le16 file (body_at at) ≡ n
      → drop at file ≡ record_bytes step (finish n) ++ drop (at + 6) file
  unfolding record_bytes bytes16
  finish-there step at n h e =
      let p : body_at at + 2 ≡ at + 6 = omega arith in
      rw p at (framed-there at finish_kind (bytes16 n) h (rw e at (write16 file byte (body_at at) h.within)))
