-- Each record as it is stored: the numbers of two bytes that are written for it, and the two of a layer behind those of the layers before it. Where
-- the output has room they are the file's bytes. Assumes nothing.
use mathlib.Core.Path.{◌≡◌, sym, ap, ap₂, ◌∙◌}
use mathlib.Core.List.{List, [], ◌∷◌, ◌++◌, append-nil}
use Prim.Native.Nat.{ℕ, zero, suc, ◌+◌, ◌*◌, ◌/◌, ◌%◌, ◌≤◌}
use native.Mathlib.Omega.{arith}
use lib.IntN.{ℤ, nat_abs, ◌-ℤ◌}
use lib.ListN.{length, drop, length-append}
use lib.Seq.{sets, sets-eq}
use Rattle.paper.specs.Sequence.{◌!◌, count, thickness}
use Rattle.record.specs.Written as words
use Rattle.record.specs.Written.{bytes16, bytes32, framed, laid_at}
use Rattle.record.proofs.Spelled.{length-bytes_of, length-framed}
use Rattle.record.proofs.Stores.{stored-then, laid, numbers-append, halves}
use Rattle.printed.specs.Possible.{cure_of}
use Rattle.printed.specs.Records.{Record, lift, cure, finish}
use Rattle.printed.specs.Paper.{layers_to}
use Rattle.printed.specs.Bytes.{bytes_of}
use Rattle.printed.proofs.Bytes.{bytes-append}
use Rattle.orders.specs.Layer.{height_bits, cure_bits}
use Rattle.orders.specs.Kinds.{lift_kind, cure_kind, finish_kind}
use Rattle.orders.specs.Written.{record_bytes, order_bytes, file_size}

-- ---- a record of four bytes, in numbers of two

four_bytes : (kind n : ℕ) → words.bytes_of (4 ∷ kind ∷ n % 65536 ∷ n / 65536 ∷ []) ≡ framed kind (bytes32 n)
unfolding words.bytes_of framed bytes32 bytes16
four_bytes kind n = ap (λ (l : List ℕ). bytes16 4 ++ (bytes16 kind ++ l)) (halves n)

-- ---- the two of a layer

abbrev pub layer_numbers : ℕ → ℕ → List ℕ
layer_numbers height time =
    4 ∷ lift_kind ∷ height % 65536 ∷ height / 65536 ∷ 4 ∷ cure_kind ∷ time % 65536 ∷ time / 65536 ∷ []

abbrev pub layer_bytes : ℕ → ℕ → List ℕ
layer_bytes height time = framed lift_kind (bytes32 height) ++ framed cure_kind (bytes32 time)

layer-numbers : (height time : ℕ) → words.bytes_of (layer_numbers height time) ≡ layer_bytes height time
layer-numbers height time =
    numbers-append (4 ∷ lift_kind ∷ height % 65536 ∷ height / 65536 ∷ []) (4 ∷ cure_kind ∷ time % 65536 ∷ time / 65536 ∷ [])
    ∙ ap₂ ◌++◌ (four_bytes lift_kind height) (four_bytes cure_kind time)

length-layer : (height time : ℕ) → length (layer_bytes height time) ≡ 16
length-layer height time = ap length (sym (layer-numbers height time)) ∙ length-bytes_of (layer_numbers height time)

pub layer-laid : (height time at : ℕ) (out : List ℕ) → at + 16 ≤ length out → laid_at out at (words.bytes_of (layer_numbers height time)) ≡ sets out at (layer_bytes height time)
layer-laid height time at out room = ap (laid_at out at) (layer-numbers height time) ∙ laid out at (layer_bytes height time) (omega (arith, length-layer height time))

-- ---- the finish

pub finish-laid : (layers at : ℕ) (out : List ℕ) → at + 6 ≤ length out
    → laid_at out at (words.bytes_of (2 ∷ finish_kind ∷ layers ∷ [])) ≡ sets out at (framed finish_kind (bytes16 layers))
unfolding words.bytes_of framed bytes16
finish-laid layers at out room = laid out at (framed finish_kind (bytes16 layers)) (omega (arith, length-framed finish_kind (bytes16 layers)))

-- ---- the layers of a sequence, one after the other

module _ (step : ℕ) (cures : List ℕ) (zs : List ℤ) where
  abbrev code : Record → List ℕ
  code = record_bytes step

  abbrev layers : ℕ → List ℕ
  layers k = bytes_of code (layers_to cures zs k)

  -- the next of them
  abbrev next : ℕ → List ℕ
  next k = layer_bytes (height_bits step (nat_abs (zs ! suc k -ℤ zs ! 0))) (cure_bits (cure_of cures (thickness zs k)))

  layers-more : (k : ℕ) → layers (suc k) ≡ layers k ++ next k
  unfolding record_bytes
  layers-more k =
      let x = nat_abs (zs ! suc k -ℤ zs ! 0) in
      let c = cure_of cures (thickness zs k) in
      bytes-append code (layers_to cures zs k) (lift x ∷ cure c ∷ [])
      ∙ ap (λ (l : List ℕ). layers k ++ (framed lift_kind (bytes32 (height_bits step x)) ++ l)) (append-nil (framed cure_kind (bytes32 (cure_bits c))))

  pub length-layers : (k : ℕ) → length (layers k) ≡ 16 * k
  length-layers zero = omega arith
  length-layers (suc k) =
      omega
      (arith, ap length (layers-more k), length-append (layers k) (next k), length-layers k, length-layer (height_bits step (nat_abs (zs ! suc k -ℤ zs ! 0))) (cure_bits (cure_of cures (thickness zs k))))

  pub layer-stored : (out stored : List ℕ) (k at : ℕ) → stored ≡ sets out 0 (layers k) → at ≡ 16 * k → sets stored at (next k) ≡ sets out 0 (layers (suc k))
  layer-stored out stored k at e p =
      stored-then out stored 0 at (layers k) (next k) e (omega (arith, length-layers k)) ∙ ap (sets out 0) (sym (layers-more k))

  -- ---- and the finish behind them

  file-is : order_bytes step cures zs ≡ layers (count zs) ++ framed finish_kind (bytes16 (count zs))
  unfolding order_bytes record_bytes
  file-is =
      bytes-append code (layers_to cures zs (count zs)) (finish (count zs) ∷ [])
      ∙ ap (λ (l : List ℕ). layers (count zs) ++ l) (append-nil (framed finish_kind (bytes16 (count zs))))

  pub length-file : length (order_bytes step cures zs) ≡ file_size (count zs)
  unfolding file_size bytes16
  length-file =
      omega
      (arith, ap length file-is, length-append (layers (count zs)) (framed finish_kind (bytes16 (count zs))), length-layers (count zs), length-framed finish_kind (bytes16 (count zs)))

  pub file-stored : (out stored : List ℕ) (at : ℕ) → stored ≡ sets out 0 (layers (count zs)) → at ≡ 16 * count zs → file_size (count zs) ≤ length out
      → sets stored at (framed finish_kind (bytes16 (count zs))) ≡ order_bytes step cures zs ++ drop (file_size (count zs)) out
  file-stored out stored at e p room =
      let size : 0 + length (order_bytes step cures zs) ≡ file_size (count zs) = omega (arith, length-file) in
      stored-then out stored 0 at (layers (count zs)) (framed finish_kind (bytes16 (count zs))) e (omega (arith, length-layers (count zs)))
      ∙ ap (sets out 0) (sym file-is)
      ∙ sets-eq (order_bytes step cures zs) out 0 (omega (arith, length-file))
      ∙ ap (λ (n : ℕ). order_bytes step cures zs ++ drop n out) size
