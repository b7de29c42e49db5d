-- Numbers and records as they are written. Where the bytes of a number stand at a place, that number is read there; and from a place on, bytes
-- are those of the number that is read there, and then the rest. One relation serves both ways: from a place on stands one list, and then
-- another; so nothing is said of what stands before the place. What is written is bytes, and so many. Assumes nothing.
use mathlib.Core.Path.{◌≡◌, refl, sym, ap, ◌∙◌}
use mathlib.Core.List.{List, [], ◌∷◌, ◌++◌, append_assoc}
use Prim.Native.Nat.{ℕ, zero, suc, ◌+◌, ◌*◌, ◌/◌, ◌%◌, ◌<◌, ◌≤◌}
use native.Mathlib.Nat.{add-zero}
use native.Mathlib.Omega.{arith}
use lib.ListN.{length, get_or, drop, length-append, length-drop}
use lib.Seq.{get_or-drop, drop-drop, drop-cons, drop-append_seam}
use Rattle.record.specs.Bytes.{Bytes, le16, le32, numbers, words, quads}
use Rattle.record.specs.Frame.{length_at, kind_at, body_at, past_at}
use Rattle.record.specs.Written.{bytes16, bytes32, spelled, bytes_of, quad_bytes_of, framed}

-- ---- how many bytes, and that they are bytes

pub length-spelled : {A : Type 0} (bytes : A → List ℕ) (width : ℕ) → ((n : A) → length (bytes n) ≡ width) → (ns : List A) → length (spelled bytes ns) ≡ width * length ns
length-spelled bytes width long [] = omega arith
length-spelled bytes width long (n ∷ ns) = omega (arith, length-append (bytes n) (spelled bytes ns), long n, length-spelled bytes width long ns)

pub length-bytes_of : (ns : List ℕ) → length (bytes_of ns) ≡ 2 * length ns
unfolding bytes_of bytes16
length-bytes_of ns = length-spelled bytes16 2 (λ n. refl) ns

pub length-quad_bytes_of : (ns : List ℕ) → length (quad_bytes_of ns) ≡ 4 * length ns
unfolding quad_bytes_of bytes32 bytes16
length-quad_bytes_of ns = length-spelled bytes32 4 (λ n. refl) ns

pub length-framed : (kind : ℕ) (body : List ℕ) → length (framed kind body) ≡ 4 + length body
unfolding framed bytes16
length-framed kind body = omega arith

pub bytes-none : Bytes []
bytes-none i = omega arith

pub bytes-append : (s t : List ℕ) → Bytes s → Bytes t → Bytes (s ++ t)
bytes-append [] t p q i = q i
bytes-append (x ∷ s) t p q zero = p 0
bytes-append (x ∷ s) t p q (suc i) = bytes-append s t (λ k. p (suc k)) q i

pub bytes-16 : (n : ℕ) → Bytes (bytes16 n)
unfolding bytes16
bytes-16 n zero = omega arith
bytes-16 n (suc zero) = omega arith
bytes-16 n (suc (suc i)) = omega arith

pub bytes-32 : (n : ℕ) → Bytes (bytes32 n)
unfolding bytes32
bytes-32 n = bytes-append (bytes16 n) (bytes16 (n / 65536)) (bytes-16 n) (bytes-16 (n / 65536))

bytes-spelled : (bytes : ℕ → List ℕ) → ((n : ℕ) → Bytes (bytes n)) → (ns : List ℕ) → Bytes (spelled bytes ns)
bytes-spelled bytes each [] = bytes-none
bytes-spelled bytes each (n ∷ ns) = bytes-append (bytes n) (spelled bytes ns) (each n) (bytes-spelled bytes each ns)

pub bytes-of : (ns : List ℕ) → Bytes (bytes_of ns)
unfolding bytes_of
bytes-of = bytes-spelled bytes16 bytes-16

pub bytes-of-quads : (ns : List ℕ) → Bytes (quad_bytes_of ns)
unfolding quad_bytes_of
bytes-of-quads = bytes-spelled bytes32 bytes-32

pub bytes-framed : (kind : ℕ) (body : List ℕ) → Bytes body → Bytes (framed kind body)
unfolding framed
bytes-framed kind body b = bytes-append (bytes16 (length body)) (bytes16 kind ++ body) (bytes-16 (length body)) (bytes-append (bytes16 kind) body (bytes-16 kind) b)

-- of a record of one number of two bytes and two of four, as files begin with
pub bytes-opening : (kind a b c : ℕ) → Bytes (framed kind (bytes16 a ++ (bytes32 b ++ bytes32 c)))
bytes-opening kind a b c =
    bytes-framed kind (bytes16 a ++ (bytes32 b ++ bytes32 c)) (bytes-append (bytes16 a) (bytes32 b ++ bytes32 c) (bytes-16 a) (bytes-append (bytes32 b) (bytes32 c) (bytes-32 b) (bytes-32 c)))

-- ---- written, then read

-- n numbers, the first one first
numbers-first : (read : ℕ → ℕ) (width at n : ℕ) → numbers read width at (suc n) ≡ read at ∷ numbers read width (at + width) n
numbers-first read width at zero = let e : at + width * 0 ≡ at = omega arith in rw e refl
numbers-first read width at (suc n) = let e : at + width * suc n ≡ at + width + width * n = omega arith in rw (numbers-first read width at n, e) refl

-- what stands after it
pub behind : (s : List ℕ) (at : ℕ) (x rest : List ℕ) → drop at s ≡ x ++ rest → drop (at + length x) s ≡ rest
behind s at x rest e = sym (drop-drop (length x) at s) ∙ ap (drop (length x)) e ∙ drop-append_seam x rest

pub read16 : (s : List ℕ) (at n : ℕ) (rest : List ℕ) → drop at s ≡ bytes16 n ++ rest → le16 s at ≡ n % 65_536
unfolding le16 bytes16
read16 s at n rest e =
    let a : get_or s (at + 0) 0 ≡ n % 256 = sym (get_or-drop at s 0 0) ∙ ap (λ (l : List ℕ). get_or l 0 0) e in
    let b : get_or s (at + 1) 0 ≡ n / 256 % 256 = sym (get_or-drop at s 1 0) ∙ ap (λ (l : List ℕ). get_or l 1 0) e in
    let c = rw add-zero at a in
    omega arith

pub read32 : (s : List ℕ) (at n : ℕ) (rest : List ℕ) → n < 4_294_967_296 → drop at s ≡ bytes32 n ++ rest → le32 s at ≡ n
unfolding le32 bytes32 bytes16
read32 s at n rest l e =
    let low = read16 s at n (bytes16 (n / 65536) ++ rest) e in
    let high = read16 s (at + 2) (n / 65536) rest (behind s at (bytes16 n) (bytes16 (n / 65536) ++ rest) e) in
    omega arith

-- numbers of one width, where each of them is read as it is spelled
module _ (s : List ℕ) (read : ℕ → ℕ) (width : ℕ) (bytes : ℕ → List ℕ) (long : (n : ℕ) → length (bytes n) ≡ width) where
  read_numbers : (small : ℕ → Type 0) → ((at n : ℕ) (rest : List ℕ) → small n → drop at s ≡ bytes n ++ rest → read at ≡ n)
      → (at : ℕ) (ns rest : List ℕ) → ((k : ℕ) → k < length ns → small (get_or ns k 0)) → drop at s ≡ spelled bytes ns ++ rest → numbers read width at (length ns) ≡ ns
  read_numbers small each at [] rest fit e = refl
  read_numbers small each at (n ∷ ns) rest fit e =
      let f = e ∙ append_assoc (bytes n) (spelled bytes ns) rest in
      let a = each at n (spelled bytes ns ++ rest) (fit 0 (omega arith)) f in
      let b = rw long at (behind s at (bytes n) (spelled bytes ns ++ rest) f) in
      let c = read_numbers small each (at + width) ns rest (λ k l. fit (suc k) (omega arith)) b in
      numbers-first read width at (length ns) ∙ (λ i. a i ∷ c i)

pub read_words : (s : List ℕ) (at : ℕ) (ns rest : List ℕ) → ((k : ℕ) → k < length ns → get_or ns k 0 < 65_536) → drop at s ≡ bytes_of ns ++ rest → words s at (length ns) ≡ ns
unfolding bytes_of bytes16 words
read_words s = read_numbers s (le16 s) 2 bytes16 (λ n. refl) (λ n. n < 65_536) (λ at n rest l e. let w = read16 s at n rest e in omega arith)

pub read_quads : (s : List ℕ) (at : ℕ) (ns rest : List ℕ) → ((k : ℕ) → k < length ns → get_or ns k 0 < 4_294_967_296) → drop at s ≡ quad_bytes_of ns ++ rest
    → quads s at (length ns) ≡ ns
unfolding quad_bytes_of bytes32 bytes16 quads
read_quads s = read_numbers s (le32 s) 4 bytes32 (λ n. refl) (λ n. n < 4_294_967_296) (read32 s)

-- a record that stands at a place: its length, its kind, its body, and that it ends in the input
pub record Stands (s : List ℕ) (at kind : ℕ) (body rest : List ℕ) : Type 0 where
  pub long : length_at s at ≡ length body
  pub kind-is : kind_at s at ≡ kind
  pub body_is : drop (body_at at) s ≡ body ++ rest
  pub room : body_at at + length body + length rest ≡ length s

pub read_frame : (s : List ℕ) (at kind : ℕ) (body rest : List ℕ) → kind < 65_536 → length body < 65_536 → drop at s ≡ framed kind body ++ rest → Stands s at kind body rest
unfolding framed bytes16
read_frame s at kind body rest k l e =
    let head = bytes16 (length body) in
    let after = bytes16 kind ++ body ++ rest in
    let n = read16 s at (length body) after e in
    let m = read16 s (at + 2) kind (body ++ rest) (behind s at head after e) in
    let w = sym (length-drop at s) ∙ ap (λ (x : List ℕ). length x) e in
    record { long = omega arith; kind-is = omega arith; body_is = behind s at (head ++ bytes16 kind) (body ++ rest) e; room = omega (arith, length-append body rest) }

-- ---- read, then written

pub low_byte : (x y : ℕ) → x % 256 ≡ (x + 256 * y) % 256
low_byte x y = omega arith

-- one stands after the other
pub joined : (s x y : List ℕ) (a b c : ℕ) → drop a s ≡ x ++ drop b s → drop b s ≡ y ++ drop c s → drop a s ≡ (x ++ y) ++ drop c s
joined s x y a b c e f = e ∙ ap (λ (l : List ℕ). x ++ l) f ∙ sym (append_assoc x y (drop c s))

module _ (s : List ℕ) (byte : Bytes s) where
  pub write16 : (at : ℕ) → at + 2 ≤ length s → drop at s ≡ bytes16 (le16 s at) ++ drop (at + 2) s
  unfolding le16 bytes16
  write16 at l =
      let x = get_or s at 0 in
      let y = get_or s (at + 1) 0 in
      let a : x ≡ (x + 256 * y) % 256 = omega (arith, byte at) in
      let h : (x + 256 * y) / 256 ≡ y = omega (arith, byte at) in
      let b : y ≡ (x + 256 * y) / 256 % 256 = rw h (omega (arith, byte (at + 1))) in
      let p : suc at ≡ at + 1 = omega arith in
      let q : suc (at + 1) ≡ at + 2 = omega arith in
      drop-cons s at 0 (omega arith) ∙ rw p (rw (drop-cons s (at + 1) 0 (omega arith), q) (λ i. a i ∷ b i ∷ drop (at + 2) s))

  small16 : (at : ℕ) → le16 s at < 65_536
  unfolding le16
  small16 at = omega (arith, byte at, byte (at + 1))

  pub write32 : (at : ℕ) → at + 4 ≤ length s → drop at s ≡ bytes32 (le32 s at) ++ drop (at + 4) s
  unfolding le32 bytes32 bytes16
  write32 at l =
      let x = le16 s at in
      let y = le16 s (at + 2) in
      let a : x % 256 ≡ (x + 65536 * y) % 256 = omega arith in
      let h : (x + 65536 * y) / 256 ≡ x / 256 + 256 * y = omega arith in
      let b : x / 256 % 256 ≡ (x + 65536 * y) / 256 % 256 = rw h (low_byte (x / 256) y) in
      let c : y ≡ (x + 65536 * y) / 65536 = omega (arith, small16 at) in
      let q : at + 2 + 2 ≡ at + 4 = omega arith in
      joined s (bytes16 x) (bytes16 y) at (at + 2) (at + 4) (write16 at (omega arith)) (rw q at (write16 (at + 2) (omega arith)))
      ∙ (λ i. a i ∷ b i ∷ c i % 256 ∷ c i / 256 % 256 ∷ drop (at + 4) s)

  write_numbers : (read : ℕ → ℕ) (width : ℕ) (bytes : ℕ → List ℕ) → ((at : ℕ) → at + width ≤ length s → drop at s ≡ bytes (read at) ++ drop (at + width) s)
      → (n at : ℕ) → at + width * n ≤ length s → drop at s ≡ spelled bytes (numbers read width at n) ++ drop (at + width * n) s
  write_numbers read width bytes each zero at l = let e : at + width * 0 ≡ at = omega arith in rw e refl
  write_numbers read width bytes each (suc n) at l =
      let q : at + width + width * n ≡ at + width * suc n = omega arith in
      rw numbers-first
      (joined s (bytes (read at)) (spelled bytes (numbers read width (at + width) n)) at (at + width) (at + width * suc n) (each at (omega arith))
      (rw q at (write_numbers read width bytes each n (at + width) (omega arith))))

  pub write_words : (n at : ℕ) → at + 2 * n ≤ length s → drop at s ≡ bytes_of (words s at n) ++ drop (at + 2 * n) s
  unfolding bytes_of words
  write_words = write_numbers (le16 s) 2 bytes16 write16

  pub write_quads : (n at : ℕ) → at + 4 * n ≤ length s → drop at s ≡ quad_bytes_of (quads s at n) ++ drop (at + 4 * n) s
  unfolding quad_bytes_of quads
  write_quads = write_numbers (le32 s) 4 bytes32 write32

  -- a record, where its body is known
  pub write_frame : (at kind : ℕ) (body : List ℕ) → past_at s at ≤ length s → kind_at s at ≡ kind
      → drop (body_at at) s ≡ body ++ drop (past_at s at) s → drop at s ≡ framed kind body ++ drop (past_at s at) s
  unfolding framed bytes16
  write_frame at kind body r k e =
      let past = past_at s at in
      let w = sym (length-drop (at + 4) s) ∙ ap (λ (x : List ℕ). length x) e ∙ length-append body (drop past s) in
      let z : le16 s at ≡ length body = omega (arith, length-drop past s) in
      let q : at + 2 + 2 ≡ at + 4 = omega arith in
      joined s (bytes16 (le16 s at)) (bytes16 (le16 s (at + 2)) ++ body) at (at + 2) past (write16 at (omega arith))
      (joined s (bytes16 (le16 s (at + 2))) body (at + 2) (at + 4) past (rw q at (write16 (at + 2) (omega arith))) e)
      ∙ (λ i. (bytes16 (z i) ++ (bytes16 (k i) ++ body)) ++ drop past s)
