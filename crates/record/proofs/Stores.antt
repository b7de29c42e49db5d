-- Bytes stored one after the other from a place on: what is stored in two parts is stored at once. By induction on what is stored. And numbers
-- of four bytes as two of two. Assumes nothing.
use mathlib.Core.Path.{◌≡◌, refl, sym, ap, ◌∙◌}
use mathlib.Core.List.{List, [], ◌∷◌, ◌++◌, append_assoc}
use Prim.Native.Nat.{ℕ, suc, ◌+◌, ◌*◌, ◌/◌, ◌%◌, ◌≤◌, ◌<◌}
use native.Mathlib.Omega.{arith}
use borrow.Author.Tests.{le-leb, lt-leb}
use lib.ListN.{length, get_or, set, take, drop}
use lib.Seq.{sets, take-suc, length-take-le, drop-drop}
use native.Mathlib.Numerals.{add-one}
use Rattle.record.specs.Written.{bytes16, bytes32, spelled, bytes_of, framed, laid_at}
use borrow.Rule.Slice.PartMut.{put_mid}
use Rattle.std.specs.Int.{w16, w32, to_le_bytes}
use Rattle.std.proofs.lemmas.Grind.{common_steps}
use Rattle.std.proofs.lemmas.List.{append-nil}
use Rattle.std.proofs.lemmas.List.Edits.{sets-eq}
use Rattle.record.proofs.Spelled.{low_byte, length-spelled}

pub stored-behind : (l : List ℕ) (at : ℕ) (xs ys : List ℕ) → sets (sets l at xs) (at + length xs) ys ≡ sets l at (xs ++ ys)
stored-behind l at [] ys = ap (λ (i : ℕ). sets l i ys) (omega arith)
stored-behind l at (x ∷ xs) ys = ap (λ (i : ℕ). sets (sets (set l at x) (suc at) xs) i ys) (omega arith) ∙ stored-behind (set l at x) (suc at) xs ys

-- the same where the first part is known by an equation
pub stored-then : (l m : List ℕ) (at next : ℕ) (xs ys : List ℕ) → m ≡ sets l at xs → next ≡ at + length xs → sets m next ys ≡ sets l at (xs ++ ys)
stored-then l m at next xs ys e p = (λ i. sets (e i) (p i) ys) ∙ stored-behind l at xs ys

-- ---- in a buffer

-- where there is room
pub laid : (out : List ℕ) (at : ℕ) (bytes : List ℕ) → at + length bytes ≤ length out → laid_at out at bytes ≡ sets out at bytes
unfolding laid_at
laid out at bytes room = simp (le-leb (at + length bytes) (length out) room)

-- and where there is none
pub unlaid : (out : List ℕ) (at : ℕ) (bytes : List ℕ) → length out < at + length bytes → laid_at out at bytes ≡ out
unfolding laid_at
unlaid out at bytes short = simp (lt-leb (at + length bytes) (length out) short)

-- ---- numbers of two bytes and of four

-- two bytes hold a number's remainder by 65,536
pub remainder : (n : ℕ) → bytes16 (n % 65536) ≡ bytes16 n
unfolding bytes16
remainder n =
    let low : n % 65536 % 256 ≡ n % 256 = omega arith in
    let quotient : n % 65536 / 256 + 256 * (n / 65536) ≡ n / 256 = omega arith in
    let high : n % 65536 / 256 % 256 ≡ n / 256 % 256 = low_byte (n % 65536 / 256) (n / 65536) ∙ ap (λ (m : ℕ). m % 256) quotient in
    rw (low, high)

spelled-append : {A : Type 0} (bytes : A → List ℕ) (ms ns : List A) → spelled bytes (ms ++ ns) ≡ spelled bytes ms ++ spelled bytes ns
spelled-append bytes [] ns = refl
spelled-append bytes (m ∷ ms) ns = ap (λ (l : List ℕ). bytes m ++ l) (spelled-append bytes ms ns) ∙ sym (append_assoc (bytes m) (spelled bytes ms) (spelled bytes ns))

pub numbers-append : (ms ns : List ℕ) → bytes_of (ms ++ ns) ≡ bytes_of ms ++ bytes_of ns
unfolding bytes_of
numbers-append = spelled-append bytes16

-- four bytes are two numbers of two
pub halves : (n : ℕ) → bytes_of (n % 65536 ∷ n / 65536 ∷ []) ≡ bytes32 n
unfolding bytes_of bytes32 bytes16
halves n = ap (λ (l : List ℕ). l ++ bytes16 (n / 65536)) (remainder n)

-- a record of one number of two bytes and two of four, as files begin with, in numbers of two
pub opening-numbers : (kind a b c : ℕ) → bytes_of (10 ∷ kind ∷ a ∷ b % 65536 ∷ b / 65536 ∷ c % 65536 ∷ c / 65536 ∷ []) ≡ framed kind (bytes16 a ++ (bytes32 b ++ bytes32 c))
unfolding bytes_of framed bytes32 bytes16
opening-numbers kind a b c =
    let four = numbers-append (b % 65536 ∷ b / 65536 ∷ []) (c % 65536 ∷ c / 65536 ∷ []) ∙ (λ i. halves b i ++ halves c i) in
    ap (λ (l : List ℕ). bytes16 10 ++ (bytes16 kind ++ (bytes16 a ++ l))) four

-- one number more of a list, which has so many bytes
pub one-more : {A : Type 0} (bytes : A → List ℕ) (width : ℕ) → ((n : A) → length (bytes n) ≡ width) → (out : List ℕ) (at i : ℕ) (ns : List A) (n : A)
    → i < length ns → n ≡ get_or ns i n → sets (sets out at (spelled bytes (take i ns))) (at + width * i) (bytes n) ≡ sets out at (spelled bytes (take (i + 1) ns))
one-more bytes width long out at i ns n l e =
    let before = spelled bytes (take i ns) in
    let place : at + width * i ≡ at + length before = ap (λ (k : ℕ). at + k) (sym (length-spelled bytes width long (take i ns) ∙ ap (λ (k : ℕ). width * k) (length-take-le i ns (omega arith)))) in
    let whole : take (i + 1) ns ≡ take i ns ++ (n ∷ []) = ap (λ (k : ℕ). take k ns) (add-one i) ∙ take-suc ns i n l ∙ ap (λ (m : _). take i ns ++ (m ∷ [])) (sym e) in
    let last : bytes n ++ [] ≡ bytes n = append-nil (bytes n) in
    let all : spelled bytes (take (i + 1) ns) ≡ before ++ bytes n = ap (spelled bytes) whole ∙ spelled-append bytes (take i ns) (n ∷ []) ∙ ap (λ (l : List ℕ). before ++ l) last in
    stored-then out (sets out at before) at (at + width * i) before (bytes n) refl place ∙ ap (sets out at) (sym all)

-- ---- put at a place

-- a part that is written over, and two bytes and four in the library's words
pub put-sets : (out new bytes : List ℕ) (at k : ℕ) → new ≡ bytes → k ≡ length bytes → at + length bytes ≤ length out → put_mid at k out new ≡ sets out at bytes
put-sets out new bytes at k e w room =
    (λ i. take at out ++ (e i ++ drop (w i) (drop at out))) ∙ ap (λ (l : List ℕ). take at out ++ (bytes ++ l)) (drop-drop (length bytes) at out) ∙ sym (append_assoc (take at out) bytes (drop (at + length bytes) out)) ∙ sym (sets-eq bytes out at room)

pub low_first16 : (n : ℕ) → n < 65536 → to_le_bytes w16 n ≡ bytes16 n
unfolding bytes16
low_first16 n l = grind (arith, common_steps)

pub low_first32 : (n : ℕ) → n < 4_294_967_296 → to_le_bytes w32 n ≡ bytes32 n
unfolding bytes32 bytes16
low_first32 n l = grind (arith, common_steps)
