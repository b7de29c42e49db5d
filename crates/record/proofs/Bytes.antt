-- Bytes past the end are 0, and a list of numbers is as long as was asked for. Assumes nothing.
use mathlib.Core.Path.{◌≡◌, refl, ap, ap₂, ◌∙◌}
use mathlib.Core.List.{List, [], ◌∷◌, ◌++◌}
use Prim.Native.Nat.{ℕ, zero, suc, ◌+◌, ◌*◌, ◌≤◌, ◌<◌}
use native.Mathlib.Nat.{not-suc-le-zero}
use native.Mathlib.Omega.{arith}
use native.Mathlib.Decide.{dec_lt}
use native.Mathlib.Numerals.{add-one}
use lib.ListN.{length, get_or, set, take, length-append, get_or-append, get_or-eq_default}
use lib.Seq.{get_or-append-add, take-suc-set}
use Rattle.record.specs.Bytes.{Bytes, le16, le32, numbers, words, quads}

-- where nothing is left, and where one byte is
pub none_left : (s : List ℕ) (at : ℕ) → length s ≤ at → le16 s at ≡ 0
unfolding le16
none_left s at l =
    let low = get_or-eq_default s 0 {n = at} l in
    let high = get_or-eq_default s 0 {n = at + 1} (omega arith) in
    omega arith

pub one_left : (s : List ℕ) (at : ℕ) → length s ≤ at + 1 → le16 s at ≡ get_or s at 0
unfolding le16
one_left s at l = let high = get_or-eq_default s 0 {n = at + 1} l in omega arith

length-numbers : (read : ℕ → ℕ) (width start n : ℕ) → length (numbers read width start n) ≡ n
length-numbers read width start zero = refl
length-numbers read width start (suc n) = length-append (numbers read width start n) _ ∙ (let e = length-numbers read width start n in omega arith)

pub length-words : (s : List ℕ) (start n : ℕ) → length (words s start n) ≡ n
unfolding words
length-words s = length-numbers (le16 s) 2

pub length-quads : (s : List ℕ) (start n : ℕ) → length (quads s start n) ≡ n
unfolding quads
length-quads s = length-numbers (le32 s) 4

-- the number at a place of a list of them
number_at : (read : ℕ → ℕ) (width start n j : ℕ) → j < n → get_or (numbers read width start n) j 0 ≡ read (start + width * j)
number_at read width start zero j l = absurd (not-suc-le-zero l)
number_at read width start (suc n) j l = go (dec_lt j n) (number_at read width start n j)
  where
    before : List ℕ
    before = numbers read width start n

    last : List ℕ
    last = read (start + width * n) ∷ []

    go : Dec (j < n) → (j < n → get_or before j 0 ≡ read (start + width * j)) → get_or (before ++ last) j 0 ≡ read (start + width * j)
    go (yes u) k = get_or-append before last 0 j (omega (arith, length-numbers read width start n)) ∙ k u
    go (no u) k =
        let place : j ≡ length before + 0 = omega (arith, length-numbers read width start n) in
        let here : n ≡ j = omega arith in
        ap (λ (i : ℕ). get_or (before ++ last) i 0) place ∙ get_or-append-add before last 0 0 ∙ ap (λ (i : ℕ). read (start + width * i)) here

pub quad_at : (s : List ℕ) (start n j : ℕ) → j < n → get_or (quads s start n) j 0 ≡ le32 s (start + 4 * j)
unfolding quads
quad_at s = number_at (le32 s) 4

-- four bytes are a number of 32 bits
pub quad-small : (s : List ℕ) → Bytes s → (at : ℕ) → le32 s at < 4_294_967_296
unfolding le32 le16
quad-small s byte at = omega (arith, byte at, byte (at + 1), byte (at + 2), byte (at + 2 + 1))

-- one number more of a list, and one word
pub numbers_more : (read : ℕ → ℕ) (width start i n : ℕ) (out : List ℕ) → i < length out → take i out ≡ numbers read width start i → n ≡ read (start + width * i)
    → take (i + 1) (set out i n) ≡ numbers read width start (i + 1)
numbers_more read width start i n out l e v = rw (add-one i) (take-suc-set out i n l ∙ ap₂ (λ (xs : List ℕ) (x : ℕ). xs ++ (x ∷ [])) e v)

pub word_more : (s out : List ℕ) (start i w : ℕ) → i < length out → take i out ≡ numbers (le16 s) 2 start i → w ≡ le16 s (start + 2 * i) → take (i + 1) (set out i w) ≡ numbers (le16 s) 2 start (i + 1)
word_more s out start i w l e v = numbers_more (le16 s) 2 start i w out l e v
