-- Document 01, 'Job file', as it is written: 'a body length in two bytes, a kind in two bytes, the body; all little-endian'. Every byte is
-- reduced to one, so that what is written is bytes whatever the numbers. Assumes nothing.
use Rattle.std.specs.Prelude.{ℕ, ◌≡◌, refl, ◌+◌, ◌/◌, ◌%◌, cond, List, [], ◌∷◌, ◌++◌, leb, length}
use Rattle.std.proofs.lemmas.List.Edits.{sets}

-- a number in two bytes, the lower one first, and in four
unfoldable pub bytes16 : ℕ → List ℕ
bytes16 n = n % 256 ∷ n / 256 % 256 ∷ []

unfoldable pub bytes32 : ℕ → List ℕ
bytes32 n = bytes16 n ++ bytes16 (n / 65536)

-- two bytes and four
pub long16 : (n : ℕ) → length (bytes16 n) ≡ 2
unfolding bytes16
long16 n = refl

pub long32 : (n : ℕ) → length (bytes32 n) ≡ 4
unfolding bytes32 bytes16
long32 n = refl

-- numbers one after the other, each spelled in bytes
abbrev pub spelled : {A : Type 0} → (A → List ℕ) → List A → List ℕ
spelled bytes [] = []
spelled bytes (n ∷ ns) = bytes n ++ spelled bytes ns

-- of two bytes each, and of four
unfoldable pub bytes_of : List ℕ → List ℕ
bytes_of ns = spelled bytes16 ns

unfoldable pub quad_bytes_of : List ℕ → List ℕ
quad_bytes_of ns = spelled bytes32 ns

-- a record of a kind, with its body
unfoldable pub framed : ℕ → List ℕ → List ℕ
framed kind body = bytes16 (length body) ++ (bytes16 kind ++ body)

-- what a buffer holds with these bytes written from a place on, where it has room for them all, and else what it held
unfoldable pub laid_at : List ℕ → ℕ → List ℕ → List ℕ
laid_at out at bytes = cond (leb (at + length bytes) (length out)) (sets out at bytes) out
