-- Little-endian numbers in a list of bytes; a byte past its end is 0. Assumes nothing.
use Rattle.std.specs.Prelude.{ℕ, zero, suc, ◌+◌, ◌*◌, ◌<◌, List, [], ◌∷◌, ◌++◌, get_or}

-- every one of them is a byte
abbrev pub Bytes : List ℕ → Type 0
Bytes s = (i : ℕ) → get_or s i 0 < 256

-- the two bytes from a place on, as a number, the lower byte first
unfoldable pub le16 : List ℕ → ℕ → ℕ
le16 s at = get_or s at 0 + 256 * get_or s (at + 1) 0

-- the four bytes from a place on, as a number, the lowest byte first
unfoldable pub le32 : List ℕ → ℕ → ℕ
le32 s at = le16 s at + 65536 * le16 s (at + 2)

-- n numbers from a place on, each read where it stands, so many bytes apart
abbrev pub numbers : (ℕ → ℕ) → ℕ → ℕ → ℕ → List ℕ
numbers read width start zero = []
numbers read width start (suc n) = numbers read width start n ++ (read (start + width * n) ∷ [])

-- of two bytes each, and of four
unfoldable pub words : List ℕ → ℕ → ℕ → List ℕ
words s start n = numbers (le16 s) 2 start n

unfoldable pub quads : List ℕ → ℕ → ℕ → List ℕ
quads s start n = numbers (le32 s) 4 start n
