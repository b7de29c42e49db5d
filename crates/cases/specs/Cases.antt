-- A part of a line, the bytes that it gives in hexadecimal, and a digest. Assumes nothing.
use Rattle.std.specs.Prelude.{◌≡◌, ◌<◌, ◌⊎◌, List, [], ◌∷◌, ◌++◌, cond, ◌||◌, ℕ, zero, suc, ◌+◌, ◌-◌, ◌*◌, ◌/◌, ◌%◌, leb, ltb, eqb, length, get_or, set, take, drop}
use Rattle.lists.specs.Search.{lowest}

-- what stands from one place up to another, and the whole where there is no such part
abbrev pub part_of : {A : Type 0} → List A → ℕ → ℕ → List A
part_of l from to = cond (leb from to) (cond (leb to (length l)) (take (to - from) (drop from l)) l) l

-- `line` is the first line of a list, and `rest` what stands behind the line feed that ends it
pub record IsLine (list line rest : List ℕ) : Type 0 where
  pub whole : (list ≡ line ++ (10 ∷ rest)) ⊎ ((list ≡ line) × (rest ≡ []))
  pub free : (k : ℕ) → k < length line → get_or line k 0 ≡ 10 → ⊥

-- the value of a hexadecimal digit, and 16 of any other character
abbrev pub digit_of : ℕ → ℕ
digit_of c = cond (leb 48 c) (cond (leb c 57) (c - 48) (cond (leb 65 c) (cond (leb c 70) (c - 55) 16) 16)) 16

-- bytes of which so many halves are laid
pub record Laid : Type 0 where
  pub held : List ℕ
  pub halves : ℕ

abbrev pub laid : List ℕ → ℕ → Laid
laid held halves = record { held = held; halves = halves }

-- with a half more, where it is one and there is room
unfoldable pub with_half : ℕ → Laid → Laid
with_half half l =
    cond (ltb half 16)
    (cond (ltb (l.halves / 2) (length l.held))
    (laid (set l.held (l.halves / 2) (get_or l.held (l.halves / 2) 0 % 16 * 16 + half)) (l.halves + 1))
    l)
    l

abbrev pub with_byte : ℕ → Laid → Laid
with_byte byte l = with_half (byte % 16) (with_half (byte / 16) l)

-- a dot is a byte of 0, as most are; +, -, = and ~, the letters before a file, stand for themselves; spaces are for the reader
unfoldable pub with_next : ℕ → Laid → Laid
with_next c l =
    cond (eqb c 46)
    (with_byte 0 l)
    (cond (eqb c 43 || eqb c 45 || eqb c 61 || eqb c 126) (with_byte c l) (with_half (digit_of c) l))

-- by the first n characters
unfoldable pub laid_by : List ℕ → ℕ → List ℕ → Laid
laid_by words zero held = laid held 0
laid_by words (suc n) held = with_next (get_or words n 0) (laid_by words n held)

-- a digest with one number more
abbrev pub digest_with : ℕ → ℕ → ℕ
digest_with digest x = (digest % 4294967291 * 1000003 + x % 4294967291 + 1) % 4294967291

-- the digest of the first n
unfoldable pub digest_of : List ℕ → ℕ → ℕ
digest_of l zero = 0
digest_of l (suc n) = digest_with (digest_of l n) (get_or l n 0)

-- how many characters stand before the first colon
unfoldable pub before_colon : List ℕ → ℕ
before_colon line = lowest (λ k. eqb (get_or line k 0) 58) (length line)

abbrev pub label_of : List ℕ → List ℕ
label_of line = take (before_colon line) line

-- what is held when the characters from the first colon on are laid into it, and the bytes that they give
abbrev pub given_by : List ℕ → List ℕ → Laid
given_by line held = laid_by (drop (before_colon line) line) (length (drop (before_colon line) line)) held

abbrev pub given_of : List ℕ → List ℕ → List ℕ
given_of line held = take ((given_by line held).halves / 2) (given_by line held).held
