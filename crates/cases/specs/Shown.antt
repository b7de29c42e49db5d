-- What is shown of a case, as bytes of ASCII: numbers, answers, and what lent memory holds after a call. Assumes nothing.
use Rattle.std.specs.Prelude.{◌≡◌, List, [], ◌∷◌, ◌++◌, cond, ℕ, ◌-◌, ◌≤◌, ◌<◌, leb, min, max, ℤ, map, length, get_or, take, drop, Result, Ok, Err, Option, Some, None}
use Rattle.io.specs.Digits.{last_digits}
use Rattle.text.specs.Numbers.{decimal, signed}
use Rattle.plate.specs.Refusal.{number_of}
use Rattle.plate.specs.declared.refusal.Refusal.{Refusal}
use Rattle.plate.specs.declared.head.Head.{Head}
use Rattle.cases.specs.Cases.{digest_of}

-- ` `
unfoldable pub space : List ℕ
space = 32 ∷ []

-- ` done`
unfoldable pub done_word : List ℕ
done_word = 32 ∷ 100 ∷ 111 ∷ 110 ∷ 101 ∷ []

-- ` refused`
unfoldable pub refused_word : List ℕ
refused_word = 32 ∷ 114 ∷ 101 ∷ 102 ∷ 117 ∷ 115 ∷ 101 ∷ 100 ∷ []

-- ` at`
unfoldable pub at_word : List ℕ
at_word = 32 ∷ 97 ∷ 116 ∷ []

-- ` height`
unfoldable pub height_word : List ℕ
height_word = 32 ∷ 104 ∷ 101 ∷ 105 ∷ 103 ∷ 104 ∷ 116 ∷ []

-- `, members`
unfoldable pub members_word : List ℕ
members_word = 44 ∷ 32 ∷ 109 ∷ 101 ∷ 109 ∷ 98 ∷ 101 ∷ 114 ∷ 115 ∷ []

-- `, columns`
unfoldable pub columns_word : List ℕ
columns_word = 44 ∷ 32 ∷ 99 ∷ 111 ∷ 108 ∷ 117 ∷ 109 ∷ 110 ∷ 115 ∷ []

-- `; kept from`
unfoldable pub kept_word : List ℕ
kept_word = 59 ∷ 32 ∷ 107 ∷ 101 ∷ 112 ∷ 116 ∷ 32 ∷ 102 ∷ 114 ∷ 111 ∷ 109 ∷ []

-- ` to`
unfoldable pub to_word : List ℕ
to_word = 32 ∷ 116 ∷ 111 ∷ []

-- `; bytes`
unfoldable pub bytes_word : List ℕ
bytes_word = 59 ∷ 32 ∷ 98 ∷ 121 ∷ 116 ∷ 101 ∷ 115 ∷ []

-- `; cells`
unfoldable pub cells_word : List ℕ
cells_word = 59 ∷ 32 ∷ 99 ∷ 101 ∷ 108 ∷ 108 ∷ 115 ∷ []

-- `, first`
unfoldable pub first_word : List ℕ
first_word = 44 ∷ 32 ∷ 102 ∷ 105 ∷ 114 ∷ 115 ∷ 116 ∷ []

-- `, last`
unfoldable pub last_word : List ℕ
last_word = 44 ∷ 32 ∷ 108 ∷ 97 ∷ 115 ∷ 116 ∷ []

-- `' digest`
unfoldable pub digest_word : List ℕ
digest_word = 39 ∷ 32 ∷ 100 ∷ 105 ∷ 103 ∷ 101 ∷ 115 ∷ 116 ∷ []

-- a number, and a number with its sign, with a space before it
unfoldable pub next_text : ℕ → List ℕ
next_text x = space ++ decimal x

unfoldable pub signed_text : ℤ → List ℕ
signed_text z = space ++ signed z

-- a byte in two hexadecimal digits, `0` to `9` and `a` to `f`
unfoldable pub byte_text : ℕ → List ℕ
byte_text x = last_digits 16 2 x

-- numbers one after the other, each as it is shown
unfoldable pub each_text : (ℕ → List ℕ) → List ℕ → List ℕ
each_text show [] = []
each_text show (x ∷ xs) = show x ++ each_text show xs

unfoldable pub bytes_text : List ℕ → List ℕ
bytes_text xs = space ++ each_text byte_text xs

unfoldable pub cells_text : List ℕ → List ℕ
cells_text xs = each_text next_text xs

unfoldable pub done_text : ℕ → List ℕ
done_text value = done_word ++ next_text value

unfoldable pub refused_text : Refusal → List ℕ
refused_text refusal = refused_word ++ (next_text (number_of refusal.reason) ++ (at_word ++ next_text refusal.place))

-- what is shown of a call's answer: the refusal alone
abbrev pub answer_text : {T : Type 0} → Result T Refusal → List ℕ
answer_text (Ok value) = []
answer_text (Err refusal) = refused_text refusal

unfoldable pub head_text : Head → List ℕ
head_text head =
    height_word ++ (next_text head.height ++ (members_word ++ (next_text head.members ++ (columns_word ++ next_text head.columns))))

-- `end` is where the marks end that stand from one index on, up to another
pub record IsEndOfMarks {A : Type 0} (none : A) (mark : ℕ → A) (held : List A) (from to end : ℕ) : Type 0 where
  pub within : (from ≤ end) × (end ≤ max from (min to (length held)))
  pub marks : (i : ℕ) → from ≤ i → i < end → get_or held i none ≡ mark i
  pub other : end < length held → end < to → get_or held end none ≡ mark end → ⊥

unfoldable pub kept_text : ℕ → ℕ → List ℕ
kept_text from end = kept_word ++ (next_text from ++ (to_word ++ next_text end))

-- the first 32, and the last 32 of so many
unfoldable pub ends_text : {A : Type 0} → (List A → List ℕ) → List A → ℕ → List ℕ
ends_text shown held size = first_word ++ (shown (take 32 held) ++ (last_word ++ shown (drop (size - 32) (take size held))))

-- what a call wrote: each number where they are at most 1000, and else their digest and the ends
unfoldable pub written_text : {A : Type 0} → List ℕ → (List A → List ℕ) → (A → ℕ) → List A → ℕ → List ℕ
written_text name shown value held size =
    name
    ++ cond (leb size 1000)
    (shown (take size held))
    (digest_word ++ (next_text (digest_of (map value held) (min size (length held))) ++ ends_text shown held size))

-- what is shown of memory of which the marks end at `end`
unfoldable pub left_text : {A : Type 0} → List ℕ → (List A → List ℕ) → (A → ℕ) → List A → Option ℕ → ℕ → List ℕ
left_text name shown value held None end = kept_text 0 end
left_text name shown value held (Some size) end = kept_text size end ++ written_text name shown value held size
