-- Text laid into a lent buffer, byte after byte, as far as the buffer goes. Assumes nothing.
use Rattle.std.specs.Prelude.{ℕ, ◌+◌, cond, List, [], ◌∷◌, ltb, length, set}

-- a buffer, and where its next byte goes
pub record Sink : Type 0 where
  pub at : ℕ
  pub bytes : List ℕ

abbrev pub sink : ℕ → List ℕ → Sink
sink at bytes = record { at = at; bytes = bytes }

-- one byte more, where there is room for it
unfoldable pub put_byte : ℕ → Sink → Sink
put_byte b k = cond (ltb k.at (length k.bytes)) (sink (k.at + 1) (set k.bytes k.at b)) k

-- a text
unfoldable pub put : List ℕ → Sink → Sink
put [] k = k
put (b ∷ bs) k = put bs (put_byte b k)

-- what a buffer holds with a text laid over its beginning, as far as it goes
unfoldable pub laid_over : List ℕ → List ℕ → List ℕ
laid_over [] old = old
laid_over (b ∷ bs) [] = []
laid_over (b ∷ bs) (x ∷ old) = b ∷ laid_over bs old
