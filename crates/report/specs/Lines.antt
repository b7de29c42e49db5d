-- Document 01, the planning program: 'It prints one line `refused R at P`, or: a line with N, columns and M; then for each count the count
-- and `none`, or the count, the error and the boundaries.' As bytes of ASCII. Assumes nothing.
use Rattle.std.specs.Prelude.{ℕ, zero, suc, cond, List, [], ◌∷◌, ◌++◌, ltb, ℤ, length}
use Rattle.std.proofs.Math.Option.{Option, none, some}
use Rattle.paper.specs.Layer.{Plate, Column, of_columns}
use Rattle.paper.specs.Sequence.{M, error}
use Rattle.plate.specs.Refusal.{Told, done, refused}
use Rattle.text.specs.Numbers.{decimal, signed}
use Rattle.job.specs.File.{Job}
use Rattle.load.specs.Load.{job_of}
use Rattle.meaning.specs.Working.{found}

-- `refused `
unfoldable pub refused_word : List ℕ
refused_word = 114 ∷ 101 ∷ 102 ∷ 117 ∷ 115 ∷ 101 ∷ 100 ∷ 32 ∷ []

-- ` at `
unfoldable pub at_word : List ℕ
at_word = 32 ∷ 97 ∷ 116 ∷ 32 ∷ []

-- `height `
unfoldable pub height_word : List ℕ
height_word = 104 ∷ 101 ∷ 105 ∷ 103 ∷ 104 ∷ 116 ∷ 32 ∷ []

-- ` columns `
unfoldable pub columns_word : List ℕ
columns_word = 32 ∷ 99 ∷ 111 ∷ 108 ∷ 117 ∷ 109 ∷ 110 ∷ 115 ∷ 32 ∷ []

-- ` counts `
unfoldable pub counts_word : List ℕ
counts_word = 32 ∷ 99 ∷ 111 ∷ 117 ∷ 110 ∷ 116 ∷ 115 ∷ 32 ∷ []

-- ` none\n`
unfoldable pub none_word : List ℕ
none_word = 32 ∷ 110 ∷ 111 ∷ 110 ∷ 101 ∷ 10 ∷ []

-- ` `
unfoldable pub space : List ℕ
space = 32 ∷ []

-- `\n`
unfoldable pub line_end : List ℕ
line_end = 10 ∷ []

-- `refused R at P`
unfoldable pub refused_line : ℕ → ℕ → List ℕ
refused_line number place = refused_word ++ (decimal number ++ (at_word ++ (decimal place ++ line_end)))

-- a line with N, columns and M
unfoldable pub head_line : ℕ → ℕ → ℕ → List ℕ
head_line N columns counts = height_word ++ (decimal N ++ (columns_word ++ (decimal columns ++ (counts_word ++ (decimal counts ++ line_end)))))

-- boundaries, each after a space
unfoldable pub boundary_text : ℤ → List ℕ
boundary_text z = space ++ signed z

unfoldable pub boundaries_text : List ℤ → List ℕ
boundaries_text [] = []
boundaries_text (z ∷ zs) = boundary_text z ++ boundaries_text zs

-- the count and `none`
unfoldable pub none_line : ℕ → List ℕ
none_line n = decimal n ++ none_word

-- the count, the error and the boundaries
unfoldable pub sequence_line : ℕ → ℕ → List ℤ → List ℕ
sequence_line n e zs = decimal n ++ (space ++ (decimal e ++ (boundaries_text zs ++ line_end)))

-- the line of n layers of a plate, by the sequence that is found: THE chosen one of document 01 (`meaning`, found-exact)
abbrev pub count_line : Plate → ℕ → Option (List ℤ) → List ℕ
count_line p n none = none_line n
count_line p n (some zs) = sequence_line n (error p zs) zs

-- the lines of the k counts after n
unfoldable pub count_lines : (ℕ → List ℕ) → ℕ → ℕ → List ℕ
count_lines line n zero = []
count_lines line n (suc k) = line (suc n) ++ count_lines line (suc n) k

abbrev pub plate_text : ℕ → ℕ → ℕ → List Column → List ℕ
plate_text N T bound columns =
    head_line N (length columns) (M N T)
    ++ count_lines (λ n. count_line (of_columns N T columns) n (found (of_columns N T columns) bound n)) 0 (M N T)

abbrev pub job_text : Told Job → List ℕ
job_text (done job) = plate_text job.asked.height job.asked.members job.asked.bound job.columns
job_text (refused number place) = refused_line number place

-- 'Over 4,096 bytes: 17 at 0, before all else. A table or sheet over 4,096 entries: 17 at the settings record'
abbrev pub most : ℕ
most = 4_096

-- room for every text (`Lengths`): 63 lines of at most 1,450 bytes each, and a line more
abbrev pub most_text : ℕ
most_text = 131_072

-- WHAT THE PROGRAM PRINTS for these bytes
unfoldable pub plan_text : List ℕ → List ℕ
plan_text s = cond (ltb most (length s)) (refused_line 17 0) (job_text (job_of most s))
