-- Document 02 f), 'a kind not known or, by the kinds before it alone, not allowed here': which kinds go after which, for each format, with nothing of a
-- record's contents. The kinds before are listed with the latest first. How many rows or layers there must be is contents. Assumes nothing.
use Rattle.std.specs.Prelude.{ℕ, Bool, false, cond, ◌||◌, List, [], ◌∷◌, leb, eqb}

-- a job file's are 1 2* 3, with remarks anywhere before 3
abbrev is_remark : ℕ → Bool
is_remark kind = leb 32_768 kind

unfoldable pub job_allows : List ℕ → ℕ → Bool
job_allows [] kind = eqb kind 1 || is_remark kind
job_allows (last ∷ before) kind =
    cond (is_remark last) (job_allows before kind)
    (cond (eqb last 1 || eqb last 2) (eqb kind 2 || (eqb kind 3 || is_remark kind))
    false)

-- a table file's are 16 17+ 18, since every table has a row
unfoldable pub table_allows : List ℕ → ℕ → Bool
table_allows [] kind = eqb kind 16
table_allows (last ∷ before) kind =
    cond (eqb last 16) (eqb kind 17)
    (cond (eqb last 17) (eqb kind 17 || eqb kind 18)
    false)

-- an order file's are (48 49)+ 50, since every sequence has a layer
unfoldable pub order_allows : List ℕ → ℕ → Bool
order_allows [] kind = eqb kind 48
order_allows (last ∷ before) kind =
    cond (eqb last 48) (eqb kind 49)
    (cond (eqb last 49) (eqb kind 48 || eqb kind 50)
    false)
