-- Document 02 e)'s files as bytes, for any way of writing a record down: which are accepted, and at what place any other is refused. What is
-- asked of the way of writing: after records that passed, the bytes tell which of the records that may come next they begin with. Assumes nothing.
use Rattle.std.specs.Prelude.{ℕ, ◌≤◌, ◌<◌, ◌≡◌, List, [], ◌∷◌, ◌++◌, length}
use Rattle.std.proofs.Math.Option.{some}
use Rattle.printed.specs.Records.{Record, State, fresh, step, read_from}
use Rattle.printed.specs.Paper.{Printed, Started}

abbrev pub bytes_of : (Record → List ℕ) → List Record → List ℕ
bytes_of code [] = []
bytes_of code (r ∷ rs) = code r ++ bytes_of code rs

-- of the records that pass the test after those read, no two begin the same bytes
pub record Distinct (N T : ℕ) (cures : List ℕ) (code : Record → List ℕ) : Type 0 where
  pub only : (rs : List Record) (s : State) → read_from N T cures fresh rs ≡ some s
      → (r r' : Record) (o o' : State) → step N T cures s r ≡ some o → step N T cures s r' ≡ some o'
      → (x y : List ℕ) → code r ++ x ≡ code r' ++ y → r ≡ r'

-- a file that the reader shall accept
pub record Accepted (N T : ℕ) (cures : List ℕ) (code : Record → List ℕ) (file : List ℕ) : Type 0 where
  pub records : List Record
  pub printed : Printed N T cures records
  pub same : bytes_of code records ≡ file

-- some such file has a whole number of records in its first p bytes, and the file given has the same first p bytes
pub record Agrees (N T : ℕ) (cures : List ℕ) (code : Record → List ℕ) (file : List ℕ) (p : ℕ) : Type 0 where
  pub records : List Record
  pub started : Started N T cures records
  pub rest : List ℕ
  pub same : bytes_of code records ++ rest ≡ file
  pub place : length (bytes_of code records) ≡ p

-- the place where it shall be refused: the furthest such, or 0 where there is none
pub record FaultAt (N T : ℕ) (cures : List ℕ) (code : Record → List ℕ) (file : List ℕ) (p : ℕ) : Type 0 where
  pub none : Accepted N T cures code file → ⊥
  pub reached : 0 < p → Agrees N T cures code file p
  pub furthest : (q : ℕ) → Agrees N T cures code file q → q ≤ p

-- where a reader has come to, by tests that passed
pub record Reached (N T : ℕ) (cures : List ℕ) (code : Record → List ℕ) (file : List ℕ) (p : ℕ) : Type 0 where
  pub records : List Record
  pub state : State
  pub reads : read_from N T cures fresh records ≡ some state
  pub rest : List ℕ
  pub same : bytes_of code records ++ rest ≡ file
  pub place : length (bytes_of code records) ≡ p

-- no record that passes the test comes next
abbrev pub Stuck : ℕ → ℕ → List ℕ → (Record → List ℕ) → State → List ℕ → Type 0
Stuck N T cures code s rest = (r : Record) (o : State) → step N T cures s r ≡ some o → (x : List ℕ) → code r ++ x ≡ rest → ⊥
