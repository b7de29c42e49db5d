-- Document 02 f), 'Which way is the file broken?', as statements: which of 16, 19, 20 and 21 a file gets and where, and which of them a longer file can
-- still mend. One statement for every format; a record that is read by itself, in any state that is handed in, has its own. Assumes nothing.
use Rattle.std.specs.Prelude.{ℕ, ◌<◌, ◌≡◌, ◌↔◌, Bool, true, false, List, ◌++◌, length}
use Rattle.lists.specs.Checks.{Given}
use Rattle.plate.specs.Call.{answer_of}
use Rattle.plate.specs.Refusal.{Told, refused}
use Rattle.record.specs.Bytes.{Bytes}
use Rattle.record.specs.Frame.{length_at, kind_at}
use Rattle.job.specs.Kinds.{allowed_here, fits}
use Rattle.job.specs.Record.{What, body_checks, record_kind, read_record}
use Rattle.job.specs.declared.State.{State}
use Rattle.load.specs.Load.{too_large, job_of, load_answer}
use Rattle.sent.specs.File.{table_file}
use Rattle.receive.specs.Receiving.{read_answer}
use Rattle.orders.specs.Reading.{reading_order}
use Rattle.promises.specs.Printing.{Lent}
use Rattle.promises.specs.Reader.{Reader, Reached, Stops, allowed_next, right_next, asks, RunsOut, KindBarred, LengthWrong, Contradicts}
use Rattle.promises.specs.Readers.{job_reader, table_reader, order_reader}
use Rattle.promises.specs.Kinds.{job_allows, table_allows, order_allows}

-- ---- what a longer input changes

-- 'every file fault but 16 is final: each longer input that begins with this one has the same number at the same place; a 16 never is': some longer input
-- has no 16, neither there nor anywhere
pub record Outlook {X : Type 0} (answer : List ℕ → Told X) (file : List ℕ) : Type 0 where
  pub final : (number place : ℕ) → answer file ≡ refused number place → (number ≡ 16 → ⊥) → (more : List ℕ) → answer (file ++ more) ≡ refused number place
  pub open-ended : Bytes file → (place : ℕ) → answer file ≡ refused 16 place
      → (more : List ℕ) × Bytes (file ++ more) × ((other : ℕ) → answer (file ++ more) ≡ refused 16 other → ⊥)

-- ---- a file, in a format whose kinds go by this grammar

pub record WhichWay {Known X : Type 0} (reader : Reader Known) (grammar : List ℕ → ℕ → Bool) (answer : List ℕ → Told X) (file : List ℕ) : Type 0 where
  -- 'the first record at fault decides', by the first of its checks that holds
  pub decides : (number place : ℕ)
      → (answer file ≡ refused number place) ↔ Stops reader file (λ known kinds. Given (asks reader file known) (record { number = number; place = place }))
  -- the kind test looks at the kinds before alone
  pub kind-test : {known : Known} {kinds : List ℕ} → Reached reader file known kinds → (kind : ℕ) → reader.allows known kind ≡ grammar kinds kind
  -- '16 now means only that bytes run out'
  pub ran_out : (place : ℕ) → (answer file ≡ refused 16 place) ↔ Stops reader file (λ known kinds.
      (reader.place known ≡ place) × RunsOut file place (allowed_next reader file known) (right_next reader file known))
  -- '19 a kind not known or, by the kinds before it alone, not allowed here'
  pub wrong-kind : (place : ℕ) → (answer file ≡ refused 19 place) ↔ Stops reader file (λ known kinds.
      (reader.place known ≡ place) × KindBarred file place (grammar kinds (kind_at file place)))
  -- '20 a length wrong for the kind'
  pub wrong-length : (place : ℕ) → (answer file ≡ refused 20 place) ↔ Stops reader file (λ known kinds.
      (reader.place known ≡ place) × LengthWrong file place (allowed_next reader file known) (right_next reader file known))
  -- '21 contents that disagree with the file', where the check stood that it replaces
  pub disagrees : (place : ℕ) → (answer file ≡ refused 21 place) ↔ Stops reader file (λ known kinds.
      Contradicts file (reader.place known) (allowed_next reader file known) (right_next reader file known) (reader.own file known) place)
  pub outlook : Outlook answer file

-- ---- a record of a job file that is read by itself, in a state that is handed in, also one that no file gives

abbrev pub read_alone : State → ℕ → List ℕ → Told What
read_alone st at s = (read_record s st at).told

pub record RecordAlone (s : List ℕ) (st : State) (at : ℕ) : Type 0 where
  -- after the end record, any byte that is left, before a head is looked for
  pub after-end : st.ended ≡ true → (number place : ℕ)
      → (read_alone st at s ≡ refused number place) ↔ ((number ≡ 21) × (place ≡ at) × (at < length s))
  -- before it, by the state's flags
  pub ran_out : st.ended ≡ false → (place : ℕ)
      → (read_alone st at s ≡ refused 16 place) ↔ ((at ≡ place) × RunsOut s place (allowed_here st (record_kind s at)) (fits (record_kind s at) (length_at s at)))
  pub wrong-kind : st.ended ≡ false → (place : ℕ) → (read_alone st at s ≡ refused 19 place) ↔ ((at ≡ place) × KindBarred s place (allowed_here st (record_kind s at)))
  pub wrong-length : st.ended ≡ false → (place : ℕ)
      → (read_alone st at s ≡ refused 20 place) ↔ ((at ≡ place) × LengthWrong s place (allowed_here st (record_kind s at)) (fits (record_kind s at) (length_at s at)))
  pub disagrees : st.ended ≡ false → (place : ℕ) → (read_alone st at s ≡ refused 21 place)
      ↔ Contradicts s at (allowed_here st (record_kind s at)) (fits (record_kind s at) (length_at s at)) (body_checks s st at (record_kind s at)) place
  -- the kind test looks at one flag of the state: whether settings were read
  pub kind-test : (other : State) → st.begun ≡ other.begun → allowed_here st (record_kind s at) ≡ allowed_here other (record_kind s at)
  pub outlook : Outlook (read_alone st at) s

-- DOCUMENT 02 F), for all three formats
pub record Faults : Type 0 where
  -- a job file, whatever its reader asks of the settings by number 17
  pub job : (most : ℕ) (file : List ℕ) → WhichWay (job_reader (too_large most)) job_allows (job_of most) file
  pub table : (file : List ℕ) → WhichWay table_reader table_allows table_file file
  -- an order file, where what the call is handed besides is in order
  pub order : (N T step : ℕ) (cures : List ℕ) → Lent N T step cures → (number : ℕ) (file : List ℕ)
      → WhichWay (order_reader N T step cures) order_allows (λ (f : List ℕ). answer_of (reading_order N T step cures f number)) file
  pub record-alone : (s : List ℕ) (st : State) (at : ℕ) → RecordAlone s st at
  -- the calls that read a file into a lent table: but for 3, which is the table's, they refuse what the file is refused with, and nothing else
  pub job-call : (most : ℕ) (file lent : List ℕ) (number place : ℕ) → (number ≡ 3 → ⊥)
      → (load_answer lent (job_of most file) ≡ refused number place) ↔ (job_of most file ≡ refused number place)
  pub table-call : (file lent : List ℕ) (number place : ℕ) → (number ≡ 3 → ⊥) → (read_answer file lent ≡ refused number place) ↔ (table_file file ≡ refused number place)
