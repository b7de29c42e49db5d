-- The three formats as files that are read record by record: what each is asked and what is known behind it stand in the definitions of their readers
-- (crates `job`, `sent`, `orders`). Assumes nothing.
use Rattle.std.specs.Prelude.{ℕ, zero, suc, Bool, cond, List, [], ◌∷◌, ◌++◌, eqb}
use Rattle.std.proofs.Math.Option.{Option, none, some}
use Rattle.lists.specs.Checks.{Check}
use Rattle.plate.specs.Head.{head_checks, over_check}
use Rattle.plate.specs.Refusal.{Numbered}
use Rattle.plate.specs.declared.head.Head.{Head}
use Rattle.record.specs.Bytes.{le32}
use Rattle.record.specs.Frame.{kind_at, body_at, past_at}
use Rattle.record.specs.Faults.{unequal, tail}
use Rattle.job.specs.State.{start_state}
use Rattle.job.specs.Kinds as job
use Rattle.job.specs.Kinds.{kind_of, allowed_here}
use Rattle.job.specs.Record.{asked_at, body_checks, record_kind, state_after}
use Rattle.job.specs.File.{Asking}
use Rattle.job.specs.declared.Kind.{Kind}
use Rattle.job.specs.declared.Kind.TheVariants as kind
use Rattle.job.specs.declared.State.{State}
use Rattle.sent.specs.Kinds as sent
use Rattle.sent.specs.Kinds.{head_kind, end_kind, head_length}
use Rattle.sent.specs.Written.{rows_of}
use Rattle.sent.specs.File.{head_in, row_place, row_checks, end_checks}
use Rattle.printed.specs.Possible.{cure_of}
use Rattle.orders.specs.Layer.{cure_bits}
use Rattle.orders.specs.Kinds as order
use Rattle.orders.specs.Kinds.{cure_kind, float_length}
use Rattle.orders.specs.File.{lift_place, cure_place, no_layers, grown, thickness_at, lift_checks, finish_checks, finishes}
use Rattle.orders.specs.declared.Stack.{Stack}
use Rattle.promises.specs.Reader.{Reader}

-- ---- a job file: the reading state, and the place

pub record Standing : Type 0 where
  pub state : State
  pub at : ℕ

-- beside what a read asks: of settings what the reader of the file asks straight after them, and of the end that nothing stands past it
abbrev pub besides : Asking → List ℕ → ℕ → Kind → List (Check Numbered)
besides asking file at kind.Settings = asking at (asked_at file at)
besides asking file at kind.Column = []
besides asking file at kind.End = tail file (past_at file at) ∷ []
besides asking file at kind.Remark = []
besides asking file at kind.Refused = []

abbrev pub job_onward : List ℕ → Standing → Kind → Option Standing
job_onward file known kind.Settings = some (record { state = state_after file known.state known.at kind.Settings; at = past_at file known.at })
job_onward file known kind.Column = some (record { state = state_after file known.state known.at kind.Column; at = past_at file known.at })
job_onward file known kind.End = none
job_onward file known kind.Remark = some (record { state = known.state; at = past_at file known.at })
job_onward file known kind.Refused = none

abbrev pub job_reader : Asking → Reader Standing
job_reader asking = record {
  start = record { state = start_state; at = 0 };
  place = λ known. known.at;
  allows = λ known number. allowed_here known.state (kind_of number);
  fits = λ known number length. job.fits (kind_of number) length;
  own = λ file known.
      body_checks file known.state known.at (record_kind file known.at) ++ besides asking file known.at (record_kind file known.at);
  onward = λ file known. job_onward file known (record_kind file known.at);
}

-- ---- a table file: nothing; or its head, how many rows are left, and how many were read

pub data TableKnown : Type 0 where
  opening : TableKnown
  behind : Head → ℕ → ℕ → TableKnown

abbrev pub table_place : TableKnown → ℕ
table_place opening = 0
table_place (behind head left r) = row_place head.members r

-- behind a row; where no row is left, none is in order
abbrev pub row_onward : Head → ℕ → ℕ → Option TableKnown
row_onward head zero r = none
row_onward head (suc left) r = some (behind head left (suc r))

abbrev pub table_allows_at : TableKnown → ℕ → Bool
table_allows_at opening number = eqb number head_kind
table_allows_at (behind head left r) number = sent.allowed_after r number

abbrev pub table_fits : TableKnown → ℕ → ℕ → Bool
table_fits opening number length = eqb length head_length
table_fits (behind head left r) number length = sent.fits head.members number length

abbrev pub table_own : List ℕ → TableKnown → List (Check Numbered)
table_own file opening = head_checks (head_in file) ++ (over_check (head_in file) ∷ [])
table_own file (behind head left r) =
    cond (eqb (kind_at file (row_place head.members r)) end_kind) (end_checks file head left r) (row_checks file head left r)

abbrev pub table_onward : List ℕ → TableKnown → Option TableKnown
table_onward file opening = some (behind (head_in file) (rows_of (head_in file)) 0)
table_onward file (behind head left r) = cond (eqb (kind_at file (row_place head.members r)) end_kind) none (row_onward head left r)

abbrev pub table_reader : Reader TableKnown
table_reader = record { start = opening; place = table_place; allows = table_allows_at; fits = table_fits; own = table_own; onward = table_onward }

-- ---- an order file: the layers so far, and whether the last lift's thickness waits for its cure time

pub data OrderKnown : Type 0 where
  stacked : Stack → OrderKnown
  lifted : Stack → ℕ → OrderKnown

abbrev pub order_place : OrderKnown → ℕ
order_place (stacked read) = lift_place read.layers
order_place (lifted read t) = cure_place read.layers

abbrev pub order_allows_at : OrderKnown → ℕ → Bool
order_allows_at (stacked read) number = order.allowed_after read.layers number
order_allows_at (lifted read t) number = eqb number cure_kind

abbrev pub order_fits : OrderKnown → ℕ → ℕ → Bool
order_fits (stacked read) number length = order.fits number length
order_fits (lifted read t) number length = eqb length float_length

module _ (N T step : ℕ) (cures : List ℕ) where
  abbrev pub order_own : List ℕ → OrderKnown → List (Check Numbered)
  order_own file (stacked read) = cond (finishes file read.layers) (finish_checks N file read) (lift_checks N T step cures file read)
  order_own file (lifted read t) =
      unequal (le32 file (body_at (cure_place read.layers))) (cure_bits (cure_of cures t)) (cure_place read.layers) ∷ []

  abbrev pub order_onward : List ℕ → OrderKnown → Option OrderKnown
  order_onward file (stacked read) = cond (finishes file read.layers) none (some (lifted read (thickness_at T step cures file read)))
  order_onward file (lifted read t) = some (stacked (grown read t))

  abbrev pub order_reader : Reader OrderKnown
  order_reader = record {
    start = stacked no_layers;
    place = order_place;
    allows = order_allows_at;
    fits = order_fits;
    own = order_own;
    onward = order_onward;
  }
