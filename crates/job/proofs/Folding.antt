-- The fold over a file's records, from a place that is reached. What is left from there on decides, behind the columns on the way; a record that
-- passes leaves it so, and one that is at fault or the end settles it. Assumes nothing.
use mathlib.Core.Path.{◌≡◌, refl, sym, ap, ◌∙◌}
use mathlib.Core.List.{List, [], ◌++◌, append_assoc, append-nil}
use mathlib.Core.Option.{Option}
use Prim.Native.Nat.{ℕ, zero, suc, pred, ◌-◌, ◌<◌}
use native.Mathlib.Omega.{arith}
use lib.ListN.{length}
use Rattle.paper.specs.Layer.{Column}
use Rattle.plate.specs.Refusal.{Told, done, refused, Numbered}
use Rattle.job.specs.State.{start_state, asked_of}
use Rattle.job.specs.Record.{What, settings, column, ended, remark, Moved, read_record}
use Rattle.job.specs.Fold.{fold_from, fold_of}
use Rattle.job.specs.File.{Finished, Asking, unless, behind, column_in, job_by, job_over, endless, job_from}
use Rattle.job.specs.Reached.{Passes, Stops, Ends, Reached, start, further, columns_to}
use Rattle.job.specs.declared.Asked.{Asked}
use Rattle.job.specs.declared.State.{State}
use Rattle.job.proofs.Says.{Ahead, SaysBy, read-says}

behind-none : (t : Told Finished) → t ≡ behind [] t
behind-none (done f) = refl
behind-none (refused number place) = refl

behind-twice : (xs ys : List Column) (t : Told Finished) → behind xs (behind ys t) ≡ behind (xs ++ ys) t
behind-twice xs ys (done f) = ap (λ (l : List Column). done (record { job = record { asked = f.job.asked; columns = l }; past = f.past })) (sym (append_assoc xs ys f.job.columns))
behind-twice xs ys (refused number place) = refl

-- a job that ends at a place, with what its settings ask for and these columns
abbrev pub job_ending : Asked → List Column → ℕ → Finished
job_ending a columns past = record { job = record { asked = a; columns = columns }; past = past }

module _ (asking : Asking) (s : List ℕ) where
  -- ---- one record

  passes_on : (at : ℕ) (m : Moved) (t : Told What) → Passes asking at t → (rest : State → ℕ → Told Finished)
      → job_by asking t s at m rest ≡ behind (column_in s t) (rest m.state m.next)
  passes_on at m (done (settings a)) p rest = ap (λ (o : Option Numbered). unless o (rest m.state m.next)) p ∙ behind-none (rest m.state m.next)
  passes_on at m (done (column from count)) p rest = refl
  passes_on at m (done (ended columns)) p rest = absurd p
  passes_on at m (done remark) p rest = behind-none (rest m.state m.next)
  passes_on at m (refused number place) p rest = absurd p

  stops-file : (at : ℕ) (m : Moved) (t : Told What) (number place : ℕ) → Stops asking at t number place → (rest : State → ℕ → Told Finished)
      → job_by asking t s at m rest ≡ refused number place
  stops-file at m (done (settings a)) number place p rest = ap (λ (o : Option Numbered). unless o (rest m.state m.next)) p
  stops-file at m (done (column from count)) number place p rest = absurd p
  stops-file at m (done (ended columns)) number place p rest = absurd p
  stops-file at m (done remark) number place p rest = absurd p
  stops-file at m (refused n q) number place p rest = λ i. refused (p.0 i) (p.1 i)

  passes-ahead : (st : State) (at : ℕ) (m : Moved) (t : Told What) → Passes asking at t → SaysBy s st at m t → Ahead s at m.next
  passes-ahead st at m (done (settings a)) p q = q.ahead
  passes-ahead st at m (done (column from count)) p q = q.ahead
  passes-ahead st at m (done (ended columns)) p q = absurd p
  passes-ahead st at m (done remark) p q = q.ahead
  passes-ahead st at m (refused number place) p q = absurd p

  -- a record that passes ends further on in the file
  pub goes_on : (st : State) (at : ℕ) → Passes asking at (read_record s st at).told → Ahead s at (read_record s st at).next
  goes_on st at p = passes-ahead st at (read_record s st at) (read_record s st at).told p (read-says s st at).by

  -- ---- a place that is reached

  -- what is left from there on decides, behind these columns; `n` bounds the records left
  pub record Left (columns : List Column) (st : State) (at : ℕ) : Type 0 where
    pub n : ℕ
    pub enough : length s - at < n
    pub same : job_from asking s ≡ behind columns (fold_from (job_over asking) endless n s st at)

  unrolled : (st : State) (at n : ℕ) → length s - at < n
      → fold_from (job_over asking) endless n s st at ≡ job_over asking s at (read_record s st at) (fold_from (job_over asking) endless (pred n) s)
  unfolding fold_from
  unrolled st at zero l = absurd (omega arith)
  unrolled st at (suc n) l = refl

  all_left : Left [] start_state 0
  unfolding job_from fold_of
  all_left = record { n = suc (length s); enough = omega arith; same = behind-none _ }

  module _ {columns : List Column} {st : State} {at : ℕ} (l : Left columns st at) where
    abbrev m : Moved
    m = read_record s st at

    abbrev rest : State → ℕ → Told Finished
    rest = fold_from (job_over asking) endless (pred l.n) s

    -- the record there decides, with the rest
    decides : job_from asking s ≡ behind columns (job_over asking s at m rest)
    decides = l.same ∙ ap (behind columns) (unrolled st at l.n l.enough)

    one_less : Passes asking at m.told → Left (columns ++ column_in s m.told) m.state m.next
    one_less p = record {
      n = pred l.n;
      enough = let a = goes_on st at p in omega (arith, l.enough, a.on, a.within);
      same = decides ∙ ap (behind columns) (passes_on at m m.told p rest) ∙ behind-twice columns (column_in s m.told) (rest m.state m.next);
    }

  pub left : {st : State} {at : ℕ} (r : Reached asking s st at) → Left (columns_to r) st at
  left start = all_left
  left (further r p) = one_less (left r) p

  module _ {st : State} {at : ℕ} (r : Reached asking s st at) where
    pub stopped : (number place : ℕ) → Stops asking at (read_record s st at).told number place → job_from asking s ≡ refused number place
    stopped number place p =
        decides (left r) ∙ ap (behind (columns_to r)) (stops-file at (read_record s st at) (read_record s st at).told number place p (rest (left r)))

    pub ended-there : Ends (read_record s st at).told → job_from asking s ≡ done (job_ending (asked_of (read_record s st at).state) (columns_to r) (read_record s st at).next)
    ended-there e =
        decides (left r)
        ∙ ap (behind (columns_to r)) (ap (λ (t : Told What). job_by asking t s at (read_record s st at) (rest (left r))) e.1)
        ∙ ap (λ (l : List Column). done (job_ending (asked_of (read_record s st at).state) l (read_record s st at).next)) (append-nil (columns_to r))
