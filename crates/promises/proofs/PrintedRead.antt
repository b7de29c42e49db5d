-- Reading an order file. What is lent is in order, so that the checks of the file decide: where they pass, the file is that of a sequence, and every
-- sequence with this file has the same records, so that the order is the same whichever is taken; where one holds, its place is the fault's, of
-- which there is one only. Assumes nothing.
use mathlib.Core.Path.{◌≡◌, refl, sym, ap, subst, ◌∙◌}
use mathlib.Core.Logic.{inl, inr}
use mathlib.Core.List.{List, [], ◌∷◌}
use mathlib.Core.Option.{Option, none}
use Prim.Native.Nat.{ℕ}
use native.Mathlib.Omega.{arith}
use borrow.Author.Tests.{le-ltb}
use lib.Dec.{ltb}
use lib.IntN.{ℤ}
use lib.ListN.{length}
use Rattle.lists.specs.Checks.{first}
use Rattle.lists.proofs.Checks.{first-passed}
use Rattle.paper.specs.Layer.{tmax}
use Rattle.plate.specs.Call.{answer_of}
use Rattle.plate.specs.Refusal.{Told, done, refused, Numbered, told_by, check}
use Rattle.plate.specs.Settings.{settings_checks}
use Rattle.plate.proofs.Decided.{decided-passed}
use Rattle.column.proofs.Fine.{settings-fine}
use Rattle.motor.specs.Height.{step_check}
use Rattle.record.specs.Bytes.{Bytes}
use Rattle.printed.specs.Records.{Record, orders}
use Rattle.printed.specs.Paper.{Orderable, Printed, file_of}
use Rattle.printed.specs.Bytes.{bytes_of, Accepted, FaultAt}
use Rattle.printed.proofs.Bytes.{accepted-once, fault-unique}
use Rattle.orders.specs.Written.{record_bytes, order_bytes}
use Rattle.orders.specs.Order.{order_of, record_at}
use Rattle.orders.specs.File.{file_checks, layers_in}
use Rattle.orders.specs.Lent.{lent_checks}
use Rattle.orders.specs.Reading.{order_in, reading_order}
use Rattle.orders.specs.declared.Order.{Order}
use Rattle.promises.specs.Printing.{Lent, ReadsExactly}
use Rattle.promises.proofs.PrintedRecords.{distinct}
use Rattle.promises.proofs.PrintedFiles.{Outcome, file-judged}

pub lent-fine : {N T step : ℕ} {cures : List ℕ} → Lent N T step cures → first (lent_checks N T step cures) ≡ none
unfolding lent_checks
lent-fine {N} {T} {step} {cures} l =
    first-passed (settings_checks N T) (step_check step ∷ check 3 (ltb (length cures) (tmax T)) 1 ∷ []) (settings-fine N T l.settings)
    ∙ simp (le-ltb step 1 l.step_from, le-ltb 8192 step l.step-to, le-ltb (length cures) (tmax T) l.listed)

module _ {N T step : ℕ} {cures : List ℕ} (l : Lent N T step cures) (file : List ℕ) (byte : Bytes file) (number : ℕ) where
  abbrev read : List Record
  read = orders cures (layers_in T step cures file)

  abbrev answer : Told Order
  answer = answer_of (reading_order N T step cures file number)

  answered : (o : Option Numbered) → first (file_checks N T step cures file) ≡ o → answer ≡ told_by o (order_of step (record_at read number))
  unfolding reading_order order_in
  answered o e =
      decided-passed (lent_checks N T step cures) (file_checks N T step cures file) (order_in T step cures file number) (lent-fine l)
      ∙ ap (λ (o : Option Numbered). told_by o (order_in T step cures file number)) e

  done_refused : {x : Order} {n place : ℕ} → answer ≡ done x → answer ≡ refused n place → ⊥
  done_refused p q = let z : ◌≡◌ {A = ℕ} 0 1 = cc in omega arith

  abbrev Sequence : Order → Type 0
  Sequence o = (zs : List ℤ) × Orderable N T cures zs × (order_bytes step cures zs ≡ file) × (o ≡ order_of step (record_at (file_of cures zs) number))

  accepted : (o : Order) → Sequence o → Accepted N T cures (record_bytes step) file
  unfolding order_bytes
  accepted o a = record { records = file_of cures a.0; printed = record { sequence = a.0; orderable = a.1; same = refl }; same = a.2 }

  -- the file is read
  module _ (printed : Printed N T cures read) (same : bytes_of (record_bytes step) read ≡ file) (e : answer ≡ done (order_of step (record_at read number))) where
    done-sequence : (o : Order) → answer ≡ done o → Sequence o
    unfolding order_bytes
    done-sequence o q =
        let zs = printed.sequence in
        let x : o ≡ order_of step (record_at read number) = cc in
        (zs, printed.orderable, ap (bytes_of (record_bytes step)) printed.same ∙ same, x ∙ ap (λ (rs : List Record). order_of step (record_at rs number)) (sym printed.same))

    sequence-done : (o : Order) → Sequence o → answer ≡ done o
    unfolding order_bytes
    sequence-done o a =
        let b : Accepted N T cures (record_bytes step) file = record { records = read; printed = printed; same = same } in
        let c : Accepted N T cures (record_bytes step) file = record { records = file_of cures a.0; printed = record { sequence = a.0; orderable = a.1; same = refl }; same = a.2 } in
        let x : read ≡ file_of cures a.0 = accepted-once N T cures (record_bytes step) (distinct l) l.settings.least-height file b c in
        e ∙ ap (λ (rs : List Record). done (order_of step (record_at rs number))) x ∙ ap done (sym a.3)

  pub reads-exactly : ReadsExactly N T step cures file number
  reads-exactly = go (file-judged l file byte)
    where
      go : Outcome l file byte (first (file_checks N T step cures file)) read → ReadsExactly N T step cures file number
      go (inl v) =
          let r : answer ≡ refused v.0.number v.0.place = answered _ v.1 in record {
            accepts = λ o. (λ q. absurd (done_refused q r), λ a. absurd (v.2.none (accepted o a)));
            refuses = λ place. (
              λ q.
                  let s : refused v.0.number v.0.place ≡ refused q.0 place = sym r ∙ q.1 in
                  subst (FaultAt N T cures (record_bytes step) file) (let i : v.0.place ≡ place = cc in i) v.2,
              λ a. (v.0.number, r ∙ ap (refused v.0.number) (fault-unique N T cures (record_bytes step) file v.0.place place v.2 a)),
            );
          }
      go (inr v) =
          let r = answered none v.0 in record {
            accepts = λ o. (done-sequence v.1 v.2 r o, sequence-done v.1 v.2 r o);
            refuses = λ place. (
              λ q. absurd (done_refused r q.1),
              λ a. absurd (a.none (record { records = read; printed = v.1; same = v.2 })),
            );
          }
