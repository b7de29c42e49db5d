-- Read, then written. A record that is read, and is no remark, has the very bytes that are written of what was found in it; so, record by
-- record, a file without remarks is what is written of its job. Assumes nothing.
use mathlib.Core.Path.{◌≡◌, refl, sym, ap, subst, ◌∙◌}
use mathlib.Core.Bool.{Bool, true, false, cond}
use mathlib.Core.List.{List, [], ◌∷◌, ◌++◌, append_assoc, append-nil}
use mathlib.Core.Option.{Option, none, some}
use Prim.Native.Nat.{ℕ, zero, suc, ◌+◌, ◌*◌, ◌%◌, ◌≤◌}
use native.Mathlib.Omega.{arith}
use borrow.Author.Tests.{ltb-false, eqb-true}
use lib.Dec.{leb, eqb}
use lib.ListN.{length, drop, drop_of_length-le}
use Rattle.lists.specs.Checks.{first}
use Rattle.lists.proofs.Checks.{first-none, first-earlier}
use Rattle.paper.specs.Layer.{column_of}
use Rattle.plate.specs.Refusal.{Told, done, refused, Numbered, told_by}
use Rattle.record.specs.Bytes.{Bytes, words}
use Rattle.record.specs.Frame.{length_at, kind_at, body_at, past_at}
use Rattle.record.specs.Faults.{tail, frame_checks}
use Rattle.record.specs.Written.{bytes16, bytes32, bytes_of}
use Rattle.record.proofs.Frames.{frame-passed}
use Rattle.record.proofs.Spelled.{joined, write16, write32, write_words, write_frame}
use Rattle.job.specs.State.{start_state, asked_of}
use Rattle.job.specs.Kinds.{settings_kind, column_kind, end_kind, first_remark, kind_of, allowed_here, fits}
use Rattle.job.specs.Record.{asked_at, count_at, columns_at, body_checks, kind_checks, record_kind, record_checks, What, settings, column, ended, remark, reading_of, again, Moved, moved, read_record}
use Rattle.job.specs.Fold.{fold_from, fold_of}
use Rattle.job.specs.File.{Job, Finished, Asking, unless, behind, job_by, job_over, endless, job_from, whole_file}
use Rattle.job.specs.Written.{settings_record, column_record, end_record, column_records, written}
use Rattle.job.specs.Remarks.{remark_by, remark_over, remarks_in}
use Rattle.job.specs.declared.Asked.{Asked}
use Rattle.job.specs.declared.State.{State}
use Rattle.job.specs.declared.Kind.{Kind}
use Rattle.job.specs.declared.Kind.TheVariants as kind
use Rattle.job.proofs.Says.{SaysBy, read-says}
use Rattle.job.proofs.Folding.{job_ending}
use Rattle.job.proofs.Ordering.{behind-done, stay}
use Rattle.job.proofs.Whole.{front_of_lem}

-- ---- one record

-- the number of a kind that is written
abbrev NumberIs : Kind → ℕ → Type 0
NumberIs kind.Settings number = number ≡ settings_kind
NumberIs kind.Column number = number ≡ column_kind
NumberIs kind.End number = number ≡ end_kind
NumberIs kind.Remark number = Unit {0}
NumberIs kind.Refused number = Unit {0}

kind-number : (number : ℕ) → NumberIs (kind_of number) number
kind-number n = go (eqb n settings_kind) refl (eqb n column_kind) refl (eqb n end_kind) refl (leb first_remark n)
  where
    go : (a : Bool) → eqb n settings_kind ≡ a → (b : Bool) → eqb n column_kind ≡ b → (c : Bool) → eqb n end_kind ≡ c → (d : Bool)
        → NumberIs (cond a kind.Settings (cond b kind.Column (cond c kind.End (cond d kind.Remark kind.Refused)))) n
    go true p b q c r d = eqb-true n settings_kind p
    go false p true q c r d = eqb-true n column_kind q
    go false p false q true r d = eqb-true n end_kind r
    go false p false q false r true = tt
    go false p false q false r false = tt

-- from a place on: the bytes that are written of what was found there, and then the rest
abbrev SpeltBy : List ℕ → ℕ → ℕ → Told What → Type 0
SpeltBy s at next (done (settings a)) = drop at s ≡ settings_record a ++ drop next s
SpeltBy s at next (done (column start count)) = drop at s ≡ column_record (column_of (words s start count)) ++ drop next s
SpeltBy s at next (done (ended columns)) = drop at s ≡ end_record columns ++ drop next s
SpeltBy s at next (done remark) = Unit {0}
SpeltBy s at next (refused number place) = Unit {0}

record Spelt (s : List ℕ) (at : ℕ) (m : Moved) : Type 0 where
  by : SpeltBy s at m.next m.told

module _ (s : List ℕ) (byte : Bytes s) where
  module _ (st : State) (at : ℕ) where
    reading-spelt : (k : Kind) → fits k (length_at s at) ≡ true → past_at s at ≤ length s → NumberIs k (kind_at s at) → Spelt s at (moved st at (done (reading_of s st at k)))
    unfolding settings_record column_record end_record bytes32 bytes16
    reading-spelt kind.Settings f w k =
        let l = eqb-true (length_at s at) 10 f in
        let a = asked_at s at in
        let x : body_at at + 2 + 4 ≡ body_at at + 6 = omega arith in
        let y : body_at at + 6 + 4 ≡ past_at s at = omega arith in
        let b = write16 s byte (body_at at) (omega arith) in
        let c = rw x at (write32 s byte (body_at at + 2) (omega arith)) in
        let d = rw y at (write32 s byte (body_at at + 6) (omega arith)) in
        record {
          by = write_frame s byte at settings_kind (bytes16 a.height ++ (bytes32 a.members ++ bytes32 a.bound)) w k
              (joined s (bytes16 a.height) (bytes32 a.members ++ bytes32 a.bound) (body_at at) (body_at at + 2) (past_at s at) b
              (joined s (bytes32 a.members) (bytes32 a.bound) (body_at at + 2) (body_at at + 6) (past_at s at) c d));
        }
    reading-spelt kind.Column f w k =
        let l = eqb-true (length_at s at % 2) 0 f in
        let y : body_at at + 2 * count_at s at ≡ past_at s at = omega arith in
        record { by = write_frame s byte at column_kind (bytes_of (words s (body_at at) (count_at s at))) w k (rw y at (write_words s byte (count_at s at) (body_at at) (omega arith))) }
    reading-spelt kind.End f w k =
        let l = eqb-true (length_at s at) 4 f in
        let y : body_at at + 4 ≡ past_at s at = omega arith in
        record { by = write_frame s byte at end_kind (bytes32 (columns_at s at)) w k (rw y at (write32 s byte (body_at at) (omega arith))) }
    reading-spelt kind.Remark f w k = record { by = tt }
    reading-spelt kind.Refused f w k = record { by = tt }

    kind-spelt : (k : Kind) → NumberIs k (kind_at s at) → Spelt s at (moved st at (told_by (first (kind_checks s st at k)) (reading_of s st at k)))
    unfolding kind_checks
    kind-spelt k n = go (first (kind_checks s st at k)) refl
      where
        go : (o : Option Numbered) → first (kind_checks s st at k) ≡ o → Spelt s at (moved st at (told_by o (reading_of s st at k)))
        go none e =
            let allowed = allowed_here st k in
            let right = fits k (length_at s at) in
            let f = frame-passed s at allowed right (first-earlier (frame_checks s at allowed right) (body_checks s st at k) e) in
            reading-spelt k f.fits f.within n
        go (some r) e = record { by = tt }

    read-spelt : st.ended ≡ false → Spelt s at (read_record s st at)
    unfolding read_record record_checks
    read-spelt running = go st.ended running
      where
        go : (b : Bool) → b ≡ false
            → Spelt s at (moved st at (told_by (first (cond b (tail s at ∷ []) (kind_checks s st at (record_kind s at)))) (cond b (again st at) (reading_of s st at (record_kind s at)))))
        go true f = absurd (let z : ◌≡◌ {A = ℕ} 0 1 = cc in omega arith)
        go false f = kind-spelt (record_kind s at) (kind-number (kind_at s at))

-- ---- the whole file

unless-done : (o : Option Numbered) (t : Told Finished) (f : Finished) → unless o t ≡ done f → t ≡ done f
unless-done none t f e = e
unless-done (some r) t f e = absurd (let z : ◌≡◌ {A = ℕ} 0 1 = cc in omega arith)

-- the settings, where they are yet to come
abbrev opening : Bool → Asked → List ℕ
opening true a = []
opening false a = settings_record a

module _ (asking : Asking) (s : List ℕ) (byte : Bytes s) where
  -- what is left of the file is what is written of what is left of the job, and what stands past it
  record Rest (st : State) (at : ℕ) (f : Finished) : Type 0 where
    bytes : drop at s ≡ opening st.begun f.job.asked ++ (column_records f.job.columns ++ (end_record (st.head.columns + length f.job.columns) ++ drop f.past s))

  -- of one record, where it is so of what is read after it, and the settings that were read stay
  module _ (st : State) (at : ℕ) (running : st.ended ≡ false) (m : Moved) (rest : State → ℕ → Told Finished) (remarks : State → ℕ → ℕ)
      (stays : (st' : State) (at' : ℕ) → st'.begun ≡ true → (f : Finished) → rest st' at' ≡ done f → f.job.asked ≡ asked_of st')
      (later : (st' : State) (at' : ℕ) → st'.ended ≡ false → (f : Finished) → rest st' at' ≡ done f → remarks st' at' ≡ 0 → Rest st' at' f) where
    one : (t : Told What) → SaysBy s st at m t → SpeltBy s at m.next t → (f : Finished) → job_by asking t s at m rest ≡ done f → remark_by t s at m remarks ≡ 0 → Rest st at f
    unfolding column_records
    one (done (settings a)) p x f e r =
        let q = unless-done (first (asking at a)) (rest m.state m.next) f e in
        let b = stays m.state m.next (ap (λ (st' : State). st'.begun) p.state) f q ∙ ap asked_of p.state in
        let h = subst (λ (st' : State). Rest st' m.next f) p.state (later m.state m.next (ap (λ (st' : State). st'.ended) p.state ∙ running) f q r) in
        record { bytes = rw (p.first-of-all, b, ← h.bytes) x }
    one (done (column start count)) p x f e r =
        let c = column_of (words s start count) in
        let q = behind-done asking s (c ∷ []) (rest m.state m.next) f e in
        let g = q.0 in
        let h = subst (λ (st' : State). Rest st' m.next g) p.state (later m.state m.next (ap (λ (st' : State). st'.ended) p.state ∙ running) g q.1 r) in
        let is : job_ending g.job.asked (c ∷ g.job.columns) g.past ≡ f = (let y = sym (ap (behind (c ∷ [])) q.1) ∙ e in cc) in
        let columns = column_records g.job.columns in
        let end = end_record (st.head.columns + suc (length g.job.columns)) ++ drop g.past s in
        let z : st.head.columns + 1 + length g.job.columns ≡ st.head.columns + suc (length g.job.columns) = omega arith in
        let w : drop m.next s ≡ columns ++ end = rw (p.begun, z) at h.bytes in
        subst (Rest st at) is (record { bytes = rw p.begun (x ∙ ap (λ (l : List ℕ). column_record c ++ l) w ∙ sym (append_assoc (column_record c) columns end)) })
    one (done (ended columns)) p x f e r =
        let g : job_ending (asked_of m.state) [] m.next ≡ f = cc in
        let z : columns ≡ st.head.columns + 0 = omega (arith, p.counts) in
        subst (Rest st at) g (record { bytes = rw (p.begun running) (x ∙ ap (λ (k : ℕ). end_record k ++ drop m.next s) z) })
    one (done remark) p x f e r = absurd (omega arith)
    one (refused number place) p x f e r = absurd (let z : ◌≡◌ {A = ℕ} 0 1 = cc in omega arith)

  all : (n : ℕ) (st : State) (at : ℕ) → st.ended ≡ false → (f : Finished) → fold_from (job_over asking) endless n s st at ≡ done f → fold_from remark_over 0 n s st at ≡ 0 → Rest st at f
  unfolding fold_from
  all zero st at running f e r = absurd (let z : ◌≡◌ {A = ℕ} 0 1 = cc in omega arith)
  all (suc n) st at running f e r =
      let m = read_record s st at in
      one st at running m (fold_from (job_over asking) endless n s) (fold_from remark_over 0 n s) (stay asking s n) (all n) m.told (read-says s st at).by (read-spelt s byte st at running).by f e r

  at-end : (at : ℕ) → first (tail s at ∷ []) ≡ none → drop at s ≡ []
  at-end at e = drop_of_length-le s (ltb-false at (length s) ((first-none (tail s at ∷ [])).0 e).0)

  -- WRITE AFTER READ
  pub written_back : (job : Job) → whole_file asking s ≡ done job → remarks_in s ≡ 0 → written job ≡ s
  unfolding job_from remarks_in fold_of written
  written_back job e r =
      let f = front_of_lem asking s job e in
      let b = (all (suc (length s)) start_state 0 refl f.found f.is r).bytes in
      let columns = f.found.job.columns in
      let z : 0 + length columns ≡ length columns = omega arith in
      ap written (sym f.job_is) ∙ sym (rw (z, at-end f.found.past f.nothing-past, append-nil (end_record (length columns))) at b)
