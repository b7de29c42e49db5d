-- Document 02 f): each format by its laws and by how its first record at fault decides; and a record of a job file that is read by itself, in whatever state, by
-- the same split of one record and by the same bodies. Assumes nothing.
use mathlib.Core.Path.{◌≡◌, refl, sym, ap, subst, ◌∙◌}
use mathlib.Core.Logic.{◌↔◌, inl, inr}
use mathlib.Core.Bool.{Bool, true, false, not, cond, ◌||◌}
use mathlib.Core.List.{List, [], ◌∷◌, ◌++◌}
use mathlib.Core.Option.{Option, none, some}
use Prim.Native.Nat.{ℕ, ◌<◌}
use native.Mathlib.Omega.{arith}
use borrow.Author.Tests.{lt-ltb, ltb-true}
use lib.Dec.{ltb}
use lib.ListN.{length}
use Rattle.lists.specs.Checks.{Check, first}
use Rattle.lists.proofs.Checks.{first-passed, first-stopped}
use Rattle.plate.specs.Call.{answer_of}
use Rattle.plate.specs.Refusal.{Told, done, refused, Numbered, told_by, decided}
use Rattle.plate.proofs.Decided.{refused-first, decided-stopped}
use Rattle.table.specs.Table.{short}
use Rattle.plate.specs.Head.{Held, held_in, cells_of, cleared_head}
use Rattle.record.specs.Bytes.{Bytes}
use Rattle.record.specs.Frame.{length_at}
use Rattle.record.specs.Faults.{tail, frame_checks, Framed}
use Rattle.job.specs.Kinds.{kind_of, allowed_here, fits}
use Rattle.job.specs.Record.{body_checks, kind_checks, record_kind, record_checks, reading_at}
use Rattle.job.specs.declared.Kind.{Kind}
use Rattle.job.specs.declared.Kind.TheVariants as kind
use Rattle.job.specs.declared.State.{State}
use Rattle.job.specs.File.{Job}
use Rattle.load.specs.Load.{job_of, load_of, loading, load_answer}
use Rattle.sent.specs.File.{head_in, cells_in, file_checks, table_file}
use Rattle.receive.specs.Receiving.{receiving, read_answer}
use Rattle.orders.specs.Reading.{reading_order}
use Rattle.promises.specs.Orders.{is_one_of, body_line}
use Rattle.promises.specs.Reader.{RunsOut}
use Rattle.promises.specs.Faults.{read_alone, RecordAlone, Faults}
use Rattle.promises.proofs.Refusals.{record-told}
use Rattle.promises.proofs.Orders.{body-numbers}
use Rattle.promises.proofs.Longer.{tail-longer}
use Rattle.promises.proofs.Lawful.{NotOfFrame}
use Rattle.promises.proofs.Split.{said, said-number, said-place, clash, not-of-frame, sixteen, nineteen, twenty, twenty-one}
use Rattle.promises.proofs.Outlook.{ones, bytes-with-ones, lacking, filled, Mended, mended, fault-longer}
use Rattle.promises.proofs.WhichWay.{both, which-way}
use Rattle.promises.proofs.FaultJobs.{body-longer, kind-same, unknown-barred, job-lawful}
use Rattle.promises.proofs.FaultFiles.{job-decides}
use Rattle.promises.proofs.FaultTables.{table-lawful, table-decides}
use Rattle.promises.proofs.FaultOrders.{order-lawful, order-decides}

-- ---- a record by itself

abbrev right : List ℕ → ℕ → Bool
right s at = fits (record_kind s at) (length_at s at)

module _ (s : List ℕ) (st : State) (at : ℕ) where
  abbrev body : List (Check Numbered)
  body = body_checks s st at (record_kind s at)

  -- what it is refused with is what the first of its checks says
  by-checks : (number place : ℕ) → (read_alone st at s ≡ refused number place) ↔ (first (record_checks s st at) ≡ some (said number place))
  by-checks number place = (
    λ e. refused-first (record_checks s st at) (reading_at s st at).what number place (sym (record-told s st at) ∙ e),
    λ e. record-told s st at ∙ ap (λ (o : Option Numbered). told_by o (reading_at s st at).what) e,
  )

  asked-after : st.ended ≡ true → record_checks s st at ≡ tail s at ∷ []
  unfolding record_checks
  asked-after e = ap (λ (b : Bool). cond b (tail s at ∷ []) (kind_checks s st at (record_kind s at))) e

  asked-before : st.ended ≡ false → record_checks s st at ≡ frame_checks s at (allowed_here st (record_kind s at)) (right s at) ++ body
  unfolding record_checks kind_checks
  asked-before e = ap (λ (b : Bool). cond b (tail s at ∷ []) (kind_checks s st at (record_kind s at))) e

  by-list : (cs : List (Check Numbered)) → record_checks s st at ≡ cs → (number place : ℕ) → (read_alone st at s ≡ refused number place) ↔ (first cs ≡ some (said number place))
  by-list cs e number place = both (by-checks number place) (λ q. ap first (sym e) ∙ q, λ q. ap first e ∙ q)

  body-bare : (r : Numbered) → first body ≡ some r → NotOfFrame r.number
  body-bare = not-of-frame body (body_line (record_kind s at)) (body-numbers s st at (record_kind s at)) (go (record_kind s at))
    where
      go : (k : Kind) → is_one_of 16 (body_line k) || (is_one_of 19 (body_line k) || is_one_of 20 (body_line k)) ≡ false
      go kind.Settings = refl
      go kind.Column = refl
      go kind.End = refl
      go kind.Remark = refl
      go kind.Refused = refl

  left_over : (number place : ℕ) → (first (tail s at ∷ []) ≡ some (said number place)) ↔ ((number ≡ 21) × (place ≡ at) × (at < length s))
  left_over number place = (λ e. to (ltb at (length s)) refl e, λ x. rw (lt-ltb at (length s) x.2) (λ i. some (said (sym x.0 i) (sym x.1 i))))
    where
      to : (b : Bool) → ltb at (length s) ≡ b → cond b (some (tail s at).says) none ≡ some (said number place) → (number ≡ 21) × (place ≡ at) × (at < length s)
      to true h e = (sym (said-number e), sym (said-place e), ltb-true at (length s) h)
      to false h e = absurd (let z : ◌≡◌ {A = ℕ} 0 1 = cc in omega arith)

  same_test : (other : State) → st.begun ≡ other.begun → (k : Kind) → allowed_here st k ≡ allowed_here other k
  same_test other e kind.Settings = ap not e
  same_test other e kind.Column = e
  same_test other e kind.End = e
  same_test other e kind.Remark = refl
  same_test other e kind.Refused = refl

-- what a longer input changes
module _ (st : State) (at : ℕ) where
  abbrev allows : ℕ → Bool
  allows number = allowed_here st (kind_of number)

  abbrev fitting : ℕ → ℕ → Bool
  fitting number long = fits (kind_of number) long

  final : (s : List ℕ) (number place : ℕ) → read_alone st at s ≡ refused number place → (number ≡ 16 → ⊥) → (more : List ℕ)
      → read_alone st at (s ++ more) ≡ refused number place
  final s number place e other more = go st.ended refl
    where
      body_same : Framed s at (allowed_here st (record_kind s at)) (right s at) → (r : Numbered) → first (body s st at) ≡ some r → first (body (s ++ more) st at) ≡ some r
      body_same f r q =
          ap (λ (k : Kind). first (body_checks (s ++ more) st at k)) (kind-same s more st at (omega (arith, f.within)))
          ∙ ap first (body-longer s more st at (record_kind s at) f) ∙ q

      go : (b : Bool) → st.ended ≡ b → read_alone st at (s ++ more) ≡ refused number place
      go true h =
          (by-list (s ++ more) st at (tail (s ++ more) at ∷ []) (asked-after (s ++ more) st at h) number place).1
          (tail-longer s more [] at (said number place) ((by-list s st at (tail s at ∷ []) (asked-after s st at h) number place).0 e))
      go false h =
          (by-list (s ++ more) st at _ (asked-before (s ++ more) st at h) number place).1
          (fault-longer at allows fitting s more (body s st at) (body (s ++ more) st at) body_same (said number place)
          ((by-list s st at _ (asked-before s st at h) number place).0 e) other)

  open-ended : (s : List ℕ) → Bytes s → (place : ℕ) → read_alone st at s ≡ refused 16 place
      → (more : List ℕ) × Bytes (s ++ more) × ((other : ℕ) → read_alone st at (s ++ more) ≡ refused 16 other → ⊥)
  open-ended s byte place e = go st.ended refl
    where
      long : List ℕ
      long = filled at allows fitting s

      Answered : Type 0
      Answered = (more : List ℕ) × Bytes (s ++ more) × ((other : ℕ) → read_alone st at (s ++ more) ≡ refused 16 other → ⊥)

      no-lack : Mended at allows fitting s byte (unknown-barred 0 st) → RunsOut long at (allowed_here st (record_kind long at)) (right long at) → ⊥
      no-lack (inl (h, a)) (inl l) = omega arith
      no-lack (inl (h, a)) (inr (h', b, r, p)) = clash b a
      no-lack (inr (f, low, high)) (inl l) = omega (arith, f.within)
      no-lack (inr (f, low, high)) (inr (h, b, r, p)) = omega (arith, f.within)

      go : (b : Bool) → st.ended ≡ b → Answered
      go true h =
          let x = (left_over s st at 16 place).0 ((by-list s st at (tail s at ∷ []) (asked-after s st at h) 16 place).0 e) in
          absurd (omega (arith, x.0))
      go false h =
          let w = (sixteen s at (allowed_here st (record_kind s at)) (right s at) (body s st at) (body-bare s st at) place).0 ((by-list s st at _ (asked-before s st at h) 16 place).0 e) in
          let m = mended at allows fitting s byte (unknown-barred 0 st) (subst (λ (p : ℕ). RunsOut s p (allowed_here st (record_kind s at)) (right s at)) (sym w.0) w.1) in (
            ones (lacking at allows fitting s),
            bytes-with-ones s (lacking at allows fitting s) byte,
            λ other q.
                let v = (sixteen long at (allowed_here st (record_kind long at)) (right long at) (body long st at) (body-bare long st at) other).0 ((by-list long st at _ (asked-before long st at h) 16 other).0 q) in
                no-lack m (subst (λ (p : ℕ). RunsOut long p (allowed_here st (record_kind long at)) (right long at)) (sym v.0) v.1),
          )

pub record-alone : (s : List ℕ) (st : State) (at : ℕ) → RecordAlone s st at
record-alone s st at =
    let allowed = allowed_here st (record_kind s at) in record {
      after-end = λ h number place. both (by-list s st at (tail s at ∷ []) (asked-after s st at h) number place) (left_over s st at number place);
      ran_out = λ h place. both (by-list s st at _ (asked-before s st at h) 16 place) (sixteen s at allowed (right s at) (body s st at) (body-bare s st at) place);
      wrong-kind = λ h place. both (by-list s st at _ (asked-before s st at h) 19 place) (nineteen s at allowed (right s at) (body s st at) (body-bare s st at) place);
      wrong-length = λ h place. both (by-list s st at _ (asked-before s st at h) 20 place) (twenty s at allowed (right s at) (body s st at) (body-bare s st at) place);
      disagrees = λ h place. both (by-list s st at _ (asked-before s st at h) 21 place) (twenty-one s at allowed (right s at) (body s st at) place);
      kind-test = λ other e. same_test s st at other e (record_kind s at);
      outlook = record { final = final st at s; open-ended = open-ended st at s };
    }

-- ---- the calls that read a file into a lent table

-- the table's length is 3
short-only : (held : Held) (which number place : ℕ) → (number ≡ 3 → ⊥) → first (short held which ∷ []) ≡ some (said number place) → ⊥
unfolding short
short-only held which number place other e = go (ltb (length held.buffer) (cells_of held.head)) e
  where
    go : (b : Bool) → cond b (some (said 3 which)) none ≡ some (said number place) → ⊥
    go true q = other (sym (said-number q))
    go false q = let z : ◌≡◌ {A = ℕ} 0 1 = cc in omega arith

job-call : (most : ℕ) (file lent : List ℕ) (number place : ℕ) → (number ≡ 3 → ⊥)
    → (load_answer lent (job_of most file) ≡ refused number place) ↔ (job_of most file ≡ refused number place)
unfolding loading
job-call most file lent number place other = (to (job_of most file), λ e. ap (load_answer lent) e)
  where
    to : (told : Told Job) → load_answer lent told ≡ refused number place → told ≡ refused number place
    to (done job) e =
        let table = held_in (cleared_head job.asked.height job.asked.members) lent in
        absurd (short-only table 1 number place other (refused-first (short table 1 ∷ []) (load_of job) number place e))
    to (refused n p) e = let a : n ≡ number = cc in let b : p ≡ place = cc in λ i. refused (a i) (b i)

table-call : (file lent : List ℕ) (number place : ℕ) → (number ≡ 3 → ⊥) → (read_answer file lent ≡ refused number place) ↔ (table_file file ≡ refused number place)
unfolding table_file receiving
table-call file lent number place other = (λ e. to (first (file_checks file)) refl e, from)
  where
    table : List (Check Numbered)
    table = short (held_in (head_in file) lent) 1 ∷ []

    held : Held
    held = held_in (head_in file) (cells_in file)

    to : (o : Option Numbered) → first (file_checks file) ≡ o → decided (file_checks file ++ table) (head_in file) ≡ refused number place → decided (file_checks file) held ≡ refused number place
    to none f e =
        absurd (short-only (held_in (head_in file) lent) 1 number place other
        (sym (first-passed (file_checks file) table f) ∙ refused-first (file_checks file ++ table) (head_in file) number place e))
    to (some r) f e =
        ap (λ (o : Option Numbered). told_by o held) (f ∙ sym (first-stopped (file_checks file) table r f) ∙ refused-first (file_checks file ++ table) (head_in file) number place e)

    from : decided (file_checks file) held ≡ refused number place → decided (file_checks file ++ table) (head_in file) ≡ refused number place
    from e = decided-stopped (file_checks file) table (head_in file) (said number place) (refused-first (file_checks file) held number place e)

-- DOCUMENT 02 F)
pub faults : Faults
faults = record {
  job = λ most file. which-way (job-lawful most) (job_of most) (job-decides most) file;
  table = λ file. which-way table-lawful table_file table-decides file;
  order = λ N T step cures l number file.
      which-way (order-lawful N T step cures) (λ (f : List ℕ). answer_of (reading_order N T step cures f number)) (order-decides N T step cures l number) file;
  record-alone = record-alone;
  job-call = job-call;
  table-call = table-call;
}
