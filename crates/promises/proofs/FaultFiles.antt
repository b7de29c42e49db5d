-- The first record of a job file at fault decides. Crate `job` has it by its own words for what a record is; here they are one list of checks, a record's and
-- what is asked besides. Before the end a record that passes was read as what its kind is, and so goes on or ends. Assumes nothing.
use mathlib.Core.Path.{◌≡◌, refl, sym, ap, subst, ◌∙◌}
use mathlib.Core.Logic.{◌↔◌, ◌⊎◌, inl, inr}
use mathlib.Core.Bool.{Bool, false, cond}
use mathlib.Core.List.{List, [], ◌∷◌, ◌++◌, append_assoc}
use mathlib.Core.Option.{Option, none, some}
use Prim.Native.Nat.{ℕ}
use native.Mathlib.Omega.{arith}
use Rattle.lists.specs.Checks.{Check, first}
use Rattle.lists.proofs.Checks.{first-passed, first-stopped, first-earlier}
use Rattle.plate.specs.Refusal.{done, refused, Numbered, told_by, decided}
use Rattle.record.specs.Frame.{length_at, past_at}
use Rattle.record.specs.Faults.{tail, frame_checks}
use Rattle.record.proofs.Frames.{frame-passed}
use Rattle.job.specs.Kinds.{allowed_here, fits}
use Rattle.job.specs.Record.{Moved, moved, what_of, state_after, reading_of, again, body_checks, kind_checks, record_kind, record_checks, read_record}
use Rattle.job.specs.Reached as job
use Rattle.job.specs.declared.Kind.{Kind}
use Rattle.job.specs.declared.Kind.TheVariants as kind
use Rattle.job.specs.declared.State.{State}
use Rattle.job.proofs.Ordering.{under}
use Rattle.load.specs.Load.{too_large, job_of}
use Rattle.promises.specs.Files.{StopsFile}
use Rattle.promises.specs.Reader.{Reader, Reached, starts, further, Stops, asks}
use Rattle.promises.specs.Readers.{Standing, besides, job_onward, job_reader}
use Rattle.promises.proofs.Files.{first-decides}
use Rattle.promises.proofs.Split.{said, said-number, said-place}

module _ (s : List ℕ) (st : State) (at : ℕ) where
  -- a record before the end is read by its kind
  pub before-end : st.ended ≡ false → read_record s st at ≡ moved st at (decided (kind_checks s st at (record_kind s at)) (reading_of s st at (record_kind s at)))
  unfolding read_record record_checks
  before-end e =
      ap (λ (b : Bool). moved st at (decided (cond b (tail s at ∷ []) (kind_checks s st at (record_kind s at))) (cond b (again st at) (reading_of s st at (record_kind s at))))) e

module _ (most : ℕ) (s : List ℕ) where
  abbrev reader : Reader Standing
  reader = job_reader (too_large most)

  abbrev JobReached : State → ℕ → Type 0
  JobReached st at = job.Reached (too_large most) s st at

  module _ (st : State) (at : ℕ) where
    abbrev known : Standing
    known = record { state = st; at = at }

    -- all that is asked, of a record of this kind
    abbrev asks_of : Kind → List (Check Numbered)
    asks_of k = frame_checks s at (allowed_here st k) (fits k (length_at s at)) ++ (body_checks s st at k ++ besides (too_large most) s at k)

    all_asked : (k : Kind) → asks_of k ≡ kind_checks s st at k ++ besides (too_large most) s at k
    unfolding kind_checks
    all_asked k = sym (append_assoc (frame_checks s at (allowed_here st k) (fits k (length_at s at))) (body_checks s st at k) (besides (too_large most) s at k))

    asked-stopped : (k : Kind) (r : Numbered) → first (kind_checks s st at k) ≡ some r → first (asks_of k) ≡ some r
    asked-stopped k r e = ap first (all_asked k) ∙ first-stopped (kind_checks s st at k) (besides (too_large most) s at k) r e

    asked-passed : (k : Kind) → first (kind_checks s st at k) ≡ none → first (asks_of k) ≡ first (besides (too_large most) s at k)
    asked-passed k e = ap first (all_asked k) ∙ first-passed (kind_checks s st at k) (besides (too_large most) s at k) e

    -- a kind that is refused passes no frame
    never : {A : Type 0} → first (kind_checks s st at kind.Refused) ≡ none → A
    unfolding kind_checks
    never e =
        let frame = frame_checks s at (allowed_here st kind.Refused) (fits kind.Refused (length_at s at)) in
        let f = frame-passed s at (allowed_here st kind.Refused) (fits kind.Refused (length_at s at)) (first-earlier frame (body_checks s st at kind.Refused) e) in
        absurd (let z = f.allows in let y : ◌≡◌ {A = ℕ} 0 1 = cc in omega arith)

    -- what a read finds where its checks pass, and where one holds
    abbrev read_as : Kind → Moved
    read_as k = record { told = done (what_of s at k); next = past_at s at; state = state_after s st at k }

    abbrev read_not : Numbered → Moved
    read_not r = record { told = refused r.number r.place; next = at; state = st }

    module _ (open-yet : st.ended ≡ false) where
      read_done : first (kind_checks s st at (record_kind s at)) ≡ none → read_record s st at ≡ read_as (record_kind s at)
      read_done e = before-end s st at open-yet ∙ ap (λ (o : Option Numbered). moved st at (told_by o (reading_of s st at (record_kind s at)))) e

      read-refused : (r : Numbered) → first (kind_checks s st at (record_kind s at)) ≡ some r → read_record s st at ≡ read_not r
      read-refused r e = before-end s st at open-yet ∙ ap (λ (o : Option Numbered). moved st at (told_by o (reading_of s st at (record_kind s at)))) e

      -- ---- a record that passes

      abbrev GoesTo : Kind → Moved → Type 0
      GoesTo k m = (first (asks_of k) ≡ none) × (job_onward s known k ≡ some (record { state = m.state; at = m.next }))

      goes_to : (k : Kind) → first (kind_checks s st at k) ≡ none → job.Passes (too_large most) at (done (what_of s at k)) → GoesTo k (read_as k)
      goes_to kind.Settings e p = (asked-passed kind.Settings e ∙ p, refl)
      goes_to kind.Column e p = (asked-passed kind.Column e, refl)
      goes_to kind.End e p = absurd p
      goes_to kind.Remark e p = (asked-passed kind.Remark e, refl)
      goes_to kind.Refused e p = never e

      passes_on : job.Passes (too_large most) at (read_record s st at).told → GoesTo (record_kind s at) (read_record s st at)
      passes_on p = go (first (kind_checks s st at (record_kind s at))) refl
        where
          go : (o : Option Numbered) → first (kind_checks s st at (record_kind s at)) ≡ o → GoesTo (record_kind s at) (read_record s st at)
          go none e =
              subst (GoesTo (record_kind s at)) (sym (read_done e))
              (goes_to (record_kind s at) e (subst (λ (m : Moved). job.Passes (too_large most) at m.told) (read_done e) p))
          go (some r) e = absurd (subst (λ (m : Moved). job.Passes (too_large most) at m.told) (read-refused r e) p)

      -- and the other way round
      gone-on : (k : Kind) (next : Standing) → first (kind_checks s st at k) ≡ none → first (asks_of k) ≡ none → job_onward s known k ≡ some next
          → job.Passes (too_large most) at (done (what_of s at k)) × (record { state = state_after s st at k; at = past_at s at } ≡ next)
      gone-on kind.Settings next e a o = (sym (asked-passed kind.Settings e) ∙ a, cc)
      gone-on kind.Column next e a o = (tt, cc)
      gone-on kind.End next e a o = absurd (let z : ◌≡◌ {A = ℕ} 0 1 = cc in omega arith)
      gone-on kind.Remark next e a o = (tt, cc)
      gone-on kind.Refused next e a o = never e

      -- ---- a record at fault

      stops-kind : (k : Kind) (number place : ℕ) → first (kind_checks s st at k) ≡ none
          → job.Stops (too_large most) at (done (what_of s at k)) number place
          ⊎ (job.Ends (done (what_of s at k)) × (first (tail s (past_at s at) ∷ []) ≡ some (said number place)))
          → first (asks_of k) ≡ some (said number place)
      stops-kind kind.Settings number place e (inl p) = asked-passed kind.Settings e ∙ p
      stops-kind kind.Settings number place e (inr (p, q)) = absurd (let x = p.1 in let z : ◌≡◌ {A = ℕ} 0 1 = cc in omega arith)
      stops-kind kind.Column number place e (inl p) = absurd p
      stops-kind kind.Column number place e (inr (p, q)) = absurd (let x = p.1 in let z : ◌≡◌ {A = ℕ} 0 1 = cc in omega arith)
      stops-kind kind.End number place e (inl p) = absurd p
      stops-kind kind.End number place e (inr (p, q)) = asked-passed kind.End e ∙ q
      stops-kind kind.Remark number place e (inl p) = absurd p
      stops-kind kind.Remark number place e (inr (p, q)) = absurd (let x = p.1 in let z : ◌≡◌ {A = ℕ} 0 1 = cc in omega arith)
      stops-kind kind.Refused number place e p = never e

      abbrev FileStops : Moved → ℕ → ℕ → Type 0
      FileStops m number place =
          job.Stops (too_large most) at m.told number place ⊎ (job.Ends m.told × (first (tail s m.next ∷ []) ≡ some (said number place)))

      at-fault : (number place : ℕ) → StopsFile most s st at number place → first (asks_of (record_kind s at)) ≡ some (said number place)
      at-fault number place p = go (first (kind_checks s st at (record_kind s at))) refl
        where
          refused-so : (r : Numbered) → first (kind_checks s st at (record_kind s at)) ≡ some r → FileStops (read_not r) number place
              → first (asks_of (record_kind s at)) ≡ some (said number place)
          refused-so r e (inl (n, q)) = asked-stopped (record_kind s at) r e ∙ (λ i. some (said (n i) (q i)))
          refused-so r e (inr (x, q)) = absurd (let y = x.1 in let z : ◌≡◌ {A = ℕ} 0 1 = cc in omega arith)

          go : (o : Option Numbered) → first (kind_checks s st at (record_kind s at)) ≡ o → first (asks_of (record_kind s at)) ≡ some (said number place)
          go none e = stops-kind (record_kind s at) number place e (subst (λ (m : Moved). FileStops m number place) (read_done e) p)
          go (some r) e = refused-so r e (subst (λ (m : Moved). FileStops m number place) (read-refused r e) p)

      stopped-kind : (k : Kind) (number place : ℕ) → first (kind_checks s st at k) ≡ none → first (asks_of k) ≡ some (said number place) → FileStops (read_as k) number place
      stopped-kind kind.Settings number place e a = inl (sym (asked-passed kind.Settings e) ∙ a)
      stopped-kind kind.Column number place e a = absurd (let x = sym (asked-passed kind.Column e) ∙ a in let z : ◌≡◌ {A = ℕ} 0 1 = cc in omega arith)
      stopped-kind kind.End number place e a = inr ((_, refl), sym (asked-passed kind.End e) ∙ a)
      stopped-kind kind.Remark number place e a = absurd (let x = sym (asked-passed kind.Remark e) ∙ a in let z : ◌≡◌ {A = ℕ} 0 1 = cc in omega arith)
      stopped-kind kind.Refused number place e a = never e

      fault-at : (number place : ℕ) → first (asks_of (record_kind s at)) ≡ some (said number place) → StopsFile most s st at number place
      fault-at number place a = go (first (kind_checks s st at (record_kind s at))) refl
        where
          go : (o : Option Numbered) → first (kind_checks s st at (record_kind s at)) ≡ o → StopsFile most s st at number place
          go none e = subst (λ (m : Moved). FileStops m number place) (sym (read_done e)) (stopped-kind (record_kind s at) number place e a)
          go (some r) e =
              let q = sym (asked-stopped (record_kind s at) r e) ∙ a in
              subst (λ (m : Moved). FileStops m number place) (sym (read-refused r e)) (inl (said-number q, said-place q))

  -- ---- the records that are reached

  to-reached : {st : State} {at : ℕ} → JobReached st at → (kinds : List ℕ) × Reached reader s (record { state = st; at = at }) kinds
  to-reached job.start = ([], starts)
  to-reached (job.further {st} {at} r p) =
      let x = to-reached r in
      let g = passes_on st at (under (too_large most) s r).unended p in
      (_, further x.1 g.0 g.1)

  from-reached : {known : Standing} {kinds : List ℕ} → Reached reader s known kinds → JobReached known.state known.at
  from-reached starts = job.start
  from-reached (further {known} {next} {kinds} r e o) =
      let st = known.state in
      let at = known.at in
      let before = from-reached r in
      let open-yet = (under (too_large most) s before).unended in
      let passed = first-earlier (kind_checks s st at (record_kind s at)) (besides (too_large most) s at (record_kind s at)) (ap first (sym (all_asked st at (record_kind s at))) ∙ e) in
      let g = gone-on st at open-yet (record_kind s at) next passed e o in
      let d = read_done st at open-yet passed in
      let on = job.further before (subst (λ (m : Moved). job.Passes (too_large most) at m.told) (sym d) g.0) in
      subst (λ (x : Standing). JobReached x.state x.at) g.1
      (subst (λ (m : Moved). JobReached m.state m.next) d on)

  -- THE FIRST RECORD AT FAULT DECIDES
  pub job-decides : (number place : ℕ) → (job_of most s ≡ refused number place) ↔ Stops reader s (λ known kinds. first (asks reader s known) ≡ some (said number place))
  job-decides number place = (λ e. to ((first-decides most s number place).0 e), λ x. (first-decides most s number place).1 (from x))
    where
      to : (st : State) × (at : ℕ) × JobReached st at × StopsFile most s st at number place → Stops reader s (λ known kinds. first (asks reader s known) ≡ some (said number place))
      to (st, at, r, p) =
          let x = to-reached r in
          record { known = record { state = st; at = at }; kinds = x.0; reached = x.1; fault = at-fault st at (under (too_large most) s r).unended number place p }

      from : Stops reader s (λ known kinds. first (asks reader s known) ≡ some (said number place)) → (st : State) × (at : ℕ) × JobReached st at × StopsFile most s st at number place
      from x =
          let r = from-reached x.reached in
          (x.known.state, x.known.at, r, fault-at x.known.state x.known.at (under (too_large most) s r).unended number place x.fault)
