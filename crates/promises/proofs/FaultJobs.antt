-- The job file as a format read record by record. A body stands in the file where its frame passes, so it says the same in every longer file; only what stands
-- past the end changes. The kind test looks at whether settings were read, which is whether the latest kind but remarks is 1 or 2. Assumes nothing.
use mathlib.Core.Path.{◌≡◌, refl, sym, ap, ap₂, subst, ◌∙◌}
use mathlib.Core.Bool.{Bool, true, false, not, cond, ◌||◌}
use mathlib.Core.List.{List, [], ◌∷◌, ◌++◌}
use mathlib.Core.Option.{none, some}
use Prim.Native.Nat.{ℕ, ◌+◌, ◌/◌, ◌≤◌, ◌<◌}
use native.Mathlib.Omega.{arith}
use borrow.Author.Tests.{ne_eqb, eqb-true, lt-leb, ltb-false}
use lib.Dec.{leb, eqb}
use lib.ListN.{length}
use Rattle.lists.specs.Checks.{Check, first}
use Rattle.lists.proofs.Checks.{first-later, first-none}
use Rattle.plate.specs.Head.{is_full}
use Rattle.plate.specs.Refusal.{Numbered, check}
use Rattle.plate.specs.Settings.{settings_checks}
use Rattle.column.specs.Order.{column_checks}
use Rattle.record.specs.Bytes.{words}
use Rattle.record.specs.Frame.{length_at, kind_at, body_at, past_at}
use Rattle.record.specs.Faults.{tail, unequal, Framed}
use Rattle.record.specs.Places.{placed}
use Rattle.job.specs.Kinds.{kind_of, allowed_here, fits}
use Rattle.job.specs.State.{begin}
use Rattle.job.specs.Record.{asked_at, boundaries_at, count_at, columns_at, body_checks, record_kind, state_after}
use Rattle.job.specs.declared.Asked.{Asked}
use Rattle.job.specs.declared.Kind.{Kind}
use Rattle.job.specs.declared.Kind.TheVariants as kind
use Rattle.job.specs.declared.State.{State}
use Rattle.load.specs.Load.{too_large}
use Rattle.promises.specs.Orders.{numbers, is_one_of, body_line}
use Rattle.promises.specs.Reader.{Reader, Reached, starts, further}
use Rattle.promises.specs.Readers.{Standing, besides, job_onward, job_reader}
use Rattle.promises.specs.Kinds.{job_allows}
use Rattle.promises.proofs.Orders.{numbers-append, body-numbers}
use Rattle.promises.proofs.Longer.{word-longer, quad-longer, length-longer, kind-longer, words-longer, tail-longer}
use Rattle.promises.proofs.Lawful.{NotOfFrame, Lawful, passed-frame}
use Rattle.promises.proofs.Split.{clash, not-of-frame}

-- ---- a body

module _ (s more : List ℕ) (st : State) (at : ℕ) where
  abbrev Whole : Kind → Type 0
  Whole k = Framed s at (allowed_here st k) (fits k (length_at s at))

  settings-same : Whole kind.Settings → asked_at (s ++ more) at ≡ asked_at s at
  settings-same f =
      let long = eqb-true (length_at s at) 10 f.fits in
      let a = word-longer s more (body_at at) (omega (arith, long, f.within)) in
      let b = quad-longer s more (body_at at + 2) (omega (arith, long, f.within)) in
      let c = quad-longer s more (body_at at + 6) (omega (arith, long, f.within)) in
      λ i. record { height = a i; members = b i; bound = c i }

  boundaries-same : Whole kind.Column → boundaries_at (s ++ more) at ≡ boundaries_at s at
  unfolding boundaries_at
  boundaries-same f =
      let n = length-longer s more at (omega (arith, f.within)) in
      ap (λ (n : ℕ). words (s ++ more) (body_at at) (n / 2)) n ∙ words-longer s more (body_at at) (count_at s at) (omega (arith, f.within))

  count_same : Whole kind.End → columns_at (s ++ more) at ≡ columns_at s at
  count_same f = quad-longer s more (body_at at) (omega (arith, eqb-true (length_at s at) 4 f.fits, f.within))

  pub body-longer : (k : Kind) → Whole k → body_checks (s ++ more) st at k ≡ body_checks s st at k
  unfolding body_checks
  body-longer kind.Settings f = ap (λ (a : Asked). placed at (settings_checks a.height a.members)) (settings-same f)
  body-longer kind.Column f =
      ap (λ (bs : List ℕ). check 7 (is_full st.head) at ∷ placed at (column_checks st.head.height bs)) (boundaries-same f)
  body-longer kind.End f = ap (λ (n : ℕ). unequal n st.head.columns at ∷ []) (count_same f)
  body-longer kind.Remark f = refl
  body-longer kind.Refused f = refl

  pub kind-same : at + 4 ≤ length s → record_kind (s ++ more) at ≡ record_kind s at
  kind-same l = ap kind_of (kind-longer s more at l)

  past_same : at + 4 ≤ length s → past_at (s ++ more) at ≡ past_at s at
  past_same l = ap (λ (n : ℕ). body_at at + n) (length-longer s more at l)

-- ---- what is asked besides, and where the reading goes on

module _ (most : ℕ) where
  abbrev reader : Reader Standing
  reader = job_reader (too_large most)

  abbrev own_of : List ℕ → Standing → Kind → List (Check Numbered)
  own_of s known k = body_checks s known.state known.at k ++ besides (too_large most) s known.at k

  abbrev WholeOf : List ℕ → Standing → Kind → Type 0
  WholeOf s known k = Framed s known.at (allowed_here known.state k) (fits k (length_at s known.at))

  abbrev beside_line : Kind → List ℕ
  beside_line kind.Settings = 17 ∷ []
  beside_line kind.Column = []
  beside_line kind.End = 21 ∷ []
  beside_line kind.Remark = []
  beside_line kind.Refused = []

  own_line : (s : List ℕ) (known : Standing) (k : Kind) → numbers (own_of s known k) ≡ body_line k ++ beside_line k
  unfolding too_large
  own_line s known k = numbers-append (body_checks s known.state known.at k) _ ∙ ap₂ (λ (l m : List ℕ). l ++ m) (body-numbers s known.state known.at k) (go k)
    where
      go : (k : Kind) → numbers (besides (too_large most) s known.at k) ≡ beside_line k
      go kind.Settings = refl
      go kind.Column = refl
      go kind.End = refl
      go kind.Remark = refl
      go kind.Refused = refl

  own-numbers : (s : List ℕ) (known : Standing) (k : Kind) (r : Numbered) → first (own_of s known k) ≡ some r → NotOfFrame r.number
  own-numbers s known k r e = not-of-frame (own_of s known k) (body_line k ++ beside_line k) (own_line s known k) (go k) r e
    where
      go : (k : Kind) → is_one_of 16 (body_line k ++ beside_line k) || (is_one_of 19 (body_line k ++ beside_line k) || is_one_of 20 (body_line k ++ beside_line k)) ≡ false
      go kind.Settings = refl
      go kind.Column = refl
      go kind.End = refl
      go kind.Remark = refl
      go kind.Refused = refl

  module _ (s more : List ℕ) (known : Standing) where
    abbrev at : ℕ
    at = known.at

    abbrev st : State
    st = known.state

    -- a fault of a whole record
    fault-same : (k : Kind) → WholeOf s known k → (r : Numbered) → first (own_of s known k) ≡ some r → first (own_of (s ++ more) known k) ≡ some r
    unfolding body_checks
    fault-same kind.Settings f r e =
        ap₂ (λ (cs ds : List (Check Numbered)). first (cs ++ ds)) (body-longer s more st at kind.Settings f) (ap (too_large most at) (settings-same s more st at f)) ∙ e
    fault-same kind.Column f r e = ap (λ (cs : List (Check Numbered)). first (cs ++ [])) (body-longer s more st at kind.Column f) ∙ e
    fault-same kind.End f r e =
        let body = body_checks s st at kind.End in
        ap₂ (λ (cs : List (Check Numbered)) (p : ℕ). first (cs ++ (tail (s ++ more) p ∷ []))) (body-longer s more st at kind.End f) (past_same s more st at (omega (arith, f.within)))
        ∙ tail-longer s more body (past_at s at) r e
    fault-same kind.Remark f r e = e
    fault-same kind.Refused f r e = e

    -- a record that is passed
    onward-same : (k : Kind) (next : Standing) → WholeOf s known k → first (own_of s known k) ≡ none → job_onward s known k ≡ some next
        → (first (own_of (s ++ more) known k) ≡ none) × (job_onward (s ++ more) known k ≡ some next)
    unfolding body_checks
    onward-same kind.Settings next f e o = (
      ap₂ (λ (cs ds : List (Check Numbered)). first (cs ++ ds)) (body-longer s more st at kind.Settings f) (ap (too_large most at) (settings-same s more st at f)) ∙ e,
      ap₂ (λ (a : Asked) (p : ℕ). some (record { state = begin st a; at = p })) (settings-same s more st at f) (past_same s more st at (omega (arith, f.within))) ∙ o,
    )
    onward-same kind.Column next f e o = (
      ap (λ (cs : List (Check Numbered)). first (cs ++ [])) (body-longer s more st at kind.Column f) ∙ e,
      ap (λ (p : ℕ). some (record { state = state_after s st at kind.Column; at = p })) (past_same s more st at (omega (arith, f.within))) ∙ o,
    )
    onward-same kind.End next f e o = absurd (let z : ◌≡◌ {A = ℕ} 0 1 = cc in omega arith)
    onward-same kind.Remark next f e o =
        (e, ap (λ (p : ℕ). some (record { state = st; at = p })) (past_same s more st at (omega (arith, f.within))) ∙ o)
    onward-same kind.Refused next f e o = absurd (let z : ◌≡◌ {A = ℕ} 0 1 = cc in omega arith)

  -- ---- the laws of a format

  place-behind : (s : List ℕ) (known next : Standing) (k : Kind) → job_onward s known k ≡ some next → next.at ≡ past_at s known.at
  place-behind s known next kind.Settings e = let n : record { state = state_after s known.state known.at kind.Settings; at = past_at s known.at } ≡ next = cc in sym (ap (λ (x : Standing). x.at) n)
  place-behind s known next kind.Column e = let n : record { state = state_after s known.state known.at kind.Column; at = past_at s known.at } ≡ next = cc in sym (ap (λ (x : Standing). x.at) n)
  place-behind s known next kind.End e = absurd (let z : ◌≡◌ {A = ℕ} 0 1 = cc in omega arith)
  place-behind s known next kind.Remark e = let n : record { state = known.state; at = past_at s known.at } ≡ next = cc in sym (ap (λ (x : Standing). x.at) n)
  place-behind s known next kind.Refused e = absurd (let z : ◌≡◌ {A = ℕ} 0 1 = cc in omega arith)

  end-last : (s : List ℕ) (known : Standing) (k : Kind) → WholeOf s known k → first (own_of s known k) ≡ none → job_onward s known k ≡ none → length s ≤ past_at s known.at
  end-last s known kind.Settings f e o = absurd (let z : ◌≡◌ {A = ℕ} 0 1 = cc in omega arith)
  end-last s known kind.Column f e o = absurd (let z : ◌≡◌ {A = ℕ} 0 1 = cc in omega arith)
  end-last s known kind.End f e o =
      let t = tail s (past_at s known.at) ∷ [] in
      ltb-false (past_at s known.at) (length s) ((first-none t).0 (first-later (body_checks s known.state known.at kind.End) t e)).0
  end-last s known kind.Remark f e o = absurd (let z : ◌≡◌ {A = ℕ} 0 1 = cc in omega arith)
  end-last s known kind.Refused f e o = absurd (clash f.allows refl)

  pub unknown-barred : (st : State) (number : ℕ) → 256 ≤ number → number < 512 → allowed_here st (kind_of number) ≡ false
  unknown-barred st number low high =
      simp (ne_eqb number 1 (λ e. omega arith), ne_eqb number 2 (λ e. omega arith), ne_eqb number 3 (λ e. omega arith), lt-leb 32_768 number (omega arith))

  -- ---- the kind test

  -- a kind's number is 1, 2 or 3, or it is a remark's, or it is no kind's
  pub data Sort (number : ℕ) : Type 0 where
    one : number ≡ 1 → Sort number
    two : number ≡ 2 → Sort number
    three : number ≡ 3 → Sort number
    other : (remark : Bool) → eqb number 1 ≡ false → eqb number 2 ≡ false → eqb number 3 ≡ false → leb 32_768 number ≡ remark
        → kind_of number ≡ cond remark kind.Remark kind.Refused → Sort number

  sort : (number : ℕ) → Sort number
  sort number = firsts (eqb number 1) refl
    where
      thirds : eqb number 1 ≡ false → eqb number 2 ≡ false → (b : Bool) → eqb number 3 ≡ b → Sort number
      thirds p q true e = three (eqb-true number 3 e)
      thirds p q false e = other (leb 32_768 number) p q e refl (simp (p, q, e))

      seconds : eqb number 1 ≡ false → (b : Bool) → eqb number 2 ≡ b → Sort number
      seconds p true e = two (eqb-true number 2 e)
      seconds p false e = thirds p e (eqb number 3) refl

      firsts : (b : Bool) → eqb number 1 ≡ b → Sort number
      firsts true e = one (eqb-true number 1 e)
      firsts false e = seconds e (eqb number 2) refl

  -- what may come, by whether settings were read
  abbrev by_begun : Bool → ℕ → Bool
  by_begun false number = eqb number 1 || leb 32_768 number
  by_begun true number = eqb number 2 || (eqb number 3 || leb 32_768 number)

  abbrev TestsBy : State → ℕ → Type 0
  TestsBy st number = allowed_here st (kind_of number) ≡ by_begun st.begun number

  test-by-begun : (st : State) (number : ℕ) → TestsBy st number
  test-by-begun st number = go (sort number)
    where
      of-settings : (b : Bool) → not b ≡ by_begun b 1
      of-settings true = refl
      of-settings false = refl

      of-column : (b : Bool) → b ≡ by_begun b 2
      of-column true = refl
      of-column false = refl

      of_end : (b : Bool) → b ≡ by_begun b 3
      of_end true = refl
      of_end false = refl

      of_other : (b remark : Bool) → eqb number 1 ≡ false → eqb number 2 ≡ false → eqb number 3 ≡ false → leb 32_768 number ≡ remark → remark ≡ by_begun b number
      of_other true remark p q r e = simp (q, r, e)
      of_other false remark p q r e = simp (p, e)

      remarked : (remark : Bool) → allowed_here st (cond remark kind.Remark kind.Refused) ≡ remark
      remarked true = refl
      remarked false = refl

      go : Sort number → TestsBy st number
      go (one e) = subst (TestsBy st) (sym e) (of-settings st.begun)
      go (two e) = subst (TestsBy st) (sym e) (of-column st.begun)
      go (three e) = subst (TestsBy st) (sym e) (of_end st.begun)
      go (other remark p q r e k) = ap (allowed_here st) k ∙ remarked remark ∙ of_other st.begun remark p q r e

  -- the kinds before tell whether settings were read
  abbrev Tells : List ℕ → Bool → Type 0
  Tells kinds begun = (number : ℕ) → job_allows kinds number ≡ by_begun begun number

  abbrev After : List ℕ → ℕ → Bool → ℕ → Type 0
  After kinds number begun then = job_allows (number ∷ kinds) then ≡ by_begun begun then

  step : (s : List ℕ) (known next : Standing) (kinds : List ℕ) (number : ℕ) → job_onward s known (kind_of number) ≡ some next
      → allowed_here known.state (kind_of number) ≡ true → Tells kinds known.state.begun → Tells (number ∷ kinds) next.state.begun
  unfolding job_allows
  step s known next kinds number o a before then = go (sort number)
    where
      onward-by : (k : Kind) → kind_of number ≡ k → job_onward s known k ≡ some next
      onward-by k e = ap (job_onward s known) (sym e) ∙ o

      same-begun : (t : Standing) → some t ≡ some next → by_begun t.state.begun then ≡ by_begun next.state.begun then
      same-begun t e = let q : t ≡ next = cc in ap (λ (x : Standing). by_begun x.state.begun then) q

      remarked : (remark : Bool) → leb 32_768 number ≡ remark → kind_of number ≡ cond remark kind.Remark kind.Refused → After kinds number next.state.begun then
      remarked true e k = rw e (before then ∙ same-begun (record { state = known.state; at = past_at s known.at }) (onward-by kind.Remark k))
      remarked false e k = absurd (let x = onward-by kind.Refused k in let z : ◌≡◌ {A = ℕ} 0 1 = cc in omega arith)

      go : Sort number → After kinds number next.state.begun then
      go (one e) =
          subst (λ (n : ℕ). After kinds n next.state.begun then) (sym e)
          (same-begun (record { state = state_after s known.state known.at kind.Settings; at = past_at s known.at }) (onward-by kind.Settings (ap kind_of e)))
      go (two e) =
          let begun : known.state.begun ≡ true = subst (λ (n : ℕ). allowed_here known.state (kind_of n) ≡ true) e a in
          subst (λ (n : ℕ). After kinds n next.state.begun then) (sym e)
          (ap (λ (b : Bool). by_begun b then) (sym begun)
          ∙ same-begun (record { state = state_after s known.state known.at kind.Column; at = past_at s known.at }) (onward-by kind.Column (ap kind_of e)))
      go (three e) = absurd (let x = onward-by kind.End (ap kind_of e) in let z : ◌≡◌ {A = ℕ} 0 1 = cc in omega arith)
      go (other remark p q r e k) = remarked remark e k

  follows : (s : List ℕ) {known : Standing} {kinds : List ℕ} → Reached reader s known kinds → Tells kinds known.state.begun
  unfolding job_allows
  follows s starts = λ number. refl
  follows s (further {known} {next} {kinds} r e o) =
      step s known next kinds (kind_at s known.at) o (passed-frame reader s known e).allows
      (follows s r)

  kind-test : (s : List ℕ) {known : Standing} {kinds : List ℕ} → Reached reader s known kinds → (number : ℕ)
      → reader.allows known number ≡ job_allows kinds number
  kind-test s {known} r number = test-by-begun known.state number ∙ sym (follows s r number)

  pub job-lawful : Lawful reader job_allows
  job-lawful = record {
    own-numbers = λ s known r e. own-numbers s known (record_kind s known.at) r e;
    same-fault = λ s more known f r e.
        let l : known.at + 4 ≤ length s = omega (arith, f.within) in
        ap (λ (k : Kind). first (own_of (s ++ more) known k)) (kind-same s more known.state known.at l) ∙ fault-same s more known (record_kind s known.at) f r e;
    same-onward = λ s more known next f g.
        let l : known.at + 4 ≤ length s = omega (arith, f.within) in
        let same = kind-same s more known.state known.at l in
        let o = onward-same s more known (record_kind s known.at) next f g.quiet g.onward in
        record { quiet = ap (λ (k : Kind). first (own_of (s ++ more) known k)) same ∙ o.0; onward = ap (job_onward (s ++ more) known) same ∙ o.1 };
    next_place = λ s known next f g. place-behind s known next (record_kind s known.at) g.onward;
    last = λ s known f e o. end-last s known (record_kind s known.at) f e o;
    unknown = λ known number. unknown-barred known.state number;
    kind-test = kind-test;
  }
