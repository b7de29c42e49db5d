-- The reader of order files, check after check, against the mathematics of order lists. As long as its checks pass, the bytes so far are those of
-- records that the mathematics reads to the same state. Where the bytes of a record that is due stand next, the checks of that record pass; so
-- where one of them holds, no such record comes next, and the place is the fault's. The thickness that it finds is the only one, as the bytes of
-- different heights differ. By induction on how many layers may still come: a layer takes 16 bytes, so there are no more than bytes. Assumes nothing.
use mathlib.Core.Path.{◌≡◌, refl, sym, ap, subst, ◌∙◌}
use mathlib.Core.Logic.{◌⊎◌, inl, inr}
use mathlib.Core.Bool.{Bool, true, false, not, cond, ◌&&◌}
use mathlib.Core.List.{List, [], ◌∷◌, ◌++◌, append_assoc, append-nil}
use mathlib.Core.Option.{Option, none, some}
use Prim.Native.Nat.{ℕ, zero, suc, ◌+◌, ◌-◌, ◌≤◌, ◌<◌}
use native.Mathlib.Omega.{arith}
use borrow.Author.Tests.{lt-ltb, le-ltb, eq-eqb, eqb-true, ltb-true, ltb-false, not-false}
use lib.Dec.{eqb}
use lib.ListN.{length, drop, length-append, length-drop, drop_of_length-le}
use Rattle.lists.specs.Checks.{Check, first}
use Rattle.lists.specs.Search.{lowest}
use Rattle.lists.proofs.Checks.{first-none, first-passed, first-stopped, first-earlier, first-later}
use Rattle.lists.proofs.Search.{lowest-hit, lowest-passes}
use Rattle.paper.specs.Layer.{tmax}
use Rattle.paper.proofs.Thicknesses.{and-true, tmax-le}
use Rattle.plate.specs.Refusal.{Numbered}
use Rattle.record.specs.Bytes.{Bytes, le16, le32}
use Rattle.record.specs.Frame.{length_at, kind_at, body_at, left}
use Rattle.record.specs.Faults.{cut, disagrees, unequal, tail, frame_checks, Framed}
use Rattle.record.specs.Places.{At}
use Rattle.record.proofs.Frames.{frame-passes, frame-passed, frame_at}
use Rattle.record.proofs.Places.{both_at, at_place}
use Rattle.printed.specs.Possible.{cure_of, usable}
use Rattle.printed.specs.Tests.{may_finish}
use Rattle.printed.specs.Records as reader
use Rattle.printed.specs.Records.{Record, lift, cure, finish, State, fresh, whole, read_from, orders_over, orders}
use Rattle.printed.specs.Paper.{Printed}
use Rattle.printed.specs.Bytes.{bytes_of, FaultAt, Reached, Stuck}
use Rattle.printed.proofs.Layers.{usable-from, usable-to}
use Rattle.printed.proofs.Records.{none-some, provided-some, read-nil, goes-written}
use Rattle.printed.proofs.Paper.{written-printed}
use Rattle.printed.proofs.Bytes.{read-snoc, read_goes, refused}
use Rattle.printed.proofs.Reach.{Within, reached-within}
use Rattle.orders.specs.Layer.{height_bits, cure_bits}
use Rattle.orders.specs.Kinds.{lift_kind, cure_kind, finish_kind, float_length, finish_length, allowed_after, fits}
use Rattle.orders.specs.Written.{record_bytes}
use Rattle.orders.specs.File.{lift_place, cure_place, no_layers, grown, lifts_by, thickness_at, may_follow, lift_checks, cure_checks, finish_checks, next_checks, finishes, layer_checks, orders_checks, file_checks, layers_from, layers_in}
use Rattle.orders.specs.declared.Stack.{Stack}
use Rattle.promises.specs.Printing.{Lent}
use Rattle.promises.proofs.PrintedFloats.{heights-same}
use Rattle.promises.proofs.PrintedRecords.{distinct, lift-long, cure-long, finish-long, Head, There, there, lift-there, cure-there, finish-there}
use Rattle.promises.proofs.PrintedStates.{state_of, lifted_by, Flat, grown-flat, not-whole, may-usable, lift-next, cure-next, finish-next, Due, due, few-layers, may-low}

-- ---- checks that all have one place

passed-or : (cs : List (Check Numbered)) → (first cs ≡ none) ⊎ ((q : Numbered) × (first cs ≡ some q))
passed-or cs = go (first cs) refl
  where
    go : (o : Option Numbered) → first cs ≡ o → (first cs ≡ none) ⊎ ((q : Numbered) × (first cs ≡ some q))
    go none e = inl e
    go (some q) e = inr (q, e)

-- ---- bytes

bytes-snoc : (code : Record → List ℕ) (rs : List Record) (r : Record) → bytes_of code (rs ++ (r ∷ [])) ≡ bytes_of code rs ++ code r
bytes-snoc code [] r = append-nil (code r)
bytes-snoc code (q ∷ rs) r = ap (λ (l : List ℕ). code q ++ l) (bytes-snoc code rs r) ∙ sym (append_assoc (code q) (bytes_of code rs) (code r))

two-more : (rs : List Record) (a b : Record) (us : List Record) → ((rs ++ (a ∷ [])) ++ (b ∷ [])) ++ us ≡ rs ++ (a ∷ b ∷ us)
two-more rs a b us = append_assoc (rs ++ (a ∷ [])) (b ∷ []) us ∙ append_assoc rs (a ∷ []) (b ∷ us)

module _ {N T step : ℕ} {cures : List ℕ} (l : Lent N T step cures) (file : List ℕ) (byte : Bytes file) where
  abbrev code : Record → List ℕ
  code = record_bytes step

  abbrev some-height : 1 ≤ N
  some-height = l.settings.least-height

  -- ---- the records so far

  record Come (records : List Record) (s : State) (at : ℕ) : Type 0 where
    reads : read_from N T cures fresh records ≡ some s
    same : bytes_of code records ++ drop at file ≡ file
    place : length (bytes_of code records) ≡ at

  come-on : {rs : List Record} {s : State} {at : ℕ} → Come rs s at → (r : Record) (o : State) (past : ℕ) → reader.step N T cures s r ≡ some o
      → drop at file ≡ code r ++ drop past file → at + length (code r) ≡ past → Come (rs ++ (r ∷ [])) o past
  come-on {rs} {s} {at} c r o past e f n = record {
    reads = read-snoc N T cures fresh rs r s o c.reads e;
    same =
        ap (λ (b : List ℕ). b ++ drop past file) (bytes-snoc code rs r)
        ∙ append_assoc (bytes_of code rs) (code r) (drop past file)
        ∙ ap (λ (b : List ℕ). bytes_of code rs ++ b) (sym f)
        ∙ c.same;
    place = ap length (bytes-snoc code rs r) ∙ length-append (bytes_of code rs) (code r) ∙ omega (arith, c.place);
  }

  come-within : {rs : List Record} {s : State} {at : ℕ} → Come rs s at → Within N T cures some-height s
  come-within {rs} {s} c = reached-within N T cures some-height rs s c.reads

  abbrev here : {rs : List Record} {s : State} {at : ℕ} → Come rs s at → Reached N T cures code file at
  here {rs} {s} {at} c = record { records = rs; state = s; reads = c.reads; rest = drop at file; same = c.same; place = c.place }

  fault : {rs : List Record} {s : State} {at : ℕ} → Come rs s at → Stuck N T cures code s (drop at file) → (s ≡ whole → drop at file ≡ [] → ⊥)
      → FaultAt N T cures code file at
  fault {rs} {s} {at} c stuck n = refused N T cures code (distinct l) some-height file at (here c) stuck n

  -- ---- what comes of it: a refusal at the fault, or these records

  abbrev pub Outcome : Option Numbered → List Record → Type 0
  Outcome o rs = ((q : Numbered) × (o ≡ some q) × FaultAt N T cures code file q.place) ⊎ ((o ≡ none) × Printed N T cures rs × (bytes_of code rs ≡ file))

  stage : (p : ℕ) (cs ds : List (Check Numbered)) (rs : List Record) → At p cs → ((q : Numbered) → first cs ≡ some q → FaultAt N T cures code file p)
      → (first cs ≡ none → Outcome (first ds) rs) → Outcome (first (cs ++ ds)) rs
  stage p cs ds rs here stop pass = go (passed-or cs)
    where
      go : (first cs ≡ none) ⊎ ((q : Numbered) × (first cs ≡ some q)) → Outcome (first (cs ++ ds)) rs
      go (inl e) = subst (λ (o : Option Numbered). Outcome o rs) (sym (first-passed cs ds e)) (pass e)
      go (inr e) = inl (e.0, first-stopped cs ds e.0 e.1, subst (FaultAt N T cures code file) (sym (at_place p cs e.0 here e.1)) (stop e.0 e.1))

  -- a record that comes next would have passed
  stuck-by : (s : State) (at : ℕ) {o : Option Numbered} {q : Numbered} → o ≡ some q
      → ((r : Record) (next : State) → reader.step N T cures s r ≡ some next → There step file at r → o ≡ none) → Stuck N T cures code s (drop at file)
  stuck-by s at e fine r next d x z = none-some (sym (fine r next d (there step file at r x z)) ∙ e)

  -- behind the finish there is nothing
  ended : {rs : List Record} {past : ℕ} → Come rs whole past → Outcome (first (tail file past ∷ [])) rs
  unfolding reader.step
  ended {rs} {past} c =
      stage past (tail file past ∷ []) [] rs (refl, tt) (λ q e. fault c (λ r o d x z. none-some d) (λ z x. more e x))
      (λ e. inr (refl, written-printed N T cures rs (goes-written N T cures some-height rs (read_goes N T cures fresh rs c.reads)), all e))
    where
      none-behind : length file - past ≡ 0 → first (tail file past ∷ []) ≡ none
      none-behind n = simp (le-ltb past (length file) (omega arith))

      more : {q : Numbered} → first (tail file past ∷ []) ≡ some q → drop past file ≡ [] → ⊥
      more e x = let n = sym (length-drop past file) ∙ ap length x in none-some (sym (none-behind n) ∙ e)

      all : first (tail file past ∷ []) ≡ none → bytes_of code rs ≡ file
      all e =
          let n = ltb-false past (length file) ((first-none (tail file past ∷ [])).0 e).0 in
          sym (append-nil (bytes_of code rs)) ∙ ap (λ (b : List ℕ). bytes_of code rs ++ b) (sym (drop_of_length-le file n)) ∙ c.same

  -- ---- behind the layers of a stack

  module _ (read : Stack) (flat : Flat read) {rs : List Record} (c : Come rs (state_of read) (lift_place read.layers)) where
    abbrev at : ℕ
    at = lift_place read.layers

    w : Within N T cures some-height (state_of read)
    w = come-within c

    few : read.layers < 65_536
    few =
        let n = l.settings.greatest-height in
        omega (arith, few-layers N T cures read flat some-height w, tmax-le T)

    fault-here : {o : Option Numbered} {q : Numbered} → o ≡ some q → ((r : Record) → Due N T cures read flat r → There step file at r → o ≡ none)
        → FaultAt N T cures code file at
    fault-here e fine = fault c (stuck-by (state_of read) at e (λ r next d t. fine r (due N T cures read flat r next d) t)) (λ z x. not-whole read z)

    -- the frame of what comes next
    abbrev next : List (Check Numbered)
    next = next_checks file read.layers

    head-passes : (kind long : ℕ) → Head file at kind long → allowed_after read.layers kind ≡ true → fits kind long ≡ true → first next ≡ none
    unfolding next_checks
    head-passes kind long h a f =
        frame-passes file at (allowed_after read.layers (kind_at file at)) (fits (kind_at file at) (length_at file at))
        (record { allows = ap (allowed_after read.layers) h.kind-is ∙ a; fits = (λ i. fits (h.kind-is i) (h.long-is i)) ∙ f; within = omega (arith, h.long-is, h.within) })

    next-passes : (r : Record) → Due N T cures read flat r → There step file at r → first next ≡ none
    unfolding allowed_after fits
    next-passes (lift x) d t = head-passes lift_kind float_length t.0 refl refl
    next-passes (cure c) d t = absurd d
    next-passes (finish n) d t = head-passes finish_kind finish_length t.0 (lt-ltb 0 read.layers d.0) refl

    next-framed : first next ≡ none → Framed file at (allowed_after read.layers (kind_at file at)) (fits (kind_at file at) (length_at file at))
    unfolding next_checks
    next-framed e = frame-passed file at (allowed_after read.layers (kind_at file at)) (fits (kind_at file at) (length_at file at)) e

    next-at : At at next
    unfolding next_checks
    next-at = frame_at file at (allowed_after read.layers (kind_at file at)) (fits (kind_at file at) (length_at file at))

    -- ---- the finish

    finish-head : first next ≡ none → finishes file read.layers ≡ true → (0 < read.layers) × Head file at finish_kind finish_length
    unfolding allowed_after fits
    finish-head e k =
        let f = next-framed e in
        let a = rw k at f.allows in
        let b = rw k at f.fits in
        let long = eqb-true (length_at file at) finish_length b in
        (ltb-true 0 read.layers a, record { kind-is = eqb-true (kind_at file at) finish_kind k; long-is = long; within = omega (arith, f.within) })

    -- ---- a lift

    lift-head : first next ≡ none → finishes file read.layers ≡ false → Head file at lift_kind float_length
    unfolding allowed_after fits
    lift-head e k =
        let f = next-framed e in
        let a = rw k at f.allows in
        let b = rw k at f.fits in
        let long = eqb-true (length_at file at) float_length b in
        record { kind-is = eqb-true (kind_at file at) lift_kind a; long-is = long; within = omega (arith, f.within) }

    -- the thickness that is found

    abbrev bits : ℕ
    bits = le32 file (body_at at)

    abbrev test : ℕ → Bool
    test = lifts_by T step cures read.rise bits

    test-true : (t i : ℕ) → i + 1 ≡ t → usable T cures t ≡ true → bits ≡ height_bits step (read.rise + t) → test i ≡ true
    unfolding lifts_by
    test-true t i e u b = rw e (simp (u, eq-eqb bits (height_bits step (read.rise + t)) b))

    true-test : (i : ℕ) → test i ≡ true → (usable T cures (i + 1) ≡ true) × (bits ≡ height_bits step (read.rise + (i + 1)))
    unfolding lifts_by
    true-test i e =
        let both = and-true (usable T cures (i + 1)) (eqb bits (height_bits step (read.rise + (i + 1)))) e in
        (both.0, eqb-true bits (height_bits step (read.rise + (i + 1))) both.1)

    abbrev found : ℕ
    found = thickness_at T step cures file read

    -- it is that of the lift that stands there
    thickness-only : (x : ℕ) → may_follow N T cures read (x - read.rise) ≡ true → bits ≡ height_bits step x → found ≡ x - read.rise
    unfolding thickness_at
    thickness-only x m b =
        let t = x - read.rise in
        let u = may-usable N T cures read t m in
        let from = usable-from T cures t u in
        let to = usable-to T cures t u in
        let back : t - 1 + 1 ≡ t = omega arith in
        let up : x ≡ read.rise + t = omega arith in
        ap (λ (i : ℕ). i + 1) (lowest-hit test (tmax T) (t - 1) (omega arith) (λ k l. before k l (test k) refl) (test-true t (t - 1) back u (b ∙ ap (height_bits step) up))) ∙ back
      where
        before : (k : ℕ) → k < x - read.rise - 1 → (b : Bool) → test k ≡ b → test k ≡ false
        before k j true e =
            let low = may-low N T cures read flat some-height w (x - read.rise) in
            let to = usable-to T cures (x - read.rise) (may-usable N T cures read (x - read.rise) m) in
            let same = heights-same l (read.rise + (k + 1)) x (low (k + 1) m (omega arith)) (omega (arith, low (x - read.rise) m to)) (sym (true-test k e).1 ∙ b) in
            absurd (omega arith)
        before k j false e = e

    -- and where it may follow its lift stands there
    thickness-there : may_follow N T cures read found ≡ true → bits ≡ height_bits step (read.rise + found)
    unfolding thickness_at
    thickness-there m =
        let to = usable-to T cures found (may-usable N T cures read found m) in
        (true-test (lowest test (tmax T)) (lowest-passes test (tmax T) (omega arith))).1

    lift-passes : Head file at lift_kind float_length → (r : Record) → Due N T cures read flat r → There step file at r
        → first (lift_checks N T step cures file read) ≡ none
    unfolding lift_checks
    lift-passes h (lift x) d t =
        let m : may_follow N T cures read found ≡ true = subst (λ (t : ℕ). may_follow N T cures read t ≡ true) (sym (thickness-only x d t.1)) d in
        simp m
    lift-passes h (cure c) d t = absurd d
    lift-passes h (finish n) d t = absurd (omega (arith, h.kind-is, t.0.kind-is))

    lift-at : At at (lift_checks N T step cures file read)
    unfolding lift_checks
    lift-at = (refl, tt)

    lift-passed : first (lift_checks N T step cures file read) ≡ none → may_follow N T cures read found ≡ true
    unfolding lift_checks
    lift-passed e = not-false (may_follow N T cures read found) ((first-none (disagrees (not (may_follow N T cures read found)) at ∷ [])).0 e).0

    abbrev up_to : Record
    up_to = lift (read.rise + found)

    lift-come : Head file at lift_kind float_length → may_follow N T cures read found ≡ true → Come (rs ++ (up_to ∷ [])) (lifted_by read found) (cure_place read.layers)
    lift-come h m =
        let x = read.rise + found in
        come-on c (lift x) (lifted_by read found) (cure_place read.layers) (lift-next N T cures read flat found m)
        (lift-there file byte step at x (h, thickness-there m)) (ap (λ (n : ℕ). at + n) (lift-long step x))

    -- ---- its cure time

    abbrev cure_at : ℕ
    cure_at = cure_place read.layers

    abbrev curing : List (Check Numbered)
    curing = cure_checks cures file read.layers found

    cure-passes : (r : Record) (o : State) → reader.step N T cures (lifted_by read found) r ≡ some o → There step file cure_at r → first curing ≡ none
    unfolding reader.step cure_checks
    cure-passes (lift x) o e t = absurd (none-some e)
    cure-passes (cure k) o e t =
        let due : k ≡ cure_of cures found = eqb-true k (cure_of cures found) (provided-some (eqb k (cure_of cures found)) _ o e).0 in
        let h = t.0 in
        first-passed (frame_checks file cure_at (eqb (kind_at file cure_at) cure_kind) (eqb (length_at file cure_at) float_length)) (unequal (le32 file (body_at cure_at)) (cure_bits (cure_of cures found)) cure_at ∷ [])
        (frame-passes file cure_at (eqb (kind_at file cure_at) cure_kind) (eqb (length_at file cure_at) float_length)
        (record { allows = eq-eqb (kind_at file cure_at) cure_kind h.kind-is; fits = eq-eqb (length_at file cure_at) float_length h.long-is; within = omega (arith, h.long-is, h.within) }))
        ∙ simp (eq-eqb (le32 file (body_at cure_at)) (cure_bits (cure_of cures found)) (t.1 ∙ ap cure_bits due))
    cure-passes (finish n) o e t = absurd (none-some e)

    cure-passed : first curing ≡ none → There step file cure_at (cure (cure_of cures found))
    unfolding cure_checks
    cure-passed e =
        let frame = frame_checks file cure_at (eqb (kind_at file cure_at) cure_kind) (eqb (length_at file cure_at) float_length) in
        let last = unequal (le32 file (body_at cure_at)) (cure_bits (cure_of cures found)) cure_at ∷ [] in
        let f = frame-passed file cure_at (eqb (kind_at file cure_at) cure_kind) (eqb (length_at file cure_at) float_length) (first-earlier frame last e) in
        let q = ((first-none last).0 (first-later frame last e)).0 in
        let long = eqb-true (length_at file cure_at) float_length f.fits in (
          record { kind-is = eqb-true (kind_at file cure_at) cure_kind f.allows; long-is = long; within = omega (arith, f.within) },
          eqb-true (le32 file (body_at cure_at)) (cure_bits (cure_of cures found)) (not-false _ q),
        )

    cure-at : At cure_at curing
    unfolding cure_checks
    cure-at =
        both_at cure_at (frame_checks file cure_at (eqb (kind_at file cure_at) cure_kind) (eqb (length_at file cure_at) float_length))
        (unequal (le32 file (body_at cure_at)) (cure_bits (cure_of cures found)) cure_at ∷ [])
        (frame_at file cure_at (eqb (kind_at file cure_at) cure_kind) (eqb (length_at file cure_at) float_length)) (refl, tt)

    abbrev layer : List Record
    layer = (rs ++ (up_to ∷ [])) ++ (cure (cure_of cures found) ∷ [])

    cure-come : Come (rs ++ (up_to ∷ [])) (lifted_by read found) cure_at → first curing ≡ none → Come layer (state_of (grown read found)) (lift_place (grown read found).layers)
    cure-come d e =
        let x = cure_of cures found in
        let p : cure_at + 8 ≡ lift_place (grown read found).layers = omega arith in
        subst (λ (q : ℕ). Come layer (state_of (grown read found)) q) p
        (come-on d (cure x) (state_of (grown read found)) (cure_at + 8) (cure-next N T cures read flat found) (cure-there file byte step cure_at x (cure-passed e))
        (ap (λ (n : ℕ). cure_at + n) (cure-long step x)))

    -- ---- the finish, and nothing behind it

    abbrev counts : Bool
    counts = eqb (le16 file (body_at at)) read.layers && may_finish N read.rise

    finish-passes : Head file at finish_kind finish_length → (r : Record) → Due N T cures read flat r → There step file at r
        → first (disagrees (not counts) at ∷ []) ≡ none
    finish-passes h (lift x) d t = absurd (omega (arith, h.kind-is, t.0.kind-is))
    finish-passes h (cure c) d t = absurd d
    finish-passes h (finish n) d t =
        let e : le16 file (body_at at) ≡ read.layers = omega (arith, t.1, d.1, few) in
        simp (eq-eqb (le16 file (body_at at)) read.layers e, d.2)

    abbrev past : ℕ
    past = body_at at + finish_length

    finish-come : 0 < read.layers → Head file at finish_kind finish_length → counts ≡ true → Come (rs ++ (finish read.layers ∷ [])) whole past
    finish-come some-layer h e =
        let both = and-true (eqb (le16 file (body_at at)) read.layers) (may_finish N read.rise) e in
        let p : at + 6 ≡ past = omega arith in
        come-on c (finish read.layers) whole past (finish-next N T cures read flat some-layer both.1)
        (rw p at (finish-there file byte step at read.layers h (eqb-true (le16 file (body_at at)) read.layers both.0)))
        (ap (λ (n : ℕ). at + n) (finish-long step read.layers) ∙ p)

    finish-outcome : 0 < read.layers → Head file at finish_kind finish_length → Outcome (first (finish_checks N file read)) (rs ++ (finish read.layers ∷ []))
    unfolding finish_checks
    finish-outcome some-layer h =
        stage at (disagrees (not counts) at ∷ []) (tail file past ∷ []) (rs ++ (finish read.layers ∷ [])) (refl, tt) (λ q e. fault-here e (finish-passes h))
        (λ e. ended (finish-come some-layer h (not-false counts ((first-none (disagrees (not counts) at ∷ [])).0 e).0)))

    -- ---- all of it

    module _ (n : ℕ) where
      abbrev more : List ℕ
      more = layers_from T step cures file n (grown read found)

      abbrev later : List (Check Numbered)
      later = orders_checks N T step cures file n (grown read found)

      abbrev later_records : List Record
      later_records = layer ++ orders_over cures (grown read found).layers (grown read found).rise more

      layer-records : later_records ≡ rs ++ orders_over cures read.layers read.rise (found ∷ more)
      unfolding orders_over
      layer-records =
          let k : read.layers + 1 ≡ suc read.layers = omega arith in
          ap (λ (m : ℕ). layer ++ orders_over cures m (read.rise + found) more) k
          ∙ two-more rs up_to (cure (cure_of cures found)) (orders_over cures (suc read.layers) (read.rise + found) more)

      module _ (on : Come layer (state_of (grown read found)) (lift_place (grown read found).layers) → Outcome (first later) later_records) where
        layer-outcome : Head file at lift_kind float_length
            → Outcome (first (layer_checks N T step cures file read ++ later)) (rs ++ orders_over cures read.layers read.rise (found ∷ more))
        unfolding layer_checks
        layer-outcome h =
            let lifting = lift_checks N T step cures file read in
            let all = rs ++ orders_over cures read.layers read.rise (found ∷ more) in
            subst (λ (cs : List (Check Numbered)). Outcome (first cs) all) (sym (append_assoc lifting curing later))
            (stage at lifting (curing ++ later) all lift-at (λ q e. fault-here e (lift-passes h))
            (λ e.
            let d = lift-come h (lift-passed e) in
            stage cure_at curing later all cure-at (λ q e. fault d (stuck-by (lifted_by read found) cure_at e cure-passes) (λ z x. not_lifted z))
            (λ e. subst (λ (us : List Record). Outcome (first later) us) layer-records (on (cure-come d e)))))
          where
            not_lifted : lifted_by read found ≡ whole → ⊥
            not_lifted z = let z : ◌≡◌ {A = ℕ} 0 1 = cc in omega arith

        next-outcome : Outcome (first (orders_checks N T step cures file (suc n) read)) (rs ++ orders_over cures read.layers read.rise (layers_from T step cures file (suc n) read))
        unfolding orders_checks layers_from orders_over
        next-outcome =
            stage at next (checks (finishes file read.layers)) (records (finishes file read.layers)) next-at (λ q e. fault-here e next-passes)
            (λ e. go (finishes file read.layers) refl e)
          where
            checks : Bool → List (Check Numbered)
            checks b = cond b (finish_checks N file read) (layer_checks N T step cures file read ++ later)

            records : Bool → List Record
            records b = rs ++ orders_over cures read.layers read.rise (cond b [] (found ∷ more))

            go : (b : Bool) → finishes file read.layers ≡ b → first next ≡ none → Outcome (first (checks b)) (records b)
            go true k e = let h = finish-head e k in finish-outcome h.0 h.1
            go false k e = layer-outcome (lift-head e k)

    -- behind as many layers as there are bytes nothing is left
    none_left : length file ≤ read.layers → Outcome (first (orders_checks N T step cures file 0 read)) (rs ++ orders_over cures read.layers read.rise [])
    unfolding orders_checks
    none_left n =
        let e : first (cut file at ∷ []) ≡ some (cut file at).says = simp (lt-ltb (left file at) 4 (omega arith)) in
        inl ((cut file at).says, e, fault-here e over)
      where
        over : (r : Record) → Due N T cures read flat r → There step file at r → first (cut file at ∷ []) ≡ none
        over (lift x) d t = absurd (omega (arith, t.0.within))
        over (cure c) d t = absurd d
        over (finish k) d t = absurd (omega (arith, t.0.within))

  -- ---- layer after layer

  judged : (n : ℕ) (read : Stack) → Flat read → {rs : List Record} → Come rs (state_of read) (lift_place read.layers) → length file ≤ n + read.layers
      → Outcome (first (orders_checks N T step cures file n read)) (rs ++ orders_over cures read.layers read.rise (layers_from T step cures file n read))
  unfolding layers_from
  judged zero read flat c room = none_left read flat c (omega arith)
  judged (suc n) read flat c room =
      let t = thickness_at T step cures file read in
      next-outcome read flat c n (λ d. judged n (grown read t) (grown-flat read t) d (omega arith))

  begin : Come [] fresh 0
  begin = record { reads = read-nil N T cures fresh; same = refl; place = refl }

  -- THE FILE: a refusal at its fault, or the orders of the layers that are read
  pub file-judged : Outcome (first (file_checks N T step cures file)) (orders cures (layers_in T step cures file))
  unfolding file_checks layers_in orders
  file-judged = judged (length file) no_layers (λ e. refl) begin (omega arith)
