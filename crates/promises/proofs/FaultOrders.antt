-- The order file as a file that is read record by record. Its own checks all say 21. A record whose frame passes stands whole in the file, so that what
-- is read of it is the same in a longer one; only the check that nothing stands behind the end looks further, and more bytes can't quiet it. A lift comes
-- first, behind it its time, and behind a layer a lift or the finish, which is the grammar. Layer after layer the checks of the file are those of the
-- records in turn, so that the first that holds is that of the first record at fault. Assumes nothing.
use mathlib.Core.Path.{◌≡◌, refl, sym, ap, subst, ◌∙◌}
use mathlib.Core.Logic.{◌↔◌}
use mathlib.Core.Bool.{Bool, true, false, not, cond, ◌&&◌, ◌||◌}
use mathlib.Core.List.{List, [], ◌∷◌, ◌++◌, append_assoc, append-nil}
use mathlib.Core.Option.{Option, none, some}
use Prim.Native.Nat.{ℕ, zero, suc, ◌+◌, ◌≤◌, ◌<◌}
use native.Mathlib.Omega.{arith}
use borrow.Author.Tests.{lt-ltb, ltb-false, eqb-true, ne_eqb}
use lib.Dec.{eqb}
use lib.ListN.{length}
use Rattle.lists.specs.Checks.{Check, first}
use Rattle.lists.specs.Search.{lowest}
use Rattle.lists.proofs.Checks.{first-none, first-passed, first-stopped}
use Rattle.paper.specs.Layer.{tmax}
use Rattle.plate.specs.Call.{answer_of}
use Rattle.plate.specs.Refusal.{Numbered, refused, told_by}
use Rattle.plate.proofs.Decided.{refused-first, decided-passed}
use Rattle.record.specs.Bytes.{le16}
use Rattle.record.specs.Frame.{length_at, kind_at, body_at, past_at, left}
use Rattle.record.specs.Faults.{disagrees, frame_checks}
use Rattle.printed.specs.Tests.{may_finish}
use Rattle.printed.proofs.Records.{none-some}
use Rattle.orders.specs.Kinds.{lift_kind, cure_kind, finish_kind, float_length, finish_length, allowed_after, fits}
use Rattle.orders.specs.File.{lift_place, cure_place, no_layers, grown, lifts_by, thickness_at, lift_checks, cure_checks, finish_checks, next_checks, finishes, layer_checks, orders_checks, file_checks}
use Rattle.orders.specs.Lent.{lent_checks}
use Rattle.orders.specs.Reading.{order_in, reading_order}
use Rattle.orders.specs.declared.Stack.{Stack}
use Rattle.promises.specs.Kinds.{order_allows}
use Rattle.promises.specs.Printing.{Lent}
use Rattle.promises.specs.Reader.{Reader, asks, Reached, starts, further, Stops}
use Rattle.promises.specs.Readers.{OrderKnown, stacked, lifted, order_reader}
use Rattle.promises.proofs.Longer.{word-longer, quad-longer, kind-longer, tail-longer}
use Rattle.promises.proofs.Lawful.{NotOfFrame, FramedNext, GoesOn, Lawful, passed-frame}
use Rattle.promises.proofs.Split.{not-of-frame}
use Rattle.promises.proofs.PrintedRecords.{Head}
use Rattle.promises.proofs.PrintedRead.{lent-fine}

module _ (N T step : ℕ) (cures : List ℕ) where
  abbrev reader : Reader OrderKnown
  reader = order_reader N T step cures

  -- no number of a frame's is among its own
  own-numbers : (file : List ℕ) (known : OrderKnown) (r : Numbered) → first (reader.own file known) ≡ some r → NotOfFrame r.number
  unfolding lift_checks finish_checks
  own-numbers file (stacked read) r e = go (finishes file read.layers) e
    where
      go : (b : Bool) → first (cond b (finish_checks N file read) (lift_checks N T step cures file read)) ≡ some r → NotOfFrame r.number
      go true q = not-of-frame (finish_checks N file read) (21 ∷ 21 ∷ []) refl refl r q
      go false q = not-of-frame (lift_checks N T step cures file read) (21 ∷ []) refl refl r q
  own-numbers file (lifted read t) r e = not-of-frame (reader.own file (lifted read t)) (21 ∷ []) refl refl r e

  -- ---- what stands where a frame passes

  module _ (file : List ℕ) where
    finish-stands : (read : Stack) → FramedNext reader file (stacked read) → finishes file read.layers ≡ true
        → Head file (lift_place read.layers) finish_kind finish_length
    unfolding fits
    finish-stands read f k =
        let at = lift_place read.layers in
        let b = rw k at f.fits in
        let long = eqb-true (length_at file at) finish_length b in
        record { kind-is = eqb-true (kind_at file at) finish_kind k; long-is = long; within = omega (arith, f.within) }

    lift-stands : (read : Stack) → FramedNext reader file (stacked read) → finishes file read.layers ≡ false
        → Head file (lift_place read.layers) lift_kind float_length
    unfolding allowed_after fits
    lift-stands read f k =
        let at = lift_place read.layers in
        let a = rw k at f.allows in
        let b = rw k at f.fits in
        let long = eqb-true (length_at file at) float_length b in
        record { kind-is = eqb-true (kind_at file at) lift_kind a; long-is = long; within = omega (arith, f.within) }

    cure-stands : (read : Stack) (t : ℕ) → FramedNext reader file (lifted read t) → Head file (cure_place read.layers) cure_kind float_length
    cure-stands read t f =
        let at = cure_place read.layers in
        let long = eqb-true (length_at file at) float_length f.fits in
        record { kind-is = eqb-true (kind_at file at) cure_kind f.allows; long-is = long; within = omega (arith, f.within) }

    -- where another comes, this one was no finish, and it is known what is known then
    record Goes (read : Stack) (next : OrderKnown) : Type 0 where
      no_finish : finishes file read.layers ≡ false
      next-is : lifted read (thickness_at T step cures file read) ≡ next

    goes : (read : Stack) (next : OrderKnown) → reader.onward file (stacked read) ≡ some next → Goes read next
    goes read next e = go (finishes file read.layers) refl e
      where
        go : (b : Bool) → finishes file read.layers ≡ b → cond b none (some (lifted read (thickness_at T step cures file read))) ≡ some next → Goes read next
        go true k q = absurd (none-some q)
        go false k q = record { no_finish = k; next-is = cc }

  -- ---- a longer file

  module _ (file more : List ℕ) where
    finishes-longer : (layers : ℕ) → lift_place layers + 4 ≤ length file → finishes (file ++ more) layers ≡ finishes file layers
    finishes-longer layers l = ap (λ (k : ℕ). eqb k finish_kind) (kind-longer file more (lift_place layers) l)

    module _ (read : Stack) where
      abbrev at : ℕ
      at = lift_place read.layers

      thickness-longer : at + 8 ≤ length file → thickness_at T step cures (file ++ more) read ≡ thickness_at T step cures file read
      unfolding thickness_at
      thickness-longer l =
          ap (λ (bits : ℕ). lowest (lifts_by T step cures read.rise bits) (tmax T) + 1) (quad-longer file more (body_at at) (omega arith))

      lift-longer : at + 8 ≤ length file → lift_checks N T step cures (file ++ more) read ≡ lift_checks N T step cures file read
      unfolding lift_checks
      lift-longer l = rw (thickness-longer l)

      finish-longer : at + 6 ≤ length file → (r : Numbered) → first (finish_checks N file read) ≡ some r → first (finish_checks N (file ++ more) read) ≡ some r
      unfolding finish_checks
      finish-longer l r e =
          rw (word-longer file more (body_at at) (omega arith))
          (tail-longer file more (disagrees (not (eqb (le16 file (body_at at)) read.layers && may_finish N read.rise)) at ∷ []) (body_at at + finish_length) r e)

    -- of a lift and of a time it asks the same
    own-lift : (read : Stack) → FramedNext reader file (stacked read) → finishes file read.layers ≡ false
        → reader.own (file ++ more) (stacked read) ≡ reader.own file (stacked read)
    own-lift read f k =
        let h = lift-stands file read f k in
        simp (finishes-longer read.layers (omega arith), k) (lift-longer read (omega arith))

    own-cure : (read : Stack) (t : ℕ) → FramedNext reader file (lifted read t) → reader.own (file ++ more) (lifted read t) ≡ reader.own file (lifted read t)
    own-cure read t f =
        let h = cure-stands file read t f in
        rw (quad-longer file more (body_at (cure_place read.layers)) (omega arith))

    same-fault : (known : OrderKnown) → FramedNext reader file known → (r : Numbered) → first (reader.own file known) ≡ some r
        → first (reader.own (file ++ more) known) ≡ some r
    same-fault (stacked read) f r e = go (finishes file read.layers) refl
      where
        go : (b : Bool) → finishes file read.layers ≡ b → first (reader.own (file ++ more) (stacked read)) ≡ some r
        go true k =
            let h = finish-stands file read f k in
            simp (finishes-longer read.layers (omega arith), k) (finish-longer read (omega arith) r (simp k at e))
        go false k = ap first (own-lift read f k) ∙ e
    same-fault (lifted read t) f r e = ap first (own-cure read t f) ∙ e

    same-onward : (known next : OrderKnown) → FramedNext reader file known → GoesOn reader file known next → GoesOn reader (file ++ more) known next
    same-onward (stacked read) next f g =
        let k = goes file read next g.onward in
        let h = lift-stands file read f k.no_finish in
        record {
          quiet = ap first (own-lift read f k.no_finish) ∙ g.quiet;
          onward = simp (finishes-longer read.layers (omega arith), k.no_finish, thickness-longer read (omega arith)) (ap some k.next-is);
        }
    same-onward (lifted read t) next f g = record { quiet = ap first (own-cure read t f) ∙ g.quiet; onward = g.onward }

  -- ---- places

  module _ (file : List ℕ) where
    next_place : (known next : OrderKnown) → FramedNext reader file known → GoesOn reader file known next
        → reader.place next ≡ past_at file (reader.place known)
    next_place (stacked read) next f g =
        let k = goes file read next g.onward in
        let h = lift-stands file read f k.no_finish in
        sym (ap reader.place k.next-is) ∙ omega arith
    next_place (lifted read t) next f g =
        let h = cure-stands file read t f in
        let e : stacked (grown read t) ≡ next = cc in
        sym (ap reader.place e) ∙ omega arith

    finish-last : (read : Stack) → first (finish_checks N file read) ≡ none → length file ≤ body_at (lift_place read.layers) + finish_length
    unfolding finish_checks
    finish-last read e =
        ltb-false (body_at (lift_place read.layers) + finish_length) (length file) ((first-none (finish_checks N file read)).0 e).1.0

    last : (known : OrderKnown) → FramedNext reader file known → first (reader.own file known) ≡ none → reader.onward file known ≡ none
        → length file ≤ past_at file (reader.place known)
    last (stacked read) f e o = go (finishes file read.layers) refl
      where
        go : (b : Bool) → finishes file read.layers ≡ b → length file ≤ past_at file (lift_place read.layers)
        go true k = let h = finish-stands file read f k in omega (arith, finish-last read (simp k at e))
        go false k = absurd (none-some (sym (simp k at o)))
    last (lifted read t) f e o = absurd (none-some (sym o))

  -- ---- kinds

  unknown : (known : OrderKnown) (kind : ℕ) → 256 ≤ kind → kind < 512 → reader.allows known kind ≡ false
  unfolding allowed_after
  unknown (stacked read) kind l h = simp (ne_eqb kind finish_kind (λ e. omega arith), ne_eqb kind lift_kind (λ e. omega arith))
  unknown (lifted read t) kind l h = ne_eqb kind cure_kind (λ e. omega arith)

  -- before the first layer, and behind one
  none_yet : (kind : ℕ) → allowed_after 0 kind ≡ eqb kind lift_kind
  unfolding allowed_after
  none_yet kind = go (eqb kind finish_kind) refl
    where
      go : (b : Bool) → eqb kind finish_kind ≡ b → cond b false (eqb kind lift_kind) ≡ eqb kind lift_kind
      go true k = let e = eqb-true kind finish_kind k in sym (ne_eqb kind lift_kind (λ q. omega arith))
      go false k = refl

  some-already : (layers kind : ℕ) → 0 < layers → allowed_after layers kind ≡ eqb kind lift_kind || eqb kind finish_kind
  unfolding allowed_after
  some-already layers kind l = rw (lt-ltb 0 layers l) (go (eqb kind finish_kind) (eqb kind lift_kind))
    where
      go : (b c : Bool) → cond b true c ≡ c || b
      go true true = refl
      go true false = refl
      go false true = refl
      go false false = refl

  kind-test : (file : List ℕ) {known : OrderKnown} {kinds : List ℕ} → Reached reader file known kinds → (kind : ℕ)
      → reader.allows known kind ≡ order_allows kinds kind
  unfolding order_allows
  kind-test file starts kind = none_yet kind
  kind-test file (further {known} {next} {kinds} reached e o) kind = go known next e o
    where
      go : (known next : OrderKnown) → first (asks reader file known) ≡ none → reader.onward file known ≡ some next
          → reader.allows next kind ≡ order_allows (kind_at file (reader.place known) ∷ kinds) kind
      go (stacked read) next e o =
          let k = goes file read next o in
          let h = lift-stands file read (passed-frame reader file (stacked read) e) k.no_finish in
          sym (ap (λ (n : OrderKnown). reader.allows n kind) k.next-is) ∙ simp h.kind-is
      go (lifted read t) next e o =
          let h = cure-stands file read t (passed-frame reader file (lifted read t) e) in
          let n : stacked (grown read t) ≡ next = cc in
          sym (ap (λ (n : OrderKnown). reader.allows n kind) n) ∙ some-already (read.layers + 1) kind (omega arith) ∙ simp h.kind-is

  pub order-lawful : Lawful (order_reader N T step cures) order_allows
  order-lawful = record {
    own-numbers = own-numbers;
    same-fault = same-fault;
    same-onward = same-onward;
    next_place = next_place;
    last = last;
    unknown = unknown;
    kind-test = kind-test;
  }

  -- ---- the checks of the file, record after record

  module _ (file : List ℕ) where
    abbrev all : OrderKnown → List (Check Numbered)
    all known = asks reader file known

    abbrev orders : ℕ → Stack → List (Check Numbered)
    orders n read = orders_checks N T step cures file n read

    abbrev thickness : Stack → ℕ
    thickness read = thickness_at T step cures file read

    -- those of the records behind one, with at most so many layers more
    abbrev behind : ℕ → Option OrderKnown → List (Check Numbered)
    behind n none = []
    behind n (some (stacked read)) = orders n read
    behind n (some (lifted read t)) = all (lifted read t) ++ orders n (grown read t)

    turn : (n : ℕ) (read : Stack) → orders (suc n) read ≡ all (stacked read) ++ behind n (reader.onward file (stacked read))
    unfolding orders_checks layer_checks next_checks cure_checks
    turn n read = go (finishes file read.layers)
      where
        next : List (Check Numbered)
        next = next_checks file read.layers

        lifting : List (Check Numbered)
        lifting = lift_checks N T step cures file read

        curing : List (Check Numbered)
        curing = cure_checks cures file read.layers (thickness read)

        later : List (Check Numbered)
        later = orders n (grown read (thickness read))

        go : (b : Bool) → next ++ cond b (finish_checks N file read) ((lifting ++ curing) ++ later)
            ≡ (next ++ cond b (finish_checks N file read) lifting) ++ behind n (cond b none (some (lifted read (thickness read))))
        go true = sym (append-nil (next ++ finish_checks N file read))
        go false = ap (λ (l : List (Check Numbered)). next ++ l) (append_assoc lifting curing later) ∙ sym (append_assoc next lifting (curing ++ later))

    -- behind as many layers as there are bytes nothing is left, which a record says first too
    none_left : (read : Stack) → length file ≤ read.layers → (later : List (Check Numbered)) → first (orders 0 read) ≡ first (all (stacked read) ++ later)
    unfolding orders_checks frame_checks
    none_left read l later = simp (lt-ltb (left file (lift_place read.layers)) 4 (omega arith))

    -- ---- from the file to a record

    abbrev Found : Numbered → Type 0
    Found r = Stops reader file (λ known kinds. first (all known) ≡ some r)

    stage : {known : OrderKnown} {kinds : List ℕ} → Reached reader file known kinds → (later : List (Check Numbered)) (r : Numbered)
        → first (all known ++ later) ≡ some r → (first (all known) ≡ none → first later ≡ some r → Found r) → Found r
    stage {known} {kinds} reached later r e on = go (first (all known)) refl
      where
        go : (o : Option Numbered) → first (all known) ≡ o → Found r
        go none p = on p (sym (first-passed (all known) later p) ∙ e)
        go (some q) p = record { known = known; kinds = kinds; reached = reached; fault = p ∙ (sym (first-stopped (all known) later q p) ∙ e) }

    module _ (n : ℕ) (read : Stack) (r : Numbered) where
      abbrev next : Stack
      next = grown read (thickness read)

      found-behind : {kinds : List ℕ} → Reached reader file (stacked read) kinds
          → ((kinds : List ℕ) → Reached reader file (stacked next) kinds → first (orders n next) ≡ some r → Found r)
          → first (all (stacked read)) ≡ none → first (behind n (reader.onward file (stacked read))) ≡ some r → Found r
      found-behind reached on p e = go (finishes file read.layers) refl e
        where
          go : (b : Bool) → finishes file read.layers ≡ b → first (behind n (cond b none (some (lifted read (thickness read))))) ≡ some r → Found r
          go true k e = absurd (none-some e)
          go false k e =
              let up = further {next = lifted read (thickness read)} reached p (simp k) in
              stage up (orders n next) r e (λ p e. on _ (further up p refl) e)

    found : (n : ℕ) (read : Stack) {kinds : List ℕ} → Reached reader file (stacked read) kinds → length file ≤ n + read.layers → (r : Numbered)
        → first (orders n read) ≡ some r → Found r
    found zero read reached room r e = stage reached [] r (sym (none_left read (omega arith) []) ∙ e) (λ p e. absurd (none-some e))
    found (suc n) read reached room r e =
        stage reached (behind n (reader.onward file (stacked read))) r (sym (ap first (turn n read)) ∙ e)
        (found-behind n read r reached (λ kinds d e. found n (grown read (thickness read)) d (omega arith) r e))

    -- ---- from a record to the file

    abbrev layers_of : OrderKnown → ℕ
    layers_of (stacked read) = read.layers
    layers_of (lifted read t) = read.layers

    -- the file's checks come down to those of this record and of all behind it
    record Down (o : Option Numbered) (known : OrderKnown) : Type 0 where
      more : ℕ
      room : length file ≤ suc more + layers_of known
      same : o ≡ first (all known ++ behind more (reader.onward file known))

    down-from : (n : ℕ) (read : Stack) → length file ≤ n + read.layers → Down (first (orders n read)) (stacked read)
    down-from zero read room = record { more = 0; room = omega arith; same = none_left read (omega arith) (behind 0 (reader.onward file (stacked read))) }
    down-from (suc n) read room = record { more = n; room = room; same = ap first (turn n read) }

    down-on : {o : Option Numbered} (known next : OrderKnown) → first (all known) ≡ none → reader.onward file known ≡ some next → Down o known → Down o next
    down-on {o} (stacked read) next p e d =
        let n = (goes file read next e).next-is in
        subst (Down o) n
        (record {
          more = d.more;
          room = d.room;
          same =
              d.same
              ∙ first-passed (all (stacked read)) (behind d.more (reader.onward file (stacked read))) p
              ∙ ap (λ (q : Option OrderKnown). first (behind d.more q)) (e ∙ ap some (sym n));
        })
    down-on {o} (lifted read t) next p e d =
        let n : stacked (grown read t) ≡ next = cc in
        subst (Down o) n
        (subst (λ (o : Option Numbered). Down o (stacked (grown read t))) (sym (d.same ∙ first-passed (all (lifted read t)) (orders d.more (grown read t)) p))
        (down-from d.more (grown read t) (omega arith)))

    down : {known : OrderKnown} {kinds : List ℕ} → Reached reader file known kinds → Down (first (file_checks N T step cures file)) known
    unfolding file_checks
    down starts = down-from (length file) no_layers (omega arith)
    down (further {known} {next} reached p e) = down-on known next p e (down reached)

    decides : (r : Numbered) → (first (file_checks N T step cures file) ≡ some r) ↔ Found r
    unfolding file_checks
    decides r = (
      λ e. found (length file) no_layers starts (omega arith) r e,
      λ s.
          let d = down s.reached in
          d.same ∙ first-stopped (all s.known) (behind d.more (reader.onward file s.known)) r s.fault,
    )

  pub order-decides : Lent N T step cures → (number : ℕ) (file : List ℕ) (n place : ℕ) → (answer_of (reading_order N T step cures file number) ≡ refused n place)
      ↔ Stops (order_reader N T step cures) file (λ known kinds. first (asks (order_reader N T step cures) file known) ≡ some (record { number = n; place = place }))
  unfolding reading_order
  order-decides l number file n place =
      let value = order_in T step cures file number in
      let passed = decided-passed (lent_checks N T step cures) (file_checks N T step cures file) value (lent-fine l) in
      let both = decides file (record { number = n; place = place }) in (
        λ e. both.0 (refused-first (file_checks N T step cures file) value n place (sym passed ∙ e)),
        λ s. passed ∙ ap (λ (o : Option Numbered). told_by o value) (both.1 s),
      )
