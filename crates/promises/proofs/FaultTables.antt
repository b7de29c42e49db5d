-- A table file as one that is read record by record. Its checks are the records' own lists, one behind the other: the head's, then row after row. A row that
-- passes has rows left and an end that passes has none, so that the list goes on exactly where the reader does, and the first check that holds is the
-- first of the record at which the reader stops. The bytes of a record that stands whole are the same in a longer file, so that what is asked of it is
-- the same. What the reader goes on behind has the kind 16 where it is the head, and else 17. Assumes nothing.
use mathlib.Core.Path.{◌≡◌, refl, sym, ap, ap₂, ◌∙◌}
use mathlib.Core.Logic.{◌↔◌}
use mathlib.Core.Bool.{Bool, true, false, not, cond, ◌||◌, or-false}
use mathlib.Core.List.{List, [], ◌∷◌, ◌++◌}
use mathlib.Core.Option.{Option, none, some}
use Prim.Native.Nat.{ℕ, zero, suc, ◌+◌, ◌≤◌, ◌<◌}
use native.Mathlib.Omega.{arith}
use borrow.Author.Tests.{lt-ltb, ltb-false, ne_eqb, eqb-true}
use lib.Dec.{ltb, eqb}
use lib.ListN.{length}
use Rattle.lists.specs.Checks.{Check, first}
use Rattle.lists.proofs.Checks.{first-none, first-passed, first-stopped}
use Rattle.paper.specs.Layer.{tmax}
use Rattle.plate.specs.Head.{held_in}
use Rattle.plate.specs.Refusal.{Numbered, check, refused, told_by}
use Rattle.plate.specs.Settings.{settings_checks}
use Rattle.plate.specs.declared.head.Head.{Head}
use Rattle.plate.proofs.Decided.{refused-first}
use Rattle.record.specs.Frame.{length_at, kind_at, body_at, past_at}
use Rattle.record.specs.Faults.{disagrees}
use Rattle.sent.specs.Kinds.{head_kind, row_kind, end_kind, head_length, row_length, end_length, allowed_after, fits}
use Rattle.sent.specs.Start.{row_start, twos16}
use Rattle.sent.specs.Written.{rows_of}
use Rattle.sent.specs.File.{head_in, opening_checks, row_place, some_over, row_checks, rows_wrong, end_checks, record_checks, rows_checks, file_checks, cells_in, table_file}
use Rattle.sent.proofs.Rows.{place-first, place-next}
use Rattle.receive.proofs.Asks.{end-missing, row-past, rows-stop, rows_next}
use Rattle.promises.specs.Kinds.{table_allows}
use Rattle.promises.specs.Reader.{asks, Reached, Stops, starts, further}
use Rattle.promises.specs.Readers.{TableKnown, opening, behind, table_reader, table_own, table_onward, row_onward}
use Rattle.promises.proofs.Lawful.{NotOfFrame, FramedNext, GoesOn, Lawful, passed-frame, passed-own}
use Rattle.promises.proofs.Split.{not-of-frame}
use Rattle.promises.proofs.Longer.{word-longer, quad-longer, kind-longer, quads-longer, tail-longer}

-- ---- a record that passes, and what comes behind it

-- the place where row r goes
abbrev standing : Head → ℕ → ℕ
standing head r = row_place head.members r

module _ (s : List ℕ) (head : Head) where
  -- whether what stands there is the end
  abbrev is_end : ℕ → Bool
  is_end r = eqb (kind_at s (standing head r)) end_kind

  -- what passes where a row is left is a row
  row-passes : (left r : ℕ) → first (table_own s (behind head (suc left) r)) ≡ none → is_end r ≡ false
  row-passes left r e = go (is_end r) refl e
    where
      go : (b : Bool) → is_end r ≡ b → first (cond b (end_checks s head (suc left) r) (row_checks s head (suc left) r)) ≡ none → is_end r ≡ false
      go true h q = absurd (let m = end-missing s head (suc left) r (omega arith) in let z : ◌≡◌ {A = ℕ} 0 1 = cc in omega arith)
      go false h q = h

  -- behind it the next row comes
  row-onward : (left r : ℕ) → is_end r ≡ false → table_onward s (behind head (suc left) r) ≡ some (behind head left (suc r))
  row-onward left r h = simp h

  -- another record comes behind a row alone, and it is the next one
  onward-row : (left r : ℕ) (next : TableKnown) → table_onward s (behind head left r) ≡ some next
      → (is_end r ≡ false) × (less : ℕ) × (left ≡ suc less) × (next ≡ behind head less (suc r))
  onward-row left r next e = go (is_end r) left refl e
    where
      go : (b : Bool) (n : ℕ) → is_end r ≡ b → cond b none (row_onward head n r) ≡ some next
          → (is_end r ≡ false) × (less : ℕ) × (n ≡ suc less) × (next ≡ behind head less (suc r))
      go true n h q = absurd (let z : ◌≡◌ {A = ℕ} 0 1 = cc in omega arith)
      go false zero h q = absurd (let z : ◌≡◌ {A = ℕ} 0 1 = cc in omega arith)
      go false (suc less) h q = (h, less, refl, cc)

-- ---- the first record at fault decides

module _ (s : List ℕ) where
  -- the checks from a record on
  abbrev rest : TableKnown → List (Check Numbered)
  rest opening = file_checks s
  rest (behind head left r) = rows_checks s head left r

  -- they go on where the reader does
  goes_on : (known next : TableKnown) → first (asks table_reader s known) ≡ none → table_onward s known ≡ some next → first (rest known) ≡ first (rest next)
  unfolding file_checks opening_checks record_checks
  goes_on opening next e o =
      let first-row = behind (head_in s) (rows_of (head_in s)) 0 in
      let is : first-row ≡ next = cc in
      first-passed (opening_checks s) (rest first-row) e ∙ ap (λ (k : TableKnown). first (rest k)) is
  goes_on (behind head zero r) next e o = absurd (omega (arith, (onward-row s head 0 r next o).2))
  goes_on (behind head (suc left) r) next e o =
      let q = onward-row s head (suc left) r next o in
      let n : left ≡ q.1 = omega (arith, q.2) in
      let is : behind head left (suc r) ≡ next = cc q.3 in
      rows_next s head left r (sym e) ∙ ap (λ (k : TableKnown). first (rest k)) is

  -- where a record that is reached has a fault, that is the first of them
  stops_at : (known : TableKnown) (fault : Numbered) → first (asks table_reader s known) ≡ some fault → first (rest known) ≡ some fault
  unfolding file_checks opening_checks record_checks
  stops_at opening fault e = first-stopped (opening_checks s) (rows_checks s (head_in s) (rows_of (head_in s)) 0) fault e
  stops_at (behind head left r) fault e = sym (rows-stop s head left r fault (sym e))

  reached-rest : {known : TableKnown} {kinds : List ℕ} → Reached table_reader s known kinds → first (file_checks s) ≡ first (rest known)
  reached-rest starts = refl
  reached-rest (further {known} {next} reached e o) = reached-rest reached ∙ goes_on known next e o

  module _ (fault : Numbered) where
    abbrev Faulty : TableKnown → List ℕ → Type 0
    Faulty known kinds = first (asks table_reader s known) ≡ some fault

    stops_first : Stops table_reader s Faulty → first (file_checks s) ≡ some fault
    stops_first p = reached-rest p.reached ∙ stops_at p.known fault p.fault

    -- where it is said from a record on, it is said of that record, or it passes and the fault is said from the next one on
    first-at : (known next : TableKnown) {kinds : List ℕ} → Reached table_reader s known kinds → first (rest known) ≡ some fault
        → (first (asks table_reader s known) ≡ none → table_onward s known ≡ some next)
        → (Reached table_reader s next (kind_at s (table_reader.place known) ∷ kinds) → first (rest next) ≡ some fault → Stops table_reader s Faulty)
        → Stops table_reader s Faulty
    first-at known next {kinds} reached e onward later = go (first (asks table_reader s known)) refl
      where
        go : (o : Option Numbered) → first (asks table_reader s known) ≡ o → Stops table_reader s Faulty
        go none q = later (further reached q (onward q)) (sym (goes_on known next q (onward q)) ∙ e)
        go (some f) q = record { known = known; kinds = kinds; reached = reached; fault = q ∙ sym (stops_at known f q) ∙ e }

    first_rows : (head : Head) (left r : ℕ) {kinds : List ℕ} → Reached table_reader s (behind head left r) kinds → first (rows_checks s head left r) ≡ some fault
        → Stops table_reader s Faulty
    unfolding rows_checks record_checks
    first_rows head zero r {kinds} reached e = record { known = behind head 0 r; kinds = kinds; reached = reached; fault = e }
    first_rows head (suc left) r reached e =
        let here = behind head (suc left) r in
        first-at here (behind head left (suc r)) reached e
        (λ q. row-onward s head left r (row-passes s head left r (passed-own table_reader s here q))) (first_rows head left (suc r))

    first_stops : first (file_checks s) ≡ some fault → Stops table_reader s Faulty
    first_stops e =
        let rows = rows_of (head_in s) in
        first-at opening (behind (head_in s) rows 0) starts e (λ q. refl) (first_rows (head_in s) rows 0)

pub table-decides : (file : List ℕ) (number place : ℕ) → (table_file file ≡ refused number place)
    ↔ Stops table_reader file (λ known kinds. first (asks table_reader file known) ≡ some (record { number = number; place = place }))
unfolding table_file
table-decides file number place =
    let fault : Numbered = record { number = number; place = place } in (
      λ e. first_stops file fault (refused-first (file_checks file) (held_in (head_in file) (cells_in file)) number place e),
      λ p. ap (λ (o : Option Numbered). told_by o (held_in (head_in file) (cells_in file))) (stops_first file fault p),
    )

-- ---- no number of a frame's is among its own

own-numbers : (s : List ℕ) (known : TableKnown) (r : Numbered) → first (table_own s known) ≡ some r → NotOfFrame r.number
unfolding settings_checks row_checks end_checks
own-numbers s opening fault e = not-of-frame (table_own s opening) (1 ∷ 2 ∷ 7 ∷ []) refl refl fault e
own-numbers s (behind head left r) fault e = go (is_end s head r) e
  where
    go : (b : Bool) → first (cond b (end_checks s head left r) (row_checks s head left r)) ≡ some fault → NotOfFrame fault.number
    go true q = not-of-frame (end_checks s head left r) (21 ∷ 21 ∷ []) refl refl fault q
    go false q = not-of-frame (row_checks s head left r) (21 ∷ 6 ∷ []) refl refl fault q

-- ---- what a frame that passed says

module _ (s : List ℕ) (head : Head) (left r : ℕ) (f : FramedNext table_reader s (behind head left r)) where
  -- the length of an end, and the length and the kind of a row
  end-long : is_end s head r ≡ true → length_at s (standing head r) ≡ end_length
  unfolding fits
  end-long h = eqb-true (length_at s (standing head r)) end_length (simp h at f.fits)

  row-long : is_end s head r ≡ false → length_at s (standing head r) ≡ row_length head.members
  unfolding fits
  row-long h = eqb-true (length_at s (standing head r)) (row_length head.members) (simp h at f.fits)

  row-kind : is_end s head r ≡ false → kind_at s (standing head r) ≡ row_kind
  unfolding allowed_after
  row-kind h = eqb-true (kind_at s (standing head r)) row_kind (simp h at f.allows)

-- ---- its bytes in a longer file

module _ (s more : List ℕ) where
  -- the head, which stands whole
  opening-long : FramedNext table_reader s opening → 14 ≤ length s
  opening-long f = omega (arith, f.within, eqb-true (length_at s 0) head_length f.fits)

  head-longer : FramedNext table_reader s opening → head_in (s ++ more) ≡ head_in s
  unfolding head_in
  head-longer f =
      let long = opening-long f in
      let height = word-longer s more 4 (omega arith) in
      let members = quad-longer s more 6 (omega arith) in
      let columns = quad-longer s more 10 (omega arith) in
      λ i. record { height = height i; members = members i; columns = columns i }

  module _ (head : Head) (left r : ℕ) (f : FramedNext table_reader s (behind head left r)) where
    -- whether it is the end
    end-longer : is_end (s ++ more) head r ≡ is_end s head r
    end-longer = ap (λ (kind : ℕ). eqb kind end_kind) (kind-longer s more (standing head r) (omega (arith, f.within)))

    -- a row is asked the same
    row-longer : is_end s head r ≡ false → row_checks (s ++ more) head left r ≡ row_checks s head left r
    unfolding row_checks row_length
    row-longer h =
        let long = row-long s head left r f h in
        ap₂ (λ (given : ℕ) (row : List ℕ).
        disagrees (eqb left 0 || not (eqb given (twos16 (row_start head.members r)))) (standing head r) ∷ check 6 (some_over head row) (standing head r) ∷ [])
        (word-longer s more (body_at (standing head r)) (omega (arith, f.within)))
        (quads-longer s more (body_at (standing head r) + 2) (tmax head.members) (omega (arith, f.within)))

    -- and so is an end, but for what stands past it: bytes that stand past it do so in a longer file
    end-fault : is_end s head r ≡ true → (fault : Numbered) → first (end_checks s head left r) ≡ some fault → first (end_checks (s ++ more) head left r) ≡ some fault
    unfolding end_checks
    end-fault h fault e =
        let long = end-long s head left r f h in
        rw (word-longer s more (body_at (standing head r)) (omega (arith, f.within)))
        (tail-longer s more (disagrees (rows_wrong s head left r) (standing head r) ∷ []) (body_at (standing head r) + end_length) fault e)

    record-fault : (fault : Numbered) → first (table_own s (behind head left r)) ≡ some fault → first (table_own (s ++ more) (behind head left r)) ≡ some fault
    record-fault fault e = rw end-longer (go (is_end s head r) refl e)
      where
        go : (b : Bool) → is_end s head r ≡ b → first (cond b (end_checks s head left r) (row_checks s head left r)) ≡ some fault
            → first (cond b (end_checks (s ++ more) head left r) (row_checks (s ++ more) head left r)) ≡ some fault
        go true h q = end-fault h fault q
        go false h q = ap first (row-longer h) ∙ q

    record-onward : (next : TableKnown) → GoesOn table_reader s (behind head left r) next → GoesOn table_reader (s ++ more) (behind head left r) next
    record-onward next g =
        let h = (onward-row s head left r next g.onward).0 in
        record {
          quiet = rw (end-longer, h) (ap first (row-longer h) ∙ (rw h at g.quiet));
          onward = rw end-longer g.onward;
        }

  same-fault : (known : TableKnown) → FramedNext table_reader s known → (fault : Numbered) → first (table_own s known) ≡ some fault
      → first (table_own (s ++ more) known) ≡ some fault
  same-fault opening f fault e = rw (head-longer f) e
  same-fault (behind head left r) f fault e = record-fault head left r f fault e

  same-onward : (known next : TableKnown) → FramedNext table_reader s known → GoesOn table_reader s known next → GoesOn table_reader (s ++ more) known next
  same-onward opening next f g = record { quiet = rw (head-longer f) g.quiet; onward = rw (head-longer f) g.onward }
  same-onward (behind head left r) next f g = record-onward head left r f next g

-- ---- where the next record stands, and what stands behind the end

-- an end that passes is the last of the file
end-past : (s : List ℕ) (head : Head) (left r : ℕ) → first (end_checks s head left r) ≡ none → length s ≤ body_at (standing head r) + end_length
unfolding end_checks
end-past s head left r e = ltb-false (body_at (standing head r) + end_length) (length s) ((first-none (end_checks s head left r)).0 e).1.0

module _ (s : List ℕ) where
  next_place : (known next : TableKnown) → FramedNext table_reader s known → GoesOn table_reader s known next
      → table_reader.place next ≡ past_at s (table_reader.place known)
  next_place opening next f g =
      let is : behind (head_in s) (rows_of (head_in s)) 0 ≡ next = cc g.onward in
      rw (← is) (omega (arith, place-first (head_in s).members, eqb-true (length_at s 0) head_length f.fits))
  next_place (behind head left r) next f g =
      let q = onward-row s head left r next g.onward in
      rw q.3 (omega (arith, place-next head.members r, row-long s head left r f q.0))

  last : (known : TableKnown) → FramedNext table_reader s known → first (table_own s known) ≡ none → table_onward s known ≡ none
      → length s ≤ past_at s (table_reader.place known)
  last opening f e o = absurd (let z : ◌≡◌ {A = ℕ} 0 1 = cc in omega arith)
  last (behind head left r) f e o = go (is_end s head r) left refl e o
    where
      go : (b : Bool) (n : ℕ) → is_end s head r ≡ b → first (cond b (end_checks s head n r) (row_checks s head n r)) ≡ none → cond b none (row_onward head n r) ≡ none
          → length s ≤ past_at s (standing head r)
      go true n h q p = omega (arith, end-past s head n r q, end-long s head left r f h)
      go false zero h q p = absurd (let m = row-past s head 0 r refl in let z : ◌≡◌ {A = ℕ} 0 1 = cc in omega arith)
      go false (suc n) h q p = absurd (let z : ◌≡◌ {A = ℕ} 0 1 = cc in omega arith)

-- ---- kinds

unknown : (known : TableKnown) (kind : ℕ) → 256 ≤ kind → kind < 512 → table_reader.allows known kind ≡ false
unfolding allowed_after
unknown opening kind l u = ne_eqb kind head_kind (λ e. omega arith)
unknown (behind head left r) kind l u = simp (ne_eqb kind end_kind (λ e. omega arith), ne_eqb kind row_kind (λ e. omega arith))

-- an end is no row
end-no-row : (kind : ℕ) → eqb kind end_kind ≡ true → eqb kind row_kind ≡ false
end-no-row kind h = ne_eqb kind row_kind (λ e. omega (arith, eqb-true kind end_kind h))

after-head : (kinds : List ℕ) (kind : ℕ) → allowed_after 0 kind ≡ table_allows (head_kind ∷ kinds) kind
unfolding table_allows allowed_after
after-head kinds kind = go (eqb kind end_kind) refl
  where
    go : (b : Bool) → eqb kind end_kind ≡ b → cond b (ltb 0 0) (eqb kind row_kind) ≡ eqb kind row_kind
    go true h = sym (end-no-row kind h)
    go false h = refl

after-row : (r : ℕ) (kinds : List ℕ) (kind : ℕ) → allowed_after (suc r) kind ≡ table_allows (row_kind ∷ kinds) kind
unfolding table_allows allowed_after
after-row r kinds kind = rw (lt-ltb 0 (suc r) (omega arith)) (go (eqb kind end_kind) refl)
  where
    go : (b : Bool) → eqb kind end_kind ≡ b → cond b true (eqb kind row_kind) ≡ (eqb kind row_kind || b)
    go true h = simp (end-no-row kind h)
    go false h = sym (or-false (eqb kind row_kind))

-- behind a record that passes the kinds that may come are those behind its own kind
kinds-next : (s : List ℕ) (known next : TableKnown) (kinds : List ℕ) (kind : ℕ) → first (asks table_reader s known) ≡ none → table_onward s known ≡ some next
    → table_reader.allows next kind ≡ table_allows (kind_at s (table_reader.place known) ∷ kinds) kind
kinds-next s opening next kinds kind e o =
    let is : behind (head_in s) (rows_of (head_in s)) 0 ≡ next = cc in
    let head-kind = eqb-true (kind_at s 0) head_kind (passed-frame table_reader s opening e).allows in
    rw (← is, head-kind) (after-head kinds kind)
kinds-next s (behind head left r) next kinds kind e o =
    let q = onward-row s head left r next o in
    rw (q.3, row-kind s head left r (passed-frame table_reader s (behind head left r) e) q.0) (after-row r kinds kind)

kind-test : (s : List ℕ) {known : TableKnown} {kinds : List ℕ} → Reached table_reader s known kinds → (kind : ℕ)
    → table_reader.allows known kind ≡ table_allows kinds kind
unfolding table_allows
kind-test s starts kind = refl
kind-test s (further {known} {next} {kinds} reached e o) kind = kinds-next s known next kinds kind e o

pub table-lawful : Lawful table_reader table_allows
table-lawful = record {
  own-numbers = own-numbers;
  same-fault = same-fault;
  same-onward = same-onward;
  next_place = next_place;
  last = last;
  unknown = unknown;
  kind-test = kind-test;
}
