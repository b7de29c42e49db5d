-- Recounting over a table in bounds gives a sequence's error exactly where the sequence is admissible, and else 13 at the lowest index at fault. Every layer
-- of an admissible sequence is permitted, so no index is at fault. Where none is, each boundary lies over the one before, so that all of them lie over
-- the datum, and the tests that passed are what an admissible sequence is asked for. Up to the first fault the tests are the documents' words, so the
-- first of them that fails is at the lowest index at fault, and there is only one such. Assumes nothing.
use mathlib.Core.Path.{◌≡◌, refl, sym, ap, ap₂, ◌∙◌, subst}
use mathlib.Core.Logic.{◌⊎◌, inl, inr}
use mathlib.Core.Bool.{Bool, true, false, not, ◌||◌}
use mathlib.Core.List.{List, [], ◌∷◌}
use Prim.Native.Nat.{ℕ, zero, suc, ◌+◌, ◌-◌, ◌≤◌, ◌<◌}
use native.Mathlib.Decide.{dec_lt}
use native.Mathlib.Numerals.{add-one}
use native.Mathlib.Omega.{arith}
use borrow.Author.Tests.{le-ltb, lt-ltb, lt-leb, leb-true, ltb-false, not-false}
use lib.Dec.{leb, ltb}
use lib.IntN.{ℤ, pos, neg_ℤ}
use lib.ListN.{length}
use lib.Signed.{◌≤ℤ◌, ◌<ℤ◌}
use Rattle.lists.proofs.Checks.{or-false}
use Rattle.lists.proofs.Search.{lowest-none, lowest-before, lowest-passes}
use Rattle.paper.specs.Layer as paper
use Rattle.paper.specs.Layer.{Plate, allowed, tmax}
use Rattle.paper.specs.Table.{cell_at, of_table}
use Rattle.paper.specs.Sequence.{◌!◌, count, IsLayer, Admissible, error}
use Rattle.paper.proofs.Thicknesses.{and-true, allowed-from, tmax-le}
use Rattle.plate.specs.Call.{answer_of}
use Rattle.plate.specs.Datum.{datum, height_of}
use Rattle.plate.specs.Head.{Held}
use Rattle.plate.specs.Refusal.{Told, done, refused, decided}
use Rattle.plate.proofs.Datum.{height-datum, pos-height, le_up, le_down, lt_up, lt-down}
use Rattle.plate.proofs.Decided.{decided-passed}
use Rattle.sequence.specs.Rules.{shape}
use Rattle.sequence.specs.Sequence.{starts, lowest_end}
use Rattle.sequence.proofs.Layers.{shape-allowed, shape-below, shape-to}
use Rattle.column.proofs.Fine.{settings-fine}
use Rattle.table.specs.Table.{table_checks, Bounded}
use Rattle.table.proofs.Passed.{table-fine}
use Rattle.recount.specs.Recount.{layer_out, fault_at, first_fault, sequence_checks, recounting}
use Rattle.recount.proofs.Faults.{Faultless, fault-none, fault-parts, over, fault-words}
use Rattle.recount.proofs.Layers.{in-bound}
use Rattle.recount.proofs.Words.{rise, error-is, start-words}
use Rattle.meaning.proofs.Sequence.{starts-up}
use Rattle.meaning.proofs.Stacks.{at-datum, start-at, rising-datum, permitted-at}
use Rattle.promises.specs.Plans.{plate_of}
use Rattle.promises.proofs.Plans.{cell-height}
use Rattle.promises.specs.Recounts.{at_fault, LowestFault, RecountsExactly}

two : (zs : List ℤ) → 1 ≤ count zs → 2 ≤ length zs
two [] l = absurd (omega arith)
two (z ∷ zs) l = omega arith

some-layer : (zs : List ℤ) → 2 ≤ length zs → 1 ≤ count zs
some-layer [] l = absurd (omega arith)
some-layer (z ∷ zs) l = omega arith

pub clash : {b : Bool} → b ≡ true → b ≡ false → ⊥
clash p q = let z : ◌≡◌ {A = ℕ} 0 1 = cc in omega arith

-- boundaries over the datum rise where their heights do
lt-datum : (a b : ℤ) → 1 ≤ datum a → 1 ≤ datum b → datum a < datum b → a <ℤ b
lt-datum a b p q l = subst (λ (z : ℤ). a <ℤ z) (height-datum b q) (subst (λ (z : ℤ). z <ℤ height_of (datum b)) (height-datum a p) (lt_up (datum a) (datum b) l))

-- there is only one lowest index at fault
pub fault-only : (p : Plate) (bound : ℕ) (zs : List ℤ) (i j : ℕ) → LowestFault p bound zs i → LowestFault p bound zs j → i ≡ j
fault-only p bound zs i j a b = go (dec_lt i j) (dec_lt j i)
  where
    go : Dec (i < j) → Dec (j < i) → i ≡ j
    go (yes l) d = absurd (clash a.at-fault (b.none_before i l))
    go (no l) (yes u) = absurd (clash b.at-fault (a.none_before j u))
    go (no l) (no u) = omega arith

module _ (N T bound : ℕ) (table : List ℕ) (settings : paper.Settings N T) (zs : List ℤ) where
  abbrev p : Plate
  p = of_table N T table

  abbrev Quiet : ℕ → Type 0
  Quiet k = (j : ℕ) → j < k → fault_at N T table bound zs j ≡ false

  abbrev answer : Told ℕ
  answer = decided (sequence_checks N T table bound zs) (error p zs)

  -- ---- no index of an admissible sequence is at fault

  module _ (a : Admissible p bound zs) where
    at : (k : ℕ) → k ≤ count zs → zs ! k ≡ height_of (datum (zs ! k))
    at = at-datum p bound zs (count zs) a.stack

    first_above : 32 < datum (zs ! 1)
    first_above = lt-down 32 (datum (zs ! 1)) (rw (← pos-height 0) (subst (λ (z : ℤ). pos 0 <ℤ z) (at 1 a.layered) (a.stack.z1-above a.layered)))

    end-high : lowest_end N ≤ datum (zs ! count zs)
    end-high = le_down (lowest_end N) (datum (zs ! count zs)) (rw (← pos-height N) (subst (λ (z : ℤ). pos N ≤ℤ z) (at (count zs) (omega arith)) a.ends-from))

    admissible-quiet : Quiet (count zs)
    unfolding layer_out
    admissible-quiet k l =
        let below = datum (zs ! k) in
        let above = datum (zs ! suc k) in
        let r = rising-datum p bound zs (count zs) a.stack k l in
        let m = and-true (shape N T below (above - below)) (leb (p.layer_error (height_of below) (above - below)) bound) (permitted-at p bound zs (count zs) a.stack k l) in
        let c : cell_at T table (height_of below) (above - below) ≤ bound = leb-true _ _ m.1 in
        let e = cell-height T settings.some-thickness table below (above - below) in
        fault-none N T table bound zs k
        (in-bound N T table bound below above (shape-allowed N T below (above - below) m.0) (omega (arith, shape-to N T below (above - below) m.0)) (omega (arith, e)))
        first_above
        (λ i. simp (lt-leb (lowest_end N) below (shape-below N T below (above - below) m.0), le-ltb above (lowest_end N) (subst (λ (j : ℕ). lowest_end N ≤ datum (zs ! j)) (sym i) end-high)))

    admissible-counted : answer ≡ done (error p zs)
    unfolding sequence_checks first_fault
    admissible-counted =
        simp
        (le-ltb (length zs) 2 (two zs a.layered), start-at p bound zs (count zs) a.stack, lowest-none (fault_at N T table bound zs) (count zs) admissible-quiet, le-ltb (count zs) (count zs) (omega arith))

  -- ---- past the start

  module _ (layered : 2 ≤ length zs) (start : starts (tmax T) (datum (zs ! 0)) ≡ true) where
    words : (k : ℕ) → Quiet k → at_fault p bound zs (suc k) ≡ fault_at N T table bound zs k
    words k before = sym (fault-words N T table bound zs k settings.some-thickness (over N T table bound zs start k before))

    -- where none is at fault the sequence is admissible
    module _ (quiet : Quiet (count zs)) where
      part : (k : ℕ) → k < count zs → Faultless N T table bound zs k
      part k l = fault-parts N T table bound zs k (quiet k l)

      up : (k : ℕ) → k ≤ count zs → 1 ≤ datum (zs ! k)
      up k l = omega (arith, over N T table bound zs start k (λ j u. quiet j (omega arith)), tmax-le T)

      rises : (k : ℕ) → k < count zs → datum (zs ! k) < datum (zs ! suc k)
      rises k l = omega (arith, allowed-from T _ (part k l).member)

      layer : (k : ℕ) → k < count zs → IsLayer p bound (zs ! k) (zs ! suc k)
      layer k l = record {
        rises = lt-datum (zs ! k) (zs ! suc k) (up k (omega arith)) (up (suc k) l) (rises k l);
        member = rw (rise (zs ! k) (zs ! suc k) (up k (omega arith)) (rises k l)) (part k l).member;
        within = subst (λ (x : ℕ). x ≤ bound) (sym (error-is N T table zs k settings.some-thickness (up k (omega arith)) (rises k l))) (part k l).within;
      }

      quiet-admissible : Admissible p bound zs
      quiet-admissible =
          let n = some-layer zs layered in
          let k = count zs - 1 in
          let e : suc k ≡ count zs = omega arith in
          let last = part k (omega arith) in
          let low = height-datum (zs ! 0) (up 0 (omega arith)) in
          let top = height-datum (zs ! count zs) (up (count zs) (omega arith)) in
          let s = starts-up p bound (datum (zs ! 0)) start in
          record {
            layered = n;
            stack = record {
              starts-above = subst (λ (z : ℤ). neg_ℤ (pos (tmax T)) <ℤ z) low s.0;
              starts_by = subst (λ (z : ℤ). z ≤ℤ pos 0) low s.1;
              layers = layer;
              z1-above = λ l. subst (λ (z : ℤ). pos 0 <ℤ z) (height-datum (zs ! 1) (up 1 n)) (rw (pos-height 0) (lt_up 32 (datum (zs ! 1)) ((part 0 n).first_above refl)));
              before-last-below = λ l. subst (λ (z : ℤ). z <ℤ pos N) (height-datum (zs ! k) (up k (omega arith))) (rw (pos-height N) (lt_up (datum (zs ! k)) (N + 32) (last.last-below e)));
            };
            ends-from = subst (λ (z : ℤ). pos N ≤ℤ z) top (rw (pos-height N) (le_up (N + 32) (datum (zs ! count zs)) (subst (λ (i : ℕ). lowest_end N ≤ datum (zs ! i)) e (last.last-from e))));
            ends-below =
                subst (λ (z : ℤ). z <ℤ pos (N + tmax T)) top
                (rw (pos-height (N + tmax T)) (lt_up (datum (zs ! count zs)) (N + tmax T + 32) (subst (λ (i : ℕ). datum (zs ! i) < N + tmax T + 32) e (omega (arith, last.ends)))));
          }

  -- ---- one of two: 13 at the lowest index at fault, or the error of an admissible sequence

  abbrev pub Verdict : Type 0
  Verdict = ((i : ℕ) × LowestFault p bound zs i × (answer ≡ refused 13 i)) ⊎ (Admissible p bound zs × (answer ≡ done (error p zs)))

  abbrev start_out : Bool
  start_out = ltb (length zs) 2 || not (starts (tmax T) (datum (zs ! 0)))

  at-start : at_fault p bound zs 0 ≡ start_out
  at-start = ap (λ (b : Bool). ltb (length zs) 2 || b) (sym (start-words T (zs ! 0)))

  pub admissible-faultless : Admissible p bound zs → (i : ℕ) → i ≤ count zs → at_fault p bound zs i ≡ false
  admissible-faultless a zero l =
      at-start ∙ simp (le-ltb (length zs) 2 (two zs a.layered), start-at p bound zs (count zs) a.stack)
  admissible-faultless a (suc k) l =
      words (two zs a.layered) (start-at p bound zs (count zs) a.stack) k (λ j u. admissible-quiet a j (omega arith)) ∙ admissible-quiet a k l

  abbrev m : ℕ
  m = first_fault N T table bound zs

  refused-start : start_out ≡ true → answer ≡ refused 13 0
  unfolding sequence_checks
  refused-start e = rw e

  refused-later : start_out ≡ false → m < count zs → answer ≡ refused 13 (suc m)
  unfolding sequence_checks
  refused-later e l = rw (e, lt-ltb m (count zs) l) (ap (refused 13) (add-one m))

  -- none before the first is at fault, and the first is
  quiet-before : Quiet m
  unfolding first_fault
  quiet-before = lowest-before (fault_at N T table bound zs) (count zs)

  at_first : m < count zs → fault_at N T table bound zs m ≡ true
  unfolding first_fault
  at_first = lowest-passes (fault_at N T table bound zs) (count zs)

  lowest-fault : start_out ≡ false → 2 ≤ length zs → starts (tmax T) (datum (zs ! 0)) ≡ true → m < count zs → LowestFault p bound zs (suc m)
  lowest-fault e layered start l = record { within = l; at-fault = words layered start m quiet-before ∙ at_first l; none_before = before }
    where
      before : (j : ℕ) → j < suc m → at_fault p bound zs j ≡ false
      before zero u = at-start ∙ e
      before (suc j) u = words layered start j (λ i v. quiet-before i (omega arith)) ∙ quiet-before j (omega arith)

  pub verdict : Verdict
  verdict = go start_out refl
    where
      past : start_out ≡ false → 2 ≤ length zs → starts (tmax T) (datum (zs ! 0)) ≡ true → Dec (m < count zs) → Verdict
      past e layered start (yes l) = inl (suc m, lowest-fault e layered start l, refused-later e l)
      past e layered start (no l) = let a = quiet-admissible layered start (λ j u. quiet-before j (omega arith)) in inr (a, admissible-counted a)

      go : (b : Bool) → start_out ≡ b → Verdict
      go true e = inl (0, record { within = omega arith; at-fault = at-start ∙ e; none_before = λ j l. absurd (omega arith) }, refused-start e)
      go false e =
          let o = or-false (ltb (length zs) 2) (not (starts (tmax T) (datum (zs ! 0)))) e in
          past e (ltb-false (length zs) 2 o.0) (not-false _ o.1) (dec_lt m (count zs))

-- ---- of the call

module _ (held : Held) (settings : paper.Settings held.head.height held.head.members) (b : Bounded held) (bound : ℕ) (zs : List ℤ) where
  abbrev N₀ : ℕ
  N₀ = held.head.height

  abbrev T₀ : ℕ
  T₀ = held.head.members

  abbrev called : Told ℕ
  called = answer_of (recounting held bound zs)

  called_is : called ≡ answer N₀ T₀ bound held.buffer settings zs
  unfolding recounting
  called_is =
      decided-passed (table_checks held) (sequence_checks N₀ T₀ held.buffer bound zs) (error (plate_of held) zs) (table-fine held (settings-fine N₀ T₀ settings) b)

  -- recounting an admissible sequence gives its error
  pub recounts : Admissible (plate_of held) bound zs → called ≡ done (error (plate_of held) zs)
  recounts a = called_is ∙ admissible-counted N₀ T₀ bound held.buffer settings zs a

  -- and it has no index at fault
  no-fault : Admissible (plate_of held) bound zs → (i : ℕ) → LowestFault (plate_of held) bound zs i → ⊥
  no-fault a i f = clash f.at-fault (admissible-faultless N₀ T₀ bound held.buffer settings zs a i f.within)

  pub recount-exactly : RecountsExactly held bound zs
  recount-exactly = go (verdict N₀ T₀ bound held.buffer settings zs)
    where
      done_refused : {t : Told ℕ} {e number place : ℕ} → t ≡ done e → t ≡ refused number place → ⊥
      done_refused p q = let z : ◌≡◌ {A = ℕ} 0 1 = cc in omega arith

      go : Verdict N₀ T₀ bound held.buffer settings zs → RecountsExactly held bound zs
      go (inl v) = record {
        answers = λ e. (λ q. absurd (done_refused q (called_is ∙ v.2)), λ a. absurd (done_refused (recounts a.0) (called_is ∙ v.2)));
        exactly = (λ r a. done_refused (recounts a) r.2, λ n. (13, v.0, called_is ∙ v.2));
        refuses = λ number place. (
          λ q.
              let r : refused 13 v.0 ≡ refused number place = sym (called_is ∙ v.2) ∙ q in
              (let e : number ≡ 13 = cc in e, subst (LowestFault (plate_of held) bound zs) (let e : v.0 ≡ place = cc in e) v.1),
          λ a. called_is ∙ v.2 ∙ ap₂ refused (sym a.0) (fault-only (plate_of held) bound zs v.0 place v.1 a.1),
        );
      }
      go (inr v) = record {
        answers = λ e. (λ q. let r = sym (recounts v.0) ∙ q in (v.0, let i : error (plate_of held) zs ≡ e = cc in i), λ a. recounts a.0 ∙ ap done a.1);
        exactly = (λ r a. done_refused (recounts a) r.2, λ n. absurd (n v.0));
        refuses = λ number place. (λ q. absurd (done_refused (recounts v.0) q), λ a. absurd (no-fault v.0 place a.1));
      }
