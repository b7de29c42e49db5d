-- Reading a file record by record. What is left of the file's checks is all of them, and the order asked for is known as soon as its layer is read:
-- before that it is what is left of the file's orders, counted from there. By one step of the definitions for each way out of a turn.
-- Assumes nothing.
use mathlib.Core.Path.{◌≡◌, refl, sym, ap, ap₂, ◌∙◌}
use mathlib.Core.Bool.{Bool, true, false, cond}
use mathlib.Core.List.{List, [], ◌∷◌, ◌++◌}
use mathlib.Core.Option.{Option, none, some}
use Prim.Native.Nat.{ℕ, zero, suc, ◌+◌, ◌-◌, ◌*◌, ◌≤◌, ◌<◌}
use native.Mathlib.Decide.{dec_lt, ℕ_discrete}
use native.Mathlib.Omega.{arith}
use borrow.Author.Tests.{lt-ltb, le-ltb, eq-eqb, ne_eqb}
use lib.Dec.{ltb}
use lib.ListN.{length}
use Rattle.lists.specs.Checks.{Check, first}
use Rattle.lists.proofs.Checks.{first-passed, first-stopped}
use Rattle.plate.specs.Refusal.{Told, Numbered, told_by, decided}
use Rattle.record.specs.Faults.{cut, frame_checks}
use Rattle.printed.specs.Possible.{cure_of}
use Rattle.printed.specs.Records.{Record, lift, cure, orders_over, orders}
use Rattle.orders.specs.Layer.{printed_layer}
use Rattle.orders.specs.Order.{order_of, record_at}
use Rattle.orders.specs.File.{lift_place, no_layers, grown, thickness_at, next_checks, finishes, layer_checks, finish_checks, orders_checks, file_checks, layers_from, layers_in}
use Rattle.orders.specs.Reading.{order_in}
use Rattle.orders.specs.Parts.{Standing, picked}
use Rattle.orders.specs.declared.Order.{Order}
use Rattle.orders.specs.declared.Order.TheVariants as order
use Rattle.orders.specs.declared.Stack.{Stack}

-- ---- the order at a number, over some layers

module _ (cures : List ℕ) (k h t : ℕ) (ts : List ℕ) where
  abbrev two : List Record
  two = lift (h + t) ∷ cure (cure_of cures t) ∷ orders_over cures (suc k) (h + t) ts

  at-lift : record_at (orders_over cures k h (t ∷ ts)) 0 ≡ lift (h + t)
  unfolding record_at orders_over
  at-lift = refl

  at-cure : record_at (orders_over cures k h (t ∷ ts)) 1 ≡ cure (cure_of cures t)
  unfolding record_at orders_over
  at-cure = go ts
    where
      go : (us : List ℕ) → record_at (lift (h + t) ∷ cure (cure_of cures t) ∷ orders_over cures (suc k) (h + t) us) 1 ≡ cure (cure_of cures t)
      go [] = refl
      go (u ∷ us) = refl

  at-later : (i : ℕ) → record_at (orders_over cures k h (t ∷ ts)) (suc (suc i)) ≡ record_at (orders_over cures (suc k) (h + t) ts) i
  unfolding record_at orders_over
  at-later i = go ts
    where
      go : (us : List ℕ) → record_at (lift (h + t) ∷ cure (cure_of cures t) ∷ orders_over cures (suc k) (h + t) us) (suc (suc i)) ≡ record_at (orders_over cures (suc k) (h + t) us) i
      go [] = refl
      go (u ∷ us) = refl

-- ---- what is known before each record of a layer, and before the finish

module _ (N T step : ℕ) (cures file : List ℕ) (number : ℕ) where
  abbrev all : List (Check Numbered)
  all = file_checks N T step cures file

  abbrev asked : Order
  asked = order_in T step cures file number

  -- the order asked for, of those left
  abbrev ahead_of : ℕ → Stack → Order
  ahead_of left read =
      order_of step (record_at (orders_over cures read.layers read.rise (layers_from T step cures file left read)) (number - 2 * read.layers))

  pub record Walked (read : Stack) (known : Order) : Type 0 where
    pub left : ℕ
    pub bytes : left + read.layers ≡ length file
    pub stands : Standing step read
    pub checks : first all ≡ first (orders_checks N T step cures file left read)
    pub past : number < 2 * read.layers → known ≡ asked
    pub ahead : 2 * read.layers ≤ number → asked ≡ ahead_of left read

  pub begun : step ≤ 8192 → (known : Order) → Walked no_layers known
  unfolding file_checks order_in layers_in orders
  begun s known = record {
    left = length file;
    bytes = omega arith;
    stands = record { steps = s; low = omega arith; few = omega arith; thin = omega arith; empty = λ e. refl };
    checks = refl;
    past = λ l. absurd (omega arith);
    ahead = λ l. let e : number ≡ number - 2 * 0 = omega arith in ap (λ (i : ℕ). order_of step (record_at (orders_over cures 0 0 (layers_from T step cures file (length file) no_layers)) i)) e;
  }

  -- nothing is left
  pub over : (read : Stack) (known : Order) → Walked read known → length file ≤ lift_place read.layers
      → some (cut file (lift_place read.layers)).says ≡ first all
  unfolding orders_checks next_checks frame_checks
  over read known w l = go w.left w.checks
    where
      cut_off : ltb (length file - lift_place read.layers) 4 ≡ true
      cut_off = lt-ltb (length file - lift_place read.layers) 4 (omega arith)

      go : (n : ℕ) → first all ≡ first (orders_checks N T step cures file n read) → some (cut file (lift_place read.layers)).says ≡ first all
      go zero e = sym (e ∙ simp cut_off)
      go (suc n) e = sym (e ∙ simp cut_off)

  -- something is
  module _ (read : Stack) (known : Order) (w : Walked read known) (n : ℕ) (more : w.left ≡ suc n) where
    abbrev layers : ℕ
    layers = read.layers

    abbrev t : ℕ
    t = thickness_at T step cures file read

    abbrev after_frame : List (Check Numbered)
    after_frame =
        cond (finishes file layers) (finish_checks N file read) (layer_checks N T step cures file read ++ orders_checks N T step cures file n (grown read t))

    stepped : first all ≡ first (next_checks file layers ++ after_frame)
    unfolding orders_checks
    stepped = w.checks ∙ ap (λ (m : ℕ). first (orders_checks N T step cures file m read)) more

    pub frame-stops : (r : Numbered) → some r ≡ first (next_checks file layers) → some r ≡ first all
    frame-stops r e = sym (stepped ∙ first-stopped (next_checks file layers) after_frame r (sym e))

    module _ (framed : none ≡ first (next_checks file layers)) where
      inside : first all ≡ first after_frame
      inside = stepped ∙ first-passed (next_checks file layers) after_frame (sym framed)

      -- the finish
      module _ (last : finishes file layers ≡ true) where
        finish-checks : first all ≡ first (finish_checks N file read)
        finish-checks =
            inside
            ∙ ap (λ (b : Bool). first (cond b (finish_checks N file read) (layer_checks N T step cures file read ++ orders_checks N T step cures file n (grown read t)))) last

        no_more : 2 * layers ≤ number → asked ≡ order.Finish layers
        unfolding layers_from orders_over record_at
        no_more l =
            w.ahead l
            ∙ ap (λ (m : ℕ). ahead_of m read) more
            ∙ ap (λ (b : Bool). order_of step (record_at (orders_over cures layers read.rise (cond b [] (t ∷ layers_from T step cures file n (grown read t)))) (number - 2 * layers))) last

        known_by : cond (ltb number (2 * layers)) known (order.Finish layers) ≡ asked
        known_by = go (dec_lt number (2 * layers))
          where
            go : Dec (number < 2 * layers) → cond (ltb number (2 * layers)) known (order.Finish layers) ≡ asked
            go (yes l) = simp (lt-ltb number (2 * layers) l) (w.past l)
            go (no l) = simp (le-ltb number (2 * layers) (omega arith)) (sym (no_more (omega arith)))

        pub finished : (answer : Told Order) → answer ≡ decided (finish_checks N file read) (cond (ltb number (2 * layers)) known (order.Finish layers)) → answer ≡ decided all asked
        finished answer e = e ∙ ap₂ (λ (o : Option Numbered) (x : Order). told_by o x) (sym finish-checks) known_by

      -- a layer
      module _ (layer : finishes file layers ≡ false) where
        layer-checks : first all ≡ first (layer_checks N T step cures file read ++ orders_checks N T step cures file n (grown read t))
        layer-checks =
            inside
            ∙ ap (λ (b : Bool). first (cond b (finish_checks N file read) (layer_checks N T step cures file read ++ orders_checks N T step cures file n (grown read t)))) layer

        pub layer-stops : (r : Numbered) → some r ≡ first (layer_checks N T step cures file read) → some r ≡ first all
        layer-stops r e = sym (layer-checks ∙ first-stopped (layer_checks N T step cures file read) (orders_checks N T step cures file n (grown read t)) r (sym e))

        -- its two orders, and those behind it
        abbrev rest : List ℕ
        rest = layers_from T step cures file n (grown read t)

        here : (i : ℕ) → number ≡ i + 2 * layers → asked ≡ order_of step (record_at (orders_over cures layers read.rise (t ∷ rest)) i)
        unfolding layers_from
        here i e =
            let d : number - 2 * layers ≡ i = omega arith in
            w.ahead (omega arith)
            ∙ ap (λ (m : ℕ). ahead_of m read) more
            ∙ ap₂ (λ (b : Bool) (j : ℕ). order_of step (record_at (orders_over cures layers read.rise (cond b [] (t ∷ rest))) j)) layer d

        abbrev printed-here : Order
        printed-here = picked known number layers (printed_layer (read.rise + t) t step (cure_of cures t))

        pub onward : none ≡ first (layer_checks N T step cures file read) → Standing step (grown read t) → Walked (grown read t) printed-here
        onward passes s = record {
          left = n;
          bytes = omega (arith, w.bytes);
          stands = s;
          checks = layer-checks ∙ first-passed (layer_checks N T step cures file read) (orders_checks N T step cures file n (grown read t)) (sym passes);
          past = λ l. settled (ℕ_discrete number (2 * layers)) (ℕ_discrete number (2 * layers + 1)) l;
          ahead = λ l. later l;
        }
          where
            settled : Dec (number ≡ 2 * layers) → Dec (number ≡ 2 * layers + 1) → number < 2 * (layers + 1) → printed-here ≡ asked
            settled (yes e) d l =
                simp (eq-eqb number (2 * layers) e)
                (sym (here 0 (omega arith) ∙ ap (order_of step) (at-lift cures layers read.rise t rest)))
            settled (no m) (yes e) l =
                simp (ne_eqb number (2 * layers) m, eq-eqb number (2 * layers + 1) e)
                (sym (here 1 (omega arith) ∙ ap (order_of step) (at-cure cures layers read.rise t rest)))
            settled (no m) (no o) l = simp (ne_eqb number (2 * layers) m, ne_eqb number (2 * layers + 1) o) (w.past (omega arith))

            later : 2 * (layers + 1) ≤ number → asked ≡ ahead_of n (grown read t)
            later l =
                let i = number - 2 * (layers + 1) in
                let k : suc layers ≡ layers + 1 = omega arith in
                here (suc (suc i)) (omega arith)
                ∙ ap (order_of step) (at-later cures layers read.rise t rest i)
                ∙ ap (λ (m : ℕ). order_of step (record_at (orders_over cures m (read.rise + t) rest) i)) k
