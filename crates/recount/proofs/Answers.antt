-- The ways out of recounting: for each test that fails the refusal that document 01 gives, and the error where none does. Each law takes
-- the facts of the tests passed so far. Assumes nothing.
use mathlib.Core.Path.{◌≡◌, refl, sym, ap, ◌∙◌, subst}
use mathlib.Core.Bool.{true, false}
use mathlib.Core.List.{List, [], ◌∷◌, ◌++◌}
use mathlib.Core.Option.{Option}
use Prim.Native.Nat.{ℕ, suc, ◌+◌, ◌-◌, ◌≤◌, ◌<◌}
use native.Mathlib.Omega.{arith}
use borrow.Author.Tests.{lt-ltb, le-ltb, le-leb, lt-leb}
use lib.IntN.{ℤ}
use lib.ListN.{length}
use Rattle.lists.specs.Checks.{Check, first}
use Rattle.lists.proofs.Search.{lowest-hit, lowest-none}
use Rattle.paper.specs.Limits.{largest_bound}
use Rattle.paper.specs.Layer.{tmax}
use Rattle.paper.specs.Table.{of_table}
use Rattle.paper.specs.Sequence.{◌!◌, count, error, error_under}
use Rattle.plate.specs.Call.{Does}
use Rattle.plate.specs.Datum.{datum}
use Rattle.plate.specs.Head.{Held}
use Rattle.plate.specs.Refusal.{number_of, Told, done, refused, refusal, Numbered, told_by, said_by}
use Rattle.plate.specs.Settings.{settings_checks, Judges}
use Rattle.plate.specs.declared.refusal.Refusal.{Refusal}
use Rattle.plate.specs.declared.settings.Settings.{Settings}
use Rattle.plate.proofs.Calls.{refuses, judges-bad, judges-good, stopped, passed}
use Rattle.plate.proofs.Decided.{decided-passed, refused-first, told-done}
use Rattle.sequence.specs.Sequence.{starts, lowest_end}
use Rattle.table.specs.Table.{table_checks}
use Rattle.recount.specs.Layers.{sequence_answer}
use Rattle.recount.specs.Recount.{layer_out, last_out, fault_at, first_fault, sequence_checks, unbounded_checks, recounting}
use Rattle.recount.proofs.Faults.{fault-first, fault-layer, fault-last, fault-none}
use Rattle.std.specs.Prelude.{Result, Ok, Err}

-- n is one less than the boundaries
pub count-is : (zs : List ℤ) → count zs ≡ length zs - 1
count-is [] = refl
count-is (z ∷ zs) = omega arith

-- 13
module _ (N T : ℕ) (table : List ℕ) (bound : ℕ) (zs : List ℤ) where
  pub too_few : length zs < 2 → refused 13 0 ≡ sequence_answer N T table bound zs
  unfolding sequence_answer sequence_checks
  too_few l = simp (lt-ltb (length zs) 2 l)

  module _ (layered : 2 ≤ length zs) where
    pub out-start : starts (tmax T) (datum (zs ! 0)) ≡ false → refused 13 0 ≡ sequence_answer N T table bound zs
    unfolding sequence_answer sequence_checks
    out-start e = simp (le-ltb (length zs) 2 layered, e)

    module _ (start : starts (tmax T) (datum (zs ! 0)) ≡ true) where
      -- the first index at fault is told, and the error where there is none
      faulty : (k : ℕ) → k < count zs → ((j : ℕ) → j < k → fault_at N T table bound zs j ≡ false) → fault_at N T table bound zs k ≡ true
          → refused 13 (k + 1) ≡ sequence_answer N T table bound zs
      unfolding sequence_answer sequence_checks first_fault
      faulty k l before e =
          simp (le-ltb (length zs) 2 layered, start, lowest-hit (fault_at N T table bound zs) (count zs) k l before e, lt-ltb k (count zs) l)

      faultless : ((j : ℕ) → j < count zs → fault_at N T table bound zs j ≡ false) → done (error (of_table N T table) zs) ≡ sequence_answer N T table bound zs
      unfolding sequence_answer sequence_checks first_fault
      faultless none =
          simp (le-ltb (length zs) 2 layered, start, lowest-none (fault_at N T table bound zs) (count zs) none, le-ltb (count zs) (count zs) (omega arith))

      pub out_first : datum (zs ! 1) ≤ 32 → refused 13 1 ≡ sequence_answer N T table bound zs
      out_first l = faulty 0 (omega (arith, count-is zs)) (λ j u. absurd (omega arith)) (fault-first N T table bound zs l)

      module _ (above : 32 < datum (zs ! 1)) (k : ℕ) (before : (j : ℕ) → j < k → layer_out N T table bound zs j ≡ false) where
        -- no layer under the last is at fault
        quiet : (j : ℕ) → j < k → suc j < count zs → fault_at N T table bound zs j ≡ false
        quiet j l u = fault-none N T table bound zs j (before j l) above (λ e. absurd (omega arith))

        pub out-layer : k < length zs - 1 → layer_out N T table bound zs k ≡ true → refused 13 (k + 1) ≡ sequence_answer N T table bound zs
        out-layer l e =
            let h : k < count zs = omega (arith, count-is zs) in
            faulty k h (λ j u. quiet j u (omega arith)) (fault-layer N T table bound zs k e)

        module _ (all : k ≡ length zs - 1) where
          whole : count zs ≡ k
          whole = count-is zs ∙ sym all

          last-fault : last_out N (datum (zs ! (k - 1))) (datum (zs ! k)) ≡ true → refused 13 k ≡ sequence_answer N T table bound zs
          last-fault e =
              let i : k - 1 + 1 ≡ k = omega (arith, all, layered) in
              let j : suc (k - 1) ≡ k = omega (arith, all, layered) in
              ap (refused 13) (sym i)
              ∙ faulty (k - 1) (omega (arith, whole, all, layered)) (λ j u. quiet j (omega arith) (omega (arith, whole)))
              (fault-last N T table bound zs (k - 1) (j ∙ sym whole) (rw j e))

          pub before-last-high : lowest_end N ≤ datum (zs ! (k - 1)) → refused 13 k ≡ sequence_answer N T table bound zs
          before-last-high l = last-fault (simp (le-leb (lowest_end N) (datum (zs ! (k - 1))) l))

          module _ (below : datum (zs ! (k - 1)) < lowest_end N) (top : ℕ) (at : top ≡ datum (zs ! k)) where
            pub ends_low : top < lowest_end N → refused 13 k ≡ sequence_answer N T table bound zs
            ends_low l = last-fault (simp (lt-leb (lowest_end N) (datum (zs ! (k - 1))) below, lt-ltb (datum (zs ! k)) (lowest_end N) (omega arith)))

            pub admissible : lowest_end N ≤ top → (sum : ℕ) → sum ≡ error_under (of_table N T table) zs k → done sum ≡ sequence_answer N T table bound zs
            admissible l sum e =
                ap done (e ∙ ap (error_under (of_table N T table) zs) (sym whole)) ∙ faultless (λ j u. fault-none N T table bound zs j (before j (omega (arith, whole))) above (ended j))
              where
                ended : (j : ℕ) → suc j ≡ count zs → last_out N (datum (zs ! j)) (datum (zs ! suc j)) ≡ false
                ended j i =
                    let a : j ≡ k - 1 = omega (arith, whole) in
                    let b : suc j ≡ k = i ∙ whole in
                    rw (b, a) (simp (lt-leb (lowest_end N) (datum (zs ! (k - 1))) below, le-ltb (datum (zs ! k)) (lowest_end N) (omega arith)))

-- without a table: 1 and 2 were asked, and then 13 over no columns and the largest bound
module _ (N T : ℕ) (zs : List ℤ) {made : Result Settings Refusal} (j : Judges made (settings_checks N T) N T) where
  abbrev asked : List (Check Numbered)
  asked = settings_checks N T ++ unbounded_checks N T zs

  pub unsettled : (r : Refusal) → made ≡ Err r → Judges made asked N T
  unsettled r e = judges-bad asked N T made r e (stopped j (unbounded_checks N T zs) r e)

  module _ (s : Settings) (e : made ≡ Ok s) where
    said : (answer : Told ℕ) → answer ≡ sequence_answer s.height s.members [] largest_bound zs → answer ≡ told_by (first asked) (error (of_table N T []) zs)
    unfolding sequence_answer
    said answer a =
        subst (λ (s : Settings). answer ≡ sequence_answer s.height s.members [] largest_bound zs) (j.good s e).0 a
        ∙ ap (λ (o : Option Numbered). told_by o (error (of_table N T []) zs)) (passed j (unbounded_checks N T zs) s e)

    pub unbounded-out : (r : Refusal) → refusal r ≡ sequence_answer s.height s.members [] largest_bound zs → Judges (Err r) asked N T
    unbounded-out r a =
        judges-bad asked N T (Err r) r refl (sym (refused-first asked (error (of_table N T []) zs) (number_of r.reason) r.place (sym (said (refusal r) a))))

    pub unbounded-in : (x : ℕ) → done x ≡ sequence_answer s.height s.members [] largest_bound zs → Judges (Ok s) asked N T
    unbounded-in x a =
        judges-good asked N T (Ok s) s refl (j.good s e) (sym (told-done (first asked) (error (of_table N T []) zs) x (sym (said (done x) a))).0)

-- 1, 2, 3, 7, 6
module _ (held : Held) (bound : ℕ) (zs : List ℤ) {made : Result Settings Refusal} (j : Judges made (table_checks held) held.head.height held.head.members) where
  pub bad : (r : Refusal) → made ≡ Err r → Does (recounting held bound zs) (refusal r) tt
  unfolding recounting
  bad r e = refuses (recounting held bound zs) r (stopped j (sequence_checks held.head.height held.head.members held.buffer bound zs) r e)

  pub good : (s : Settings) → made ≡ Ok s → (answer : Told ℕ) → answer ≡ sequence_answer s.height s.members held.buffer bound zs
      → Does (recounting held bound zs) answer tt
  unfolding recounting sequence_answer
  good s e answer a =
      let b = subst (λ (s : Settings). answer ≡ sequence_answer s.height s.members held.buffer bound zs) (j.good s e).0 a in
      let p = decided-passed (table_checks held) (sequence_checks held.head.height held.head.members held.buffer bound zs)
      (error (of_table held.head.height held.head.members held.buffer) zs) (sym (ap said_by (sym e) ∙ j.says)) in
      record { tells = b ∙ sym p; leaves = refl }
