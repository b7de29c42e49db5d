-- Writing an order file. What is lent is in order, so that the sequence and the output decide: 13 as at a recount over an empty table, of which every
-- cell is 0 as every error over no columns is, with the largest bound; then 18 at the first layer whose cure time is 0, and 3 for the output. One of
-- four cases holds, and each shuts out the others. Assumes nothing.
use mathlib.Core.Path.{◌≡◌, refl, sym, ap, subst, ◌∙◌}
use mathlib.Core.Logic.{inl, inr}
use mathlib.Core.Bool.{Bool}
use mathlib.Core.List.{List, [], ◌∷◌, ◌++◌, append_assoc}
use mathlib.Core.Option.{Option, none, some}
use Prim.Native.Nat.{ℕ, ◌+◌, ◌≤◌, ◌<◌}
use native.Mathlib.Decide.{dec_lt}
use native.Mathlib.Omega.{arith}
use borrow.Author.Tests.{lt-ltb, le-ltb, eqb-true, eqb-false}
use lib.Dec.{ltb, eqb}
use lib.IntN.{ℤ}
use lib.ListN.{length}
use Rattle.lists.specs.Checks.{Check, first}
use Rattle.lists.proofs.Checks.{first-passed, first-stopped}
use Rattle.lists.proofs.Search.{lowest-before, lowest-passes}
use Rattle.paper.specs.Limits.{largest_bound}
use Rattle.paper.specs.Layer.{Plate, of_columns, shares}
use Rattle.paper.specs.Table.{cell_at, of_table}
use Rattle.paper.specs.Sequence.{count, thickness, Admissible, error}
use Rattle.plate.specs.Call.{answer_of}
use Rattle.plate.specs.Refusal.{Told, done, refused, Numbered, told_by, check}
use Rattle.plate.proofs.Decided.{refused-first, told-done}
use Rattle.recount.specs.Recount.{unbounded_checks}
use Rattle.printed.specs.Possible.{cure_of}
use Rattle.printed.specs.Paper.{Orderable}
use Rattle.orders.specs.Lent.{lent_checks}
use Rattle.orders.specs.Written.{file_size}
use Rattle.orders.specs.Writing.{first_uncured, file_wanted, filing, writing_orders}
use Rattle.promises.specs.Recounts.{LowestFault}
use Rattle.promises.specs.Printing.{Lent, FirstUncured, WritesExactly}
use Rattle.promises.proofs.Recounts.{clash, fault-only, Verdict, admissible-faultless, verdict}
use Rattle.promises.proofs.PrintedRead.{lent-fine}

-- an empty table is that of no columns
no-error : (T : ℕ) (z : ℤ) (t : ℕ) → cell_at T [] z t ≡ shares [] z t
no-error T z t = refl

no-columns : (N T : ℕ) → of_table N T [] ≡ of_columns N T []
no-columns N T i = record { N = N; T = T; layer_error = λ z t. no-error T z t i }

-- there is one first layer whose cure time is 0, and none in a sequence to be ordered
uncured-only : (cures : List ℕ) (zs : List ℤ) (p q : ℕ) → FirstUncured cures zs p → FirstUncured cures zs q → p ≡ q
uncured-only cures zs p q f g = go (dec_lt f.layer g.layer) (dec_lt g.layer f.layer)
  where
    go : Dec (f.layer < g.layer) → Dec (g.layer < f.layer) → p ≡ q
    go (yes l) d = absurd (omega (arith, g.cured-before f.layer l, f.uncured))
    go (no l) (yes u) = absurd (omega (arith, f.cured-before g.layer u, g.uncured))
    go (no l) (no u) = omega (arith, f.is, g.is)

all-cured : (N T : ℕ) (cures : List ℕ) (zs : List ℤ) (p : ℕ) → Orderable N T cures zs → FirstUncured cures zs p → ⊥
all-cured N T cures zs p o f = omega (arith, o.cured f.layer f.within, f.uncured)

module _ (cures : List ℕ) (zs : List ℤ) where
  abbrev test : ℕ → Bool
  test k = eqb (cure_of cures (thickness zs k)) 0

  cured-under : (k : ℕ) → k < first_uncured cures zs → 0 < cure_of cures (thickness zs k)
  unfolding first_uncured
  cured-under k l = omega (arith, eqb-false (cure_of cures (thickness zs k)) 0 (lowest-before test (count zs) k l))

  first-uncured : first_uncured cures zs < count zs → FirstUncured cures zs (first_uncured cures zs + 1)
  unfolding first_uncured
  first-uncured l = record {
    layer = first_uncured cures zs;
    is = omega arith;
    within = l;
    uncured = eqb-true (cure_of cures (thickness zs (first_uncured cures zs))) 0 (lowest-passes test (count zs) l);
    cured-before = cured-under;
  }

module _ {N T step : ℕ} {cures : List ℕ} (l : Lent N T step cures) (zs : List ℤ) (out : List ℕ) where
  abbrev p : Plate
  p = of_columns N T []

  abbrev size : ℕ
  size = file_size (count zs)

  abbrev answer : Told ℕ
  answer = answer_of (writing_orders N T step cures zs out)

  abbrev wanted : List (Check Numbered)
  wanted = file_wanted cures zs (length out)

  abbrev m : ℕ
  m = first_uncured cures zs

  -- what decides
  answered : (o : Option Numbered) → first (unbounded_checks N T zs ++ wanted) ≡ o → answer ≡ told_by o size
  unfolding writing_orders filing
  answered o e =
      ap (λ (o : Option Numbered). told_by o size)
      (ap first (append_assoc (lent_checks N T step cures) (unbounded_checks N T zs) wanted)
      ∙ first-passed (lent_checks N T step cures) (unbounded_checks N T zs ++ wanted) (lent-fine l)
      ∙ e)

  abbrev says : ℕ → ℕ → Option Numbered
  says number place = some (record { number = number; place = place })

  -- the four cases
  data Case : Type 0 where
    inadmissible : (i : ℕ) → LowestFault p largest_bound zs i → answer ≡ refused 13 i → Case
    uncured : (place : ℕ) → Admissible p largest_bound zs → FirstUncured cures zs place → answer ≡ refused 18 place → Case
    short : Orderable N T cures zs → length out < size → answer ≡ refused 3 2 → Case
    written : Orderable N T cures zs → size ≤ length out → answer ≡ done size → Case

  admissible-case : Admissible p largest_bound zs → first (unbounded_checks N T zs) ≡ none → Case
  unfolding file_wanted
  admissible-case a e = go (dec_lt m (count zs)) (dec_lt (length out) size)
    where
      past : first (unbounded_checks N T zs ++ wanted) ≡ first wanted
      past = first-passed (unbounded_checks N T zs) wanted e

      go : Dec (m < count zs) → Dec (length out < size) → Case
      go (yes l) d = uncured (m + 1) a (first-uncured cures zs l) (answered (says 18 (m + 1)) (past ∙ simp (lt-ltb m (count zs) l)))
      go (no l) d = room d
        where
          orderable : Orderable N T cures zs
          orderable = record { admissible = a; cured = λ k u. cured-under cures zs k (omega arith) }

          quiet : first wanted ≡ first (check 3 (ltb (length out) size) 2 ∷ [])
          quiet = simp (le-ltb m (count zs) (omega arith))

          room : Dec (length out < size) → Case
          room (yes u) = short orderable u (answered (says 3 2) (past ∙ quiet ∙ simp (lt-ltb (length out) size u)))
          room (no u) = let r : size ≤ length out = omega arith in written orderable r (answered none (past ∙ quiet ∙ simp (le-ltb (length out) size r)))

  cases : Case
  cases = go (verdict N T largest_bound [] l.settings zs)
    where
      go : Verdict N T largest_bound [] l.settings zs → Case
      go (inl v) = inadmissible v.0 (subst (λ (p : Plate). LowestFault p largest_bound zs v.0) (no-columns N T) v.1)
          (answered (says 13 v.0) (first-stopped (unbounded_checks N T zs) wanted _ (refused-first (unbounded_checks N T zs) (error (of_table N T []) zs) 13 v.0 v.2)))
      go (inr v) = admissible-case (subst (λ (p : Plate). Admissible p largest_bound zs) (no-columns N T) v.0)
          (told-done (first (unbounded_checks N T zs)) (error (of_table N T []) zs) (error (of_table N T []) zs) v.1).0

  -- each of them shuts out the others

  no-fault : Admissible p largest_bound zs → (i : ℕ) → LowestFault p largest_bound zs i → ⊥
  no-fault a i f =
      clash g.at-fault
      (admissible-faultless N T largest_bound [] l.settings zs (subst (λ (p : Plate). Admissible p largest_bound zs) (sym (no-columns N T)) a) i g.within)
    where
      g : LowestFault (of_table N T []) largest_bound zs i
      g = subst (λ (p : Plate). LowestFault p largest_bound zs i) (sym (no-columns N T)) f

  done_refused : {x n place : ℕ} → answer ≡ done x → answer ≡ refused n place → ⊥
  done_refused e f = let z : ◌≡◌ {A = ℕ} 0 1 = cc in omega arith

  same_number : {n m place other : ℕ} → answer ≡ refused n place → answer ≡ refused m other → n ≡ m
  same_number e f = cc

  same_place : {n m place other : ℕ} → answer ≡ refused n place → answer ≡ refused m other → place ≡ other
  same_place e f = cc

  pub writes-exactly : WritesExactly N T step cures zs out
  writes-exactly = go cases
    where
      go : Case → WritesExactly N T step cures zs out
      go (inadmissible i f e) = record {
        writes = λ x. (λ q. absurd (done_refused q e), λ o. absurd (no-fault o.0.admissible i f));
        inadmissible = λ place. (λ q. subst (λ (j : ℕ). LowestFault p largest_bound zs j) (same_place e q) f, λ g. e ∙ ap (refused 13) (fault-only p largest_bound zs i place f g));
        uncured = λ place. (λ q. absurd (omega (arith, same_number e q)), λ u. absurd (no-fault u.0 i f));
        short = λ place. (λ q. absurd (omega (arith, same_number e q)), λ w. absurd (no-fault w.0.admissible i f));
        refuses = λ n place q. inl (same_number q e);
      }
      go (uncured at a f e) = record {
        writes = λ x. (λ q. absurd (done_refused q e), λ o. absurd (all-cured N T cures zs at o.0 f));
        inadmissible = λ place. (λ q. absurd (omega (arith, same_number e q)), λ g. absurd (no-fault a place g));
        uncured = λ place. (λ q. (a, subst (λ (j : ℕ). FirstUncured cures zs j) (same_place e q) f), λ u. e ∙ ap (refused 18) (uncured-only cures zs at place f u.1));
        short = λ place. (λ q. absurd (omega (arith, same_number e q)), λ w. absurd (all-cured N T cures zs at w.0 f));
        refuses = λ n place q. inr (inl (same_number q e));
      }
      go (short o r e) = record {
        writes = λ x. (λ q. absurd (done_refused q e), λ w. absurd (omega (arith, w.1, w.2)));
        inadmissible = λ place. (λ q. absurd (omega (arith, same_number e q)), λ g. absurd (no-fault o.admissible place g));
        uncured = λ place. (λ q. absurd (omega (arith, same_number e q)), λ u. absurd (all-cured N T cures zs place o u.1));
        short = λ place. (λ q. (o, r, same_place q e), λ w. e ∙ ap (refused 3) (sym w.2));
        refuses = λ n place q. inr (inr (same_number q e));
      }
      go (written o r e) = record {
        writes = λ x. (λ q. let i : x ≡ size = cc in (o, i, omega arith), λ w. e ∙ ap done (sym w.1));
        inadmissible = λ place. (λ q. absurd (done_refused e q), λ g. absurd (no-fault o.admissible place g));
        uncured = λ place. (λ q. absurd (done_refused e q), λ u. absurd (all-cured N T cures zs place o u.1));
        short = λ place. (λ q. absurd (done_refused e q), λ w. absurd (omega (arith, w.1)));
        refuses = λ n place q. absurd (done_refused e q);
      }
