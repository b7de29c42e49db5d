-- The ways out of reading a sequence back. Each refusal comes with the checks before it passed and leaves the output as it was; past the
-- checks on the room (`room-passed`) the entries are read, and past those the least entry is told and the walk is written.
-- Assumes nothing.
use Prim.Native.Nat.{ℕ, ◌+◌, ◌≤◌, ◌<◌}
use mathlib.Core.Path.{◌≡◌, refl, sym, ap, subst, ◌∙◌}
use mathlib.Core.Bool.{true, false}
use mathlib.Core.List.{List, ◌++◌}
use mathlib.Core.Option.{Option, none, some}
use native.Mathlib.Omega.{arith}
use borrow.Author.Tests.{lt-ltb, le-ltb, eq-eqb, ne_eqb, ltb-false, eqb-false}
use lib.Dec.{eqb, ltb}
use lib.IntN.{ℤ}
use lib.ListN.{length, drop}
use Rattle.lists.specs.Checks.{Check, first}
use Rattle.lists.specs.Best.{value, place}
use Rattle.lists.proofs.Checks.{first-none, first-passed, first-later, or-false}
use Rattle.paper.specs.Sequence.{M}
use Rattle.paper.specs.Sheets.{entries}
use Rattle.plate.specs.Call.{Does}
use Rattle.plate.specs.Refusal.{Told, done, refusal, Numbered, numbered, said_by}
use Rattle.plate.specs.Settings.{settings_checks, Judges}
use Rattle.plate.specs.declared.refusal.Refusal.{Refusal}
use Rattle.plate.specs.declared.refusal.Reason.TheVariants as reason
use Rattle.plate.specs.declared.settings.Settings.{Settings}
use Rattle.plate.proofs.Calls.{refuses, works, stopped, passed, judges-bad, judges-good}
use Rattle.sequence.specs.Sheets.{mark, entry, end_of, fault_under, boundaries_under}
use Rattle.readback.specs.Reading.{size_checks, room_checks, is_nothing, walk_fault, entry_checks, reading}
use Rattle.std.specs.Prelude.{Result, Ok, Err, MatchResult, IsErrAnd}
use Rattle.std.proofs.lemmas.Result.{err_from_is_err_and}

-- 3, 10, 3
module _ (N T errors thicknesses n room : ℕ) where
  pub short-errors : errors < entries N T → some (record { number = 3; place = 1 }) ≡ first (size_checks N T errors thicknesses n room)
  unfolding size_checks
  short-errors l = simp (lt-ltb _ _ l)

  module _ (e : entries N T ≤ errors) where
    pub short-thicknesses : thicknesses < entries N T → some (record { number = 3; place = 2 }) ≡ first (size_checks N T errors thicknesses n room)
    unfolding size_checks
    short-thicknesses l = simp (le-ltb _ _ e, lt-ltb _ _ l)

    module _ (t : entries N T ≤ thicknesses) where
      pub no-layer : n ≡ 0 → some (record { number = 10; place = 0 }) ≡ first (size_checks N T errors thicknesses n room)
      unfolding size_checks
      no-layer z = simp (le-ltb _ _ e, le-ltb _ _ t, eq-eqb _ _ z)

      module _ (l : n ≡ 0 → ⊥) where
        pub above_most : M N T < n → some (record { number = 10; place = 0 }) ≡ first (size_checks N T errors thicknesses n room)
        unfolding size_checks
        above_most u = simp (le-ltb _ _ e, le-ltb _ _ t, ne_eqb _ _ l, lt-ltb _ _ u)

        module _ (u : n ≤ M N T) where
          pub short-output : room < n + 1 → some (record { number = 3; place = 3 }) ≡ first (size_checks N T errors thicknesses n room)
          unfolding size_checks
          short-output r = simp (le-ltb _ _ e, le-ltb _ _ t, ne_eqb _ _ l, le-ltb _ _ u, lt-ltb _ _ r)

          pub all_pass : n + 1 ≤ room → none ≡ first (size_checks N T errors thicknesses n room)
          unfolding size_checks
          all_pass r = simp (le-ltb _ _ e, le-ltb _ _ t, ne_eqb _ _ l, le-ltb _ _ u, le-ltb _ _ r)

  -- what these checks leave
  pub record Room : Type 0 where
    pub errors-whole : entries N T ≤ errors
    pub thicknesses-whole : entries N T ≤ thicknesses
    pub some-layer : 1 ≤ n
    pub few-layers : n ≤ M N T
    pub output : n < room

  pub room-passed : none ≡ first (room_checks N T errors thicknesses n room) → Room
  unfolding size_checks
  room-passed e =
      let q = (first-none (size_checks N T errors thicknesses n room)).0 (first-later (settings_checks N T) (size_checks N T errors thicknesses n room) (sym e)) in
      let c = or-false (eqb n 0) (ltb (M N T) n) q.1.1.0 in
      let z = eqb-false n 0 c.0 in
      record {
        errors-whole = ltb-false _ _ q.0;
        thicknesses-whole = ltb-false _ _ q.1.0;
        some-layer = omega arith;
        few-layers = ltb-false _ _ c.1;
        output = omega (arith, ltb-false room (n + 1) q.1.1.1.0);
      }

-- 1 and 2 by the settings, and then those
module _ {N T : ℕ} {made : Result Settings Refusal} (j : Judges made (settings_checks N T) N T) (errors thicknesses n room : ℕ) where
  abbrev checks : List (Check Numbered)
  checks = room_checks N T errors thicknesses n room

  abbrev later : List (Check Numbered)
  later = size_checks N T errors thicknesses n room

  pub settings-bad : (r : Refusal) → made ≡ Err r → Judges made checks N T
  settings-bad r e = judges-bad checks N T made r e (stopped j later r e)

  module _ (s : Settings) (e : made ≡ Ok s) where
    pub size-bad : (r r' : Refusal) → r ≡ r' → some (numbered r') ≡ first later → Judges (Err r) checks N T
    size-bad r r' i q = judges-bad checks N T (Err r) r' (ap Err i) (q ∙ passed j later s e)

    pub size-good : none ≡ first later → Judges (Ok s) checks N T
    size-good q = judges-good checks N T (Ok s) s refl (j.good s e) (q ∙ passed j later s e)

-- 11, 12
module _ (N T : ℕ) (errors thicknesses : List ℕ) (n : ℕ) (out : List ℤ) (room : none ≡ first (room_checks N T (length errors) (length thicknesses) n (length out))) where
  rest-is : first (entry_checks N T errors thicknesses n) ≡ first (room_checks N T (length errors) (length thicknesses) n (length out) ++ entry_checks N T errors thicknesses n)
  rest-is = sym (first-passed (room_checks N T (length errors) (length thicknesses) n (length out)) (entry_checks N T errors thicknesses n) (sym room))

  pub no_end : is_nothing (end_of N T errors n) ≡ true
      → Does (reading N T errors thicknesses n out) (refusal (record { reason = reason.NoSequence; place = 0 })) out
  unfolding reading entry_checks
  no_end e =
      let q : some (record { number = 11; place = 0 }) ≡ first (entry_checks N T errors thicknesses n) = simp e in
      refuses (reading N T errors thicknesses n out) (record { reason = reason.NoSequence; place = 0 }) (q ∙ rest-is)

  module _ (e : is_nothing (end_of N T errors n) ≡ false) (o : Option ℕ) (top : ℕ) (at : top ≡ place (end_of N T errors n))
      (q : o ≡ fault_under (entry N T thicknesses) N T n n top) where
    walk_is : walk_fault N T errors thicknesses n ≡ o
    walk_is = sym (q ∙ ap (fault_under (entry N T thicknesses) N T n n) at)

    pub bad-walk : (layer : ℕ) → o ≡ some layer
        → Does (reading N T errors thicknesses n out) (refusal (record { reason = reason.Unreadable; place = layer })) out
    unfolding reading entry_checks
    bad-walk layer w =
        let q : some (record { number = 12; place = layer }) ≡ first (entry_checks N T errors thicknesses n) = simp (e, walk_is, w) in
        refuses (reading N T errors thicknesses n out) (record { reason = reason.Unreadable; place = layer }) (q ∙ rest-is)

    pub good-walk : (x : ℕ) (new : List ℤ) → x ≡ mark (value (end_of N T errors n)) → o ≡ none
        → new ≡ boundaries_under (entry N T thicknesses) n top (drop (n + 1) out) → Does (reading N T errors thicknesses n out) (done x) new
    unfolding reading entry_checks
    good-walk x new i w l =
        let q : none ≡ first (entry_checks N T errors thicknesses n) = simp (e, walk_is, w) in
        works (reading N T errors thicknesses n out) x new (q ∙ rest-is) i (l ∙ rw at)

-- 1, 2 and the checks on the room
module _ {N T : ℕ} (errors thicknesses : List ℕ) (n : ℕ) (out : List ℤ) {made : Result Settings Refusal} (j : Judges made (room_checks N T (length errors) (length thicknesses) n (length out)) N T) where
  pub read-bad : (r : Refusal) → made ≡ Err r → Does (reading N T errors thicknesses n out) (refusal r) out
  unfolding reading
  read-bad r e = refuses (reading N T errors thicknesses n out) r (stopped j (entry_checks N T errors thicknesses n) r e)

  -- past the checks on the room, over the settings that were made
  pub room-left : (s : Settings) → made ≡ Ok s → none ≡ first (room_checks s.height s.members (length errors) (length thicknesses) n (length out))
  room-left s e =
      subst (λ (s : Settings). none ≡ first (room_checks s.height s.members (length errors) (length thicknesses) n (length out))) (sym (j.good s e).0)
      (ap said_by (sym e) ∙ j.says)

  pub read-good : (s : Settings) → made ≡ Ok s → (answer : Told ℕ) (new : List ℤ)
      → Does (reading s.height s.members errors thicknesses n out) answer new → Does (reading N T errors thicknesses n out) answer new
  read-good s e answer new d = subst (λ (s : Settings). Does (reading s.height s.members errors thicknesses n out) answer new) (j.good s e).0 d

-- what `map_err` made: of an error another error, and of none nothing
module _ {X D E : Type 0} (of : Result X D) (made : Result X E) (P : D → E → Type 0) where
  pub err_made : (Q : D → E → Type 0) → ((e : D) (r : E) → P e r → Q e r) → MatchResult of (λ x. made ≡ Ok x) (λ e. IsErrAnd made (P e)) → (r : E) → made ≡ Err r
      → (e : D) × (of ≡ Err e) × Q e r
  err_made Q says m r q = go of refl m
    where
      go : (o : Result X D) → of ≡ o → MatchResult o (λ x. made ≡ Ok x) (λ e. IsErrAnd made (P e)) → (e : D) × (of ≡ Err e) × Q e r
      go (Ok x) i m = absurd (let z : ◌≡◌ {A = ℕ} 0 1 = cc in omega arith)
      go (Err e) i m = let p = err_from_is_err_and made m in let same : p.0 ≡ r = cc in (e, i, says e r (subst (P e) same p.2))

  pub ok_made : MatchResult of (λ x. made ≡ Ok x) (λ e. IsErrAnd made (P e)) → (x : X) → made ≡ Ok x → of ≡ Ok x
  ok_made m x q = go of refl m
    where
      go : (o : Result X D) → of ≡ o → MatchResult o (λ x. made ≡ Ok x) (λ e. IsErrAnd made (P e)) → of ≡ Ok x
      go (Ok y) i m = cc
      go (Err e) i m = let p = err_from_is_err_and made m in absurd (let z : ◌≡◌ {A = ℕ} 0 1 = cc in omega arith)
