-- The two laws on every call: refused here, and passed here; and what a function that asked some of a call's checks lets say of the call.
-- A call is refused where its first check that holds says so, and then nothing was written; where none holds it answers its value and has
-- written. Assumes nothing.
use mathlib.Core.Path.{◌≡◌, sym, ap, ◌∙◌, subst}
use mathlib.Core.Logic.{◌↔◌}
use mathlib.Core.List.{List, ◌++◌}
use mathlib.Core.Option.{Option, none, some}
use Prim.Native.Nat.{ℕ}
use native.Mathlib.Omega.{arith}
use Rattle.lists.specs.Checks.{Check, first, Given}
use Rattle.lists.proofs.Checks.{first-passed, first-stopped}
use Rattle.plate.specs.Refusal.{Told, done, refused, refusal, told, Numbered, numbered, told_by, decided, after, said_by}
use Rattle.plate.specs.Call.{Call, behind, answer_of, left_by, Does}
use Rattle.plate.specs.Settings.{settings_of, Sound, Judges}
use Rattle.plate.specs.declared.refusal.Refusal.{Refusal}
use Rattle.plate.specs.declared.settings.Settings.{Settings}
use Rattle.plate.proofs.Decided.{refused-exactly, told-done, decided-said}
use Rattle.std.specs.Prelude.{Result, Ok, Err, IsErrAnd}
use Rattle.std.proofs.lemmas.Result.{err_from_is_err_and}

module _ {X B : Type 0} (call : Call X B) where
  -- REFUSED HERE: the first check that holds says this refusal
  pub refuses : (r : Refusal) → some (numbered r) ≡ first call.checks → Does call (refusal r) call.held
  refuses r e =
      let t : refusal r ≡ answer_of call = ap (λ (o : Option Numbered). told_by o call.value) e in
      record { tells = t; leaves = ap (λ (t : Told X). after t call.writes call.held) t }

  -- PASSED HERE: no check holds, and what was to be written is written
  pub works : (x : X) (now : B) → none ≡ first call.checks → x ≡ call.value → now ≡ call.writes → Does call (done x) now
  works x now e v w =
      let t : done x ≡ answer_of call = ap done v ∙ ap (λ (o : Option Numbered). told_by o call.value) e in
      record { tells = t; leaves = w ∙ ap (λ (t : Told X). after t call.writes call.held) t }

  -- a refusal is given exactly when its check holds and none before it does
  pub exactly : (number place : ℕ) → (answer_of call ≡ refused number place) ↔ Given call.checks (record { number = number; place = place })
  exactly number place = refused-exactly call.checks call.value number place

  -- a refused call has written nothing
  pub unwritten : (number place : ℕ) → answer_of call ≡ refused number place → left_by call ≡ call.held
  unwritten number place e = ap (λ (t : Told X). after t call.writes call.held) e

  -- a call that is done answers its value, has written, and no check held
  pub finished : (x : X) → answer_of call ≡ done x → (first call.checks ≡ none) × (call.value ≡ x) × (left_by call ≡ call.writes)
  finished x e = let t = told-done (first call.checks) call.value x e in (t.0, t.1, ap (λ (t : Told X). after t call.writes call.held) e)

  -- and where no check holds it is done
  pub passes : first call.checks ≡ none → (answer_of call ≡ done call.value) × (left_by call ≡ call.writes)
  passes e =
      let t : answer_of call ≡ done call.value = ap (λ (o : Option Numbered). told_by o call.value) e in
      (t, ap (λ (t : Told X). after t call.writes call.held) t)

  -- others were asked before, and passed
  pub does-behind : (before : List (Check Numbered)) → first before ≡ none → {answer : Told X} {now : B} → Does call answer now → Does (behind before call) answer now
  does-behind before e d =
      let same : answer_of (behind before call) ≡ answer_of call = ap (λ (o : Option Numbered). told_by o call.value) (first-passed before call.checks e) in
      record { tells = d.tells ∙ sym same; leaves = d.leaves ∙ ap (λ (t : Told X). after t call.writes call.held) (sym same) }

  -- the checks were asked by a function of their own
  module _ {N T : ℕ} {made : Result Settings Refusal} (j : Judges made call.checks N T) where
    pub judged-bad : (r : Refusal) → made ≡ Err r → Does call (refusal r) call.held
    judged-bad r e = refuses r (ap said_by (sym e) ∙ j.says)

-- ---- functions that ask some checks

module _ (checks : List (Check Numbered)) (N T : ℕ) where
  -- the first check that holds says this refusal
  pub judges-bad : (made : Result Settings Refusal) (r : Refusal) → made ≡ Err r → some (numbered r) ≡ first checks → Judges made checks N T
  judges-bad made r e q = record { says = ap said_by e ∙ q; good = λ s g. absurd (let z : ◌≡◌ {A = ℕ} 0 1 = cc in omega arith) }

  -- none holds
  pub judges-good : (made : Result Settings Refusal) (s : Settings) → made ≡ Ok s → (s ≡ settings_of N T) × Sound s → none ≡ first checks → Judges made checks N T
  judges-good made s e k q = record { says = ap said_by e ∙ q; good = λ t g. let q : s ≡ t = cc in subst (λ (x : Settings). (x ≡ settings_of N T) × Sound x) q k }

  -- after others that were asked before and passed
  pub judges-then : {made : Result Settings Refusal} (before : List (Check Numbered)) → first before ≡ none → Judges made checks N T → Judges made (before ++ checks) N T
  judges-then before e j = record { says = j.says ∙ sym (first-passed before checks e); good = j.good }

-- some checks were asked by a function of their own, and others come after them
module _ {checks : List (Check Numbered)} {N T : ℕ} {made : Result Settings Refusal} (j : Judges made checks N T) (later : List (Check Numbered)) where
  pub stopped : (r : Refusal) → made ≡ Err r → some (numbered r) ≡ first (checks ++ later)
  stopped r e = sym (first-stopped checks later (numbered r) (sym (ap said_by (sym e) ∙ j.says)))

  pub passed : (s : Settings) → made ≡ Ok s → first later ≡ first (checks ++ later)
  passed s e = sym (first-passed checks later (sym (ap said_by (sym e) ∙ j.says)))

-- ---- a refusal that a `?` hands on

module _ {X : Type 0} (result : Result X Refusal) (r : Refusal) (handed : IsErrAnd result (λ e. e ≡ r)) where
  pub handed-is : result ≡ Err r
  handed-is = let p = err_from_is_err_and result handed in p.1 ∙ ap (λ (e : Refusal). Err e) p.2

  pub handed-told : told result ≡ refusal r
  handed-told = ap told handed-is

  -- the function said it of some of a call's first checks
  pub handed-decided : (cs ds : List (Check Numbered)) (x : X) → some (numbered r) ≡ first cs → told result ≡ decided (cs ++ ds) x
  handed-decided cs ds x e = handed-told ∙ decided-said cs ds x r.reason r.place e

  pub handed-as : {B : Type 0} {call : Call X B} {now : B} → Does call (refusal r) now → Does call (told result) now
  handed-as {call} {now} d = subst (λ (t : Told X). Does call t now) (sym handed-told) d

  pub handed-does : {B : Type 0} (call : Call X B) → some (numbered r) ≡ first call.checks → Does call (told result) call.held
  handed-does call e = handed-as (refuses call r e)

pub handed-judges : (result : Result Settings Refusal) (r : Refusal) → IsErrAnd result (λ e. e ≡ r) → (checks : List (Check Numbered)) (N T : ℕ) → some (numbered r) ≡ first checks
    → Judges result checks N T
handed-judges result r handed checks N T e = judges-bad checks N T result r (handed-is result r handed) e
