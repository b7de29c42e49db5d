-- The counts of a plate, read back over sheets that one plan left: refused exactly when no admissible sequence has the count, by 11, and never by
-- 12, whatever the count and the output. Where a count is out of range or the output is short, an earlier refusal is given, and its number is not
-- 12; else it is answered as demand 2 says. Assumes nothing.
use Prim.Native.Nat.{ℕ, ◌+◌, ◌≤◌, ◌<◌}
use mathlib.Core.Path.{◌≡◌, refl, sym, ◌∙◌, subst}
use mathlib.Core.Logic.{inl, inr, ◌↔◌}
use mathlib.Core.Bool.{true}
use mathlib.Core.List.{List}
use mathlib.Core.Option.{Option, none, some}
use native.Mathlib.Omega.{arith}
use borrow.Author.Tests.{ltb-false, eqb-false}
use lib.Dec.{ltb, eqb}
use lib.IntN.{ℤ}
use lib.ListN.{length}
use Rattle.lists.specs.Checks.{first}
use Rattle.lists.proofs.Checks.{first-none, first-later, or-false}
use Rattle.paper.specs.Layer.{Plate}
use Rattle.paper.specs.Sequence.{M, None}
use Rattle.plate.specs.Refusal.{Told, refused, Numbered}
use Rattle.plate.specs.Settings.{settings_checks}
use Rattle.plate.proofs.Decided.{decided-stopped}
use Rattle.plan.specs.Plan.{Sheets}
use Rattle.readback.specs.Reading.{size_checks, room_checks, entry_checks, reading}
use Rattle.meaning.proofs.Choice.{count-in-range}
use Rattle.promises.specs.Orders.{numbers, is_one_of}
use Rattle.promises.specs.Plans.{Answers, read_answer, ReadsBack, Refused, ReadsCounts}
use Rattle.promises.proofs.Demands.{never-12, only-11}
use Rattle.promises.proofs.Orders.{first-number}

-- ---- what an answer tells

module _ (p : Plate) (bound n : ℕ) (answer : Told ℕ) (old out : List ℤ) where
  none-refused : Answers p bound n answer old out → None p bound n → answer ≡ refused 11 0
  none-refused (inl a) f = absurd (f a.0 a.1.admissible a.1.counts)
  none-refused (inr a) f = a.1

  refused_none : Answers p bound n answer old out → Refused answer → None p bound n
  refused_none (inl a) r = absurd (let q = sym a.2 ∙ r.2 in let z : ◌≡◌ {A = ℕ} 0 1 = cc in omega arith)
  refused_none (inr a) r = a.0

  number-exactly : Answers p bound n answer old out → (answer ≡ refused 11 0) ↔ None p bound n
  number-exactly a = (only-11 p bound n answer old out a, none-refused a)

  refused-exactly : Answers p bound n answer old out → Refused answer ↔ None p bound n
  refused-exactly a = (refused_none a, λ f. (11, 0, none-refused a f))

-- ---- every count and every output

module _ (N T : ℕ) (errors thicknesses : List ℕ) (n : ℕ) (out : List ℤ) where
  abbrev room : Option Numbered
  room = first (room_checks N T (length errors) (length thicknesses) n (length out))

  -- where 1, 2, 3, 10 and 3 pass the count is in range and the output takes it
  in-range : room ≡ none → (1 ≤ n) × (n ≤ M N T) × (n < length out)
  unfolding size_checks
  in-range e =
      let sizes = size_checks N T (length errors) (length thicknesses) n (length out) in
      let q = (first-none sizes).0 (first-later (settings_checks N T) sizes e) in
      let c = or-false (eqb n 0) (ltb (M N T) n) q.1.1.0 in
      let some-layer = eqb-false n 0 c.0 in
      let fits = ltb-false (length out) (n + 1) q.1.1.1.0 in
      (omega arith, ltb-false (M N T) n c.1, omega arith)

  -- none of them is 12
  room-number : (r : Numbered) → room ≡ some r → r.number ≡ 12 → ⊥
  unfolding size_checks settings_checks
  room-number r e q =
      let o = first-number (room_checks N T (length errors) (length thicknesses) n (length out)) r e in
      let twelve : is_one_of 12 (numbers (room_checks N T (length errors) (length thicknesses) n (length out))) ≡ true =
      subst (λ (k : ℕ). is_one_of k (numbers (room_checks N T (length errors) (length thicknesses) n (length out))) ≡ true) q o in
      let z : ◌≡◌ {A = ℕ} 0 1 = cc in
      omega arith

module _ (p : Plate) (bound : ℕ) (sheets : Sheets)
    (given : (n : ℕ) → 1 ≤ n → n ≤ M p.N p.T → (out : List ℤ) → n < length out → ReadsBack p bound n sheets out) where
  readable : (n : ℕ) (out : List ℤ) (layer : ℕ) → read_answer p sheets n out ≡ refused 12 layer → ⊥
  unfolding reading
  readable n out layer e = go (room p.N p.T sheets.errors sheets.thicknesses n out) refl
    where
      go : (o : Option Numbered) → room p.N p.T sheets.errors sheets.thicknesses n out ≡ o → ⊥
      go none q =
          let i = in-range p.N p.T sheets.errors sheets.thicknesses n out q in
          never-12 p bound n (read_answer p sheets n out) out _ (given n i.0 i.1 out i.2) layer e
      go (some r) q =
          let s = decided-stopped (room_checks p.N p.T (length sheets.errors) (length sheets.thicknesses) n (length out))
          (entry_checks p.N p.T sheets.errors sheets.thicknesses n) (reading p.N p.T sheets.errors sheets.thicknesses n out).value r q in
          let f = sym s ∙ e in
          room-number p.N p.T sheets.errors sheets.thicknesses n out r q (let t : r.number ≡ 12 = cc in t)

  pub counts-read : ReadsCounts p bound sheets
  counts-read = record {
    given = given;
    exactly = λ n low high out room. refused-exactly p bound n (read_answer p sheets n out) out _ (given n low high out room);
    number = λ n low high out room. number-exactly p bound n (read_answer p sheets n out) out _ (given n low high out room);
    readable = readable;
    range = λ zs a. (a.layered, count-in-range p bound zs a);
  }
