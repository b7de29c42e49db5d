-- Which way a file is broken, for any format by its laws: the first record at fault decides, and its number is that of the way in which it is broken; what a
-- longer input changes follows from the record that it is. Assumes nothing.
use mathlib.Core.Path.{◌≡◌, sym, ap, subst, ◌∙◌}
use mathlib.Core.Logic.{◌↔◌}
use mathlib.Core.Bool.{Bool}
use mathlib.Core.List.{List, ◌++◌}
use Prim.Native.Nat.{ℕ}
use Rattle.lists.proofs.Checks.{first-exactly}
use Rattle.plate.specs.Refusal.{Told, refused}
use Rattle.record.specs.Frame.{kind_at}
use Rattle.promises.specs.Reader.{Reader, Reached, Stops, asks, allowed_next, right_next, RunsOut, KindBarred}
use Rattle.promises.specs.Faults.{Outlook, WhichWay}
use Rattle.promises.proofs.Lawful.{Lawful}
use Rattle.promises.proofs.Split.{said, sixteen, nineteen, twenty, twenty-one}
use Rattle.promises.proofs.Outlook as outlook
use Rattle.promises.proofs.Outlook.{AtFault}

-- one statement after another
pub both : {A B C : Type 0} → A ↔ B → B ↔ C → A ↔ C
both f g = (λ a. g.0 (f.0 a), λ c. f.1 (g.1 c))

-- the record stays, and what holds of it is said otherwise
stops_so : {Known : Type 0} {reader : Reader Known} {file : List ℕ} {F G : Known → List ℕ → Type 0}
    → ((known : Known) (kinds : List ℕ) → Reached reader file known kinds → F known kinds ↔ G known kinds) → Stops reader file F ↔ Stops reader file G
stops_so each = (
  λ x. record { known = x.known; kinds = x.kinds; reached = x.reached; fault = (each x.known x.kinds x.reached).0 x.fault },
  λ x. record { known = x.known; kinds = x.kinds; reached = x.reached; fault = (each x.known x.kinds x.reached).1 x.fault },
)

module _ {Known X : Type 0} {reader : Reader Known} {grammar : List ℕ → ℕ → Bool} (law : Lawful reader grammar) (answer : List ℕ → Told X)
    (decides : (file : List ℕ) (number place : ℕ) → (answer file ≡ refused number place) ↔ AtFault law file (said number place)) (file : List ℕ) where
  -- the kind test by the kinds before
  barred : {known : Known} {kinds : List ℕ} → Reached reader file known kinds → (place : ℕ)
      → ((reader.place known ≡ place) × KindBarred file place (allowed_next reader file known))
      ↔ ((reader.place known ≡ place) × KindBarred file place (grammar kinds (kind_at file place)))
  barred {known} {kinds} r place = (λ x. (x.0, (x.1.0, sym (same x.0) ∙ x.1.1)), λ x. (x.0, (x.1.0, same x.0 ∙ x.1.1)))
    where
      same : reader.place known ≡ place → allowed_next reader file known ≡ grammar kinds (kind_at file place)
      same e = law.kind-test file r (kind_at file (reader.place known)) ∙ ap (λ (p : ℕ). grammar kinds (kind_at file p)) e

  pub looks : Outlook answer file
  looks = record {
    final = λ number place e other more.
        (decides (file ++ more) number place).1 (outlook.final law file more (said number place) ((decides file number place).0 e) other);
    open-ended = λ byte place e.
        let x = (decides file 16 place).0 e in
        let w = (sixteen file (reader.place x.known) (allowed_next reader file x.known) (right_next reader file x.known) (reader.own file x.known) (law.own-numbers file x.known) place).0 x.fault in
        let o = outlook.open-ended law file byte x.reached (subst (λ (p : ℕ). RunsOut file p (allowed_next reader file x.known) (right_next reader file x.known)) (sym w.0) w.1) in
        let r = o.r in
        let a = (decides (file ++ o.more) r.number r.place).1 o.at-fault in
        (o.more, o.bytes, λ place q. o.other (let e : refused r.number r.place ≡ refused 16 place = sym a ∙ q in cc));
  }

  pub which-way : WhichWay reader grammar answer file
  which-way = record {
    decides = λ number place. both (decides file number place) (stops_so (λ known kinds r. first-exactly (asks reader file known) (said number place)));
    kind-test = λ r kind. law.kind-test file r kind;
    ran_out = λ place. both (decides file 16 place) (stops_so (λ known kinds r.
        sixteen file (reader.place known) (allowed_next reader file known) (right_next reader file known) (reader.own file known) (law.own-numbers file known) place));
    wrong-kind = λ place. both (decides file 19 place) (stops_so (λ known kinds r.
        both (nineteen file (reader.place known) (allowed_next reader file known) (right_next reader file known) (reader.own file known) (law.own-numbers file known) place)
        (barred r place)));
    wrong-length = λ place. both (decides file 20 place) (stops_so (λ known kinds r.
        twenty file (reader.place known) (allowed_next reader file known) (right_next reader file known) (reader.own file known) (law.own-numbers file known) place));
    disagrees = λ place. both (decides file 21 place) (stops_so (λ known kinds r.
        twenty-one file (reader.place known) (allowed_next reader file known) (right_next reader file known) (reader.own file known) place));
    outlook = looks;
  }
