-- What a longer input changes, for any format by whose laws a whole record says the same of every longer file. Records that passed pass again, and a fault
-- whose bytes stand in the file is the same fault. Where bytes ran out, ones are added, four more than the record lacks: a head that was cut then has a kind
-- that no format knows; a body that was cut is whole, and either its record is at fault by a number of its own, or ones stand behind it, where a
-- record of no known kind is refused, or anything behind the end. Assumes nothing.
use mathlib.Core.Path.{◌≡◌, refl, sym, ap, ap₂, subst, ◌∙◌}
use mathlib.Core.Logic.{◌⊎◌, inl, inr}
use mathlib.Core.Bool.{Bool, false}
use mathlib.Core.List.{List, [], ◌∷◌, ◌++◌}
use mathlib.Core.Option.{Option, none, some}
use Prim.Native.Nat.{ℕ, zero, suc, ◌+◌, ◌≤◌, ◌<◌}
use native.Mathlib.Omega.{arith}
use lib.ListN.{length, get_or, length-append}
use Rattle.lists.specs.Checks.{Check, first}
use Rattle.plate.specs.Refusal.{Numbered}
use Rattle.record.specs.Bytes.{Bytes, le16}
use Rattle.record.specs.Frame.{length_at, kind_at, past_at}
use Rattle.record.specs.Faults.{frame_checks, Framed}
use Rattle.record.proofs.Spelled.{bytes-append}
use Rattle.promises.specs.Reader.{Reader, allowed_next, right_next, asks, Reached, starts, further, Stops, RunsOut, KindBarred}
use Rattle.promises.proofs.Longer.{longer, length-longer, kind-longer}
use Rattle.promises.proofs.Lawful.{FramedNext, Lawful, passed-frame, passed-own, whole-passes}
use Rattle.promises.proofs.Split.{said, which, by-frame, by-own, Broken}

-- ---- ones

abbrev pub ones : ℕ → List ℕ
ones zero = []
ones (suc n) = 1 ∷ ones n

length-ones : (n : ℕ) → length (ones n) ≡ n
length-ones zero = refl
length-ones (suc n) = ap suc (length-ones n)

bytes-ones : (n : ℕ) → Bytes (ones n)
bytes-ones zero i = omega arith
bytes-ones (suc n) zero = omega arith
bytes-ones (suc n) (suc i) = bytes-ones n i

pub with-ones : (s : List ℕ) (n : ℕ) → length (s ++ ones n) ≡ length s + n
with-ones s n = length-append s (ones n) ∙ ap (λ (k : ℕ). length s + k) (length-ones n)

pub bytes-with-ones : (s : List ℕ) (n : ℕ) → Bytes s → Bytes (s ++ ones n)
bytes-with-ones s n b = bytes-append s (ones n) b (bytes-ones n)

one_at : (n i : ℕ) → i < n → get_or (ones n) i 0 ≡ 1
one_at zero i l = absurd (omega arith)
one_at (suc n) zero l = refl
one_at (suc n) (suc i) l = one_at n i (omega arith)

one-behind : (s : List ℕ) (n i : ℕ) → length s ≤ i → i < length s + n → get_or (s ++ ones n) i 0 ≡ 1
one-behind [] n i l m = one_at n i (omega arith)
one-behind (x ∷ s) n zero l m = absurd (omega arith)
one-behind (x ∷ s) n (suc i) l m = one-behind s n i (omega arith) (omega arith)

-- a kind whose higher byte is one of them is no format's
pub foreign : (s : List ℕ) (n at : ℕ) → Bytes s → length s ≤ at + 3 → at + 4 ≤ length s + n → (256 ≤ kind_at (s ++ ones n) at) × (kind_at (s ++ ones n) at < 512)
unfolding le16
foreign s n at b l m =
    let low = bytes-with-ones s n b (at + 2) in
    let same : at + 2 + 1 ≡ at + 3 = omega arith in
    let high : get_or (s ++ ones n) (at + 2 + 1) 0 ≡ 1 = ap (λ (i : ℕ). get_or (s ++ ones n) i 0) same ∙ one-behind s n (at + 3) l (omega arith) in
    (omega (arith, high), omega (arith, high, low))

-- ---- one record

module _ (at : ℕ) (allows : ℕ → Bool) (fits : ℕ → ℕ → Bool) where
  abbrev allowed : List ℕ → Bool
  allowed s = allows (kind_at s at)

  abbrev right : List ℕ → Bool
  right s = fits (kind_at s at) (length_at s at)

  abbrev Whole : List ℕ → Type 0
  Whole s = Framed s at (allowed s) (right s)

  module _ (s more : List ℕ) where
    -- a head that stands in the file
    same-allowed : at + 4 ≤ length s → allowed (s ++ more) ≡ allowed s
    same-allowed l = ap allows (kind-longer s more at l)

    same-right : at + 4 ≤ length s → right (s ++ more) ≡ right s
    same-right l = ap₂ fits (kind-longer s more at l) (length-longer s more at l)

    pub whole-longer : Whole s → Whole (s ++ more)
    whole-longer f =
        let l : at + 4 ≤ length s = omega (arith, f.within) in record {
          allows = same-allowed l ∙ f.allows;
          fits = same-right l ∙ f.fits;
          within = omega (arith, f.within, length-longer s more at l, longer s more);
        }

    -- a fault that is no lack of bytes stays
    pub fault-longer : (own own' : List (Check Numbered)) → (Whole s → (r : Numbered) → first own ≡ some r → first own' ≡ some r) → (r : Numbered)
        → first (frame_checks s at (allowed s) (right s) ++ own) ≡ some r → (r.number ≡ 16 → ⊥)
        → first (frame_checks (s ++ more) at (allowed (s ++ more)) (right (s ++ more)) ++ own') ≡ some r
    fault-longer own own' same r e other = go (which s at (allowed s) (right s) own r e)
      where
        again : (number : ℕ) → at ≡ r.place → number ≡ r.number → Broken (s ++ more) at (allowed (s ++ more)) (right (s ++ more)) number
            → first (frame_checks (s ++ more) at (allowed (s ++ more)) (right (s ++ more)) ++ own') ≡ some r
        again number p n b = by-frame (s ++ more) at (allowed (s ++ more)) (right (s ++ more)) own' number b ∙ (λ i. some (said (n i) (p i)))

        go : ((at ≡ r.place) × Broken s at (allowed s) (right s) r.number) ⊎ (Whole s × (first own ≡ some r))
            → first (frame_checks (s ++ more) at (allowed (s ++ more)) (right (s ++ more)) ++ own') ≡ some r
        go (inl (p, inl (n, w))) = absurd (other n)
        go (inl (p, inr (inl (n, (h, a))))) =
            let l : at + 4 ≤ length s = omega arith in
            again 19 p (sym n) (inr (inl (refl, (omega (arith, longer s more), same-allowed l ∙ a))))
        go (inl (p, inr (inr (n, (h, a, w))))) =
            let l : at + 4 ≤ length s = omega arith in
            again 20 p (sym n) (inr (inr (refl, (omega (arith, longer s more), same-allowed l ∙ a, same-right l ∙ w))))
        go (inr (f, q)) = by-own (s ++ more) at (allowed (s ++ more)) (right (s ++ more)) own' r (whole-longer f) (same f r q)

  -- ones where bytes ran out
  abbrev pub lacking : List ℕ → ℕ
  lacking s = at + length_at s at + 8

  abbrev pub filled : List ℕ → List ℕ
  filled s = s ++ ones (lacking s)

  module _ (s : List ℕ) (byte : Bytes s) (unknown : (kind : ℕ) → 256 ≤ kind → kind < 512 → allows kind ≡ false) where
    -- the head is one that no format has; or the record is whole, and ones stand behind it
    abbrev pub Mended : Type 0
    Mended = KindBarred (filled s) at (allowed (filled s)) ⊎ (Whole (filled s) × (length s ≤ past_at (filled s) at) × (past_at (filled s) at + 4 ≤ length (filled s)))

    pub mended : RunsOut s at (allowed s) (right s) → Mended
    mended (inl l) =
        let f = foreign s (lacking s) at byte (omega arith) (omega arith) in
        inl (omega (arith, with-ones s (lacking s)), unknown (kind_at (filled s) at) f.0 f.1)
    mended (inr (h, a, r, b)) =
        let l : at + 4 ≤ length s = omega arith in
        let n = length-longer s (ones (lacking s)) at l in
        let m = with-ones s (lacking s) in
        inr (
          record { allows = same-allowed s (ones (lacking s)) l ∙ a; fits = same-right s (ones (lacking s)) l ∙ r; within = omega (arith, n, m) },
          omega (arith, n),
          omega (arith, n, m),
        )

-- ---- a file

module _ {Known : Type 0} {reader : Reader Known} {grammar : List ℕ → ℕ → Bool} (law : Lawful reader grammar) where
  abbrev place : Known → ℕ
  place = reader.place

  pub reached-longer : (s more : List ℕ) {known : Known} {kinds : List ℕ} → Reached reader s known kinds → Reached reader (s ++ more) known kinds
  reached-longer s more starts = starts
  reached-longer s more (further {known} {next} {kinds} r e o) =
      let p = passed-frame reader s known e in
      let g = law.same-onward s more known next p (record { quiet = passed-own reader s known e; onward = o }) in
      let f = whole-longer (place known) (reader.allows known) (reader.fits known) s more p in
      let l : place known + 4 ≤ length s = omega (arith, p.within) in
      subst (λ (k : ℕ). Reached reader (s ++ more) next (k ∷ kinds)) (kind-longer s more (place known) l)
      (further (reached-longer s more r) (whole-passes reader (s ++ more) known f g.quiet) g.onward)

  -- a record at fault that is reached
  abbrev pub AtFault : List ℕ → Numbered → Type 0
  AtFault s r = Stops reader s (λ known kinds. first (asks reader s known) ≡ some r)

  pub final : (s more : List ℕ) (r : Numbered) → AtFault s r → (r.number ≡ 16 → ⊥) → AtFault (s ++ more) r
  final s more r x other =
      let known = x.known in record {
        known = known;
        kinds = x.kinds;
        reached = reached-longer s more x.reached;
        fault = fault-longer (place known) (reader.allows known) (reader.fits known) s more (reader.own s known) (reader.own (s ++ more) known) (law.same-fault s more known) r x.fault other;
      }

  -- a longer file that is refused with another number
  pub record Otherwise (s : List ℕ) : Type 0 where
    pub more : List ℕ
    pub bytes : Bytes (s ++ more)
    pub r : Numbered
    pub at-fault : AtFault (s ++ more) r
    pub other : r.number ≡ 16 → ⊥

  module _ (s : List ℕ) (byte : Bytes s) {known : Known} {kinds : List ℕ} (reached : Reached reader s known kinds) where
    abbrev at : ℕ
    at = place known

    abbrev long : List ℕ
    long = filled at (reader.allows known) (reader.fits known) s

    abbrev added : ℕ
    added = lacking at (reader.allows known) (reader.fits known) s

    there : Reached reader long known kinds
    there = reached-longer s (ones added) reached

    by : {other : Known} {others : List ℕ} → Reached reader long other others → (r : Numbered) → first (asks reader long other) ≡ some r → (r.number ≡ 16 → ⊥)
        → Otherwise s
    by {other} {others} p r e o = record {
      more = ones added;
      bytes = bytes-with-ones s added byte;
      r = r;
      at-fault = record { known = other; kinds = others; reached = p; fault = e };
      other = o;
    }

    barred : {other : Known} {others : List ℕ} → Reached reader long other others → KindBarred long (place other) (allowed_next reader long other) → Otherwise s
    barred {other} {others} p b =
        by p (said 19 (place other))
        (by-frame long (place other) (allowed_next reader long other) (right_next reader long other) (reader.own long other) 19 (inr (inl (refl, b)))) (λ e. omega arith)

    pub open-ended : RunsOut s at (allowed_next reader s known) (right_next reader s known) → Otherwise s
    open-ended w = go (mended at (reader.allows known) (reader.fits known) s byte (law.unknown known) w)
      where
        behind : FramedNext reader long known → first (reader.own long known) ≡ none → length s ≤ past_at long at → past_at long at + 4 ≤ length long
            → (o : Option Known) → reader.onward long known ≡ o → Otherwise s
        behind f q low high none e = absurd (omega (arith, law.last long known f q e))
        behind f q low high (some next) e =
            let p = law.next_place long known next f (record { quiet = q; onward = e }) in
            let n = with-ones s added in
            let k = foreign s added (place next) byte (omega (arith, p)) (omega (arith, p, n)) in
            barred (further there (whole-passes reader long known f q) e) (omega (arith, p), law.unknown next (kind_at long (place next)) k.0 k.1)

        own : FramedNext reader long known → length s ≤ past_at long at → past_at long at + 4 ≤ length long → (o : Option Numbered) → first (reader.own long known) ≡ o
            → Otherwise s
        own f low high none e = behind f e low high (reader.onward long known) refl
        own f low high (some r) e =
            by there r (by-own long at (allowed_next reader long known) (right_next reader long known) (reader.own long known) r f e) (law.own-numbers long known r e).not_16

        go : Mended at (reader.allows known) (reader.fits known) s byte (law.unknown known) → Otherwise s
        go (inl b) = barred there b
        go (inr (f, low, high)) = own f low high (first (reader.own long known)) refl
