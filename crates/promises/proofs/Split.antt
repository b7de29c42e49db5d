-- Which number one record gets. Its frame is broken in one of three ways, each with its number at the record's first byte, or it passes and what is its own
-- decides, by no number of a frame's. So each number is given exactly where its way of being broken holds. Assumes nothing.
use mathlib.Core.Path.{◌≡◌, refl, sym, ap, subst, ◌∙◌}
use mathlib.Core.Logic.{◌↔◌, ◌⊎◌, inl, inr}
use mathlib.Core.Bool.{Bool, true, false, ◌||◌}
use mathlib.Core.List.{List, ◌++◌}
use mathlib.Core.Option.{some}
use Prim.Native.Nat.{ℕ, ◌≤◌}
use native.Mathlib.Omega.{arith}
use borrow.Author.Tests.{ltb-true, ltb-false}
use lib.Dec.{ltb}
use Rattle.lists.specs.Checks.{Check, first}
use Rattle.lists.proofs.Checks.{or-false, first-passed, first-stopped}
use Rattle.plate.specs.Refusal.{Numbered}
use Rattle.record.specs.Frame.{left, length_at, body_at}
use Rattle.record.specs.Faults.{frame_checks, Framed}
use Rattle.record.proofs.Frames.{is_cut, is-barred, is-wrong, is-body-cut, is_framed, frame-passed, frame-passes}
use Rattle.promises.specs.Orders.{numbers, is_one_of}
use Rattle.promises.specs.Reader.{RunsOut, KindBarred, LengthWrong, Contradicts}
use Rattle.promises.proofs.Orders.{first-number}
use Rattle.promises.proofs.Lawful.{NotOfFrame}

abbrev pub said : ℕ → ℕ → Numbered
said number place = record { number = number; place = place }

pub said-number : {a b : Numbered} → some a ≡ some b → a.number ≡ b.number
said-number e = cc

pub said-place : {a b : Numbered} → some a ≡ some b → a.place ≡ b.place
said-place e = cc

-- ---- the numbers of a list

pub clash : {a : Bool} → a ≡ true → a ≡ false → ⊥
clash p q = let z : ◌≡◌ {A = Bool} true false = sym p ∙ q in let y : ◌≡◌ {A = ℕ} 0 1 = cc in omega arith

-- a list without a number of a frame's
pub not-of-frame : (cs : List (Check Numbered)) (line : List ℕ) → numbers cs ≡ line → is_one_of 16 line || (is_one_of 19 line || is_one_of 20 line) ≡ false
    → (r : Numbered) → first cs ≡ some r → NotOfFrame r.number
not-of-frame cs line is none_of r e =
    let a = or-false (is_one_of 16 line) (is_one_of 19 line || is_one_of 20 line) none_of in
    let b = or-false (is_one_of 19 line) (is_one_of 20 line) a.1 in
    record { not_16 = λ n. never 16 a.0 n; not-19 = λ n. never 19 b.0 n; not-20 = λ n. never 20 b.1 n }
  where
    never : (n : ℕ) → is_one_of n line ≡ false → r.number ≡ n → ⊥
    never n out q = clash (ap (λ (m : ℕ). is_one_of m line) (sym q) ∙ subst (λ (l : List ℕ). is_one_of r.number l ≡ true) is (first-number cs r e)) out

module _ (s : List ℕ) (at : ℕ) (allowed right : Bool) where
  abbrev frame : List (Check Numbered)
  frame = frame_checks s at allowed right

  -- ---- the frame

  abbrev pub Broken : ℕ → Type 0
  Broken number = ((number ≡ 16) × RunsOut s at allowed right) ⊎ (((number ≡ 19) × KindBarred s at allowed) ⊎ ((number ≡ 20) × LengthWrong s at allowed right))

  frame-says : (number : ℕ) → Broken number → first frame ≡ some (said number at)
  frame-says number (inl (e, inl l)) = sym (is_cut s at allowed right l) ∙ ap (λ (n : ℕ). some (said n at)) (sym e)
  frame-says number (inl (e, inr (h, a, r, b))) = sym (is-body-cut s at allowed right h (simp a) (simp r) b) ∙ ap (λ (n : ℕ). some (said n at)) (sym e)
  frame-says number (inr (inl (e, (h, a)))) = sym (is-barred s at allowed right h (simp a)) ∙ ap (λ (n : ℕ). some (said n at)) (sym e)
  frame-says number (inr (inr (e, (h, a, r)))) = sym (is-wrong s at allowed right h (simp a) (simp r)) ∙ ap (λ (n : ℕ). some (said n at)) (sym e)

  abbrev Outcome : Type 0
  Outcome = ((number : ℕ) × Broken number) ⊎ Framed s at allowed right

  frame-outcome : Outcome
  frame-outcome = heads (ltb (left s at) 4) refl
    where
      bodies : 4 ≤ left s at → allowed ≡ true → right ≡ true → (b : Bool) → ltb (left s (body_at at)) (length_at s at) ≡ b → Outcome
      bodies h a r true e = inl (16, inl (refl, inr (h, a, r, ltb-true (left s (body_at at)) (length_at s at) e)))
      bodies h a r false e =
          let l = ltb-false (left s (body_at at)) (length_at s at) e in
          inr (frame-passed s at allowed right (sym (is_framed s at allowed right h (simp a) (simp r) l)))

      lengths : 4 ≤ left s at → allowed ≡ true → (b : Bool) → right ≡ b → Outcome
      lengths h a true r = bodies h a r (ltb (left s (body_at at)) (length_at s at)) refl
      lengths h a false r = inl (20, inr (inr (refl, (h, a, r))))

      kinds : 4 ≤ left s at → (b : Bool) → allowed ≡ b → Outcome
      kinds h true a = lengths h a right refl
      kinds h false a = inl (19, inr (inl (refl, (h, a))))

      heads : (b : Bool) → ltb (left s at) 4 ≡ b → Outcome
      heads true e = inl (16, inl (refl, inl (ltb-true (left s at) 4 e)))
      heads false e = kinds (ltb-false (left s at) 4 e) allowed refl

  -- ---- the record

  module _ (own : List (Check Numbered)) where
    abbrev all : List (Check Numbered)
    all = frame ++ own

    pub by-frame : (number : ℕ) → Broken number → first all ≡ some (said number at)
    by-frame number b = first-stopped frame own (said number at) (frame-says number b)

    pub by-own : (r : Numbered) → Framed s at allowed right → first own ≡ some r → first all ≡ some r
    by-own r f e = first-passed frame own (frame-passes s at allowed right f) ∙ e

    -- the two ways in which it is refused
    pub which : (r : Numbered) → first all ≡ some r → ((at ≡ r.place) × Broken r.number) ⊎ (Framed s at allowed right × (first own ≡ some r))
    which r e = go frame-outcome
      where
        go : Outcome → ((at ≡ r.place) × Broken r.number) ⊎ (Framed s at allowed right × (first own ≡ some r))
        go (inl (number, b)) = let q = sym (by-frame number b) ∙ e in inl (said-place q, subst Broken (said-number q) b)
        go (inr f) = inr (f, sym (first-passed frame own (frame-passes s at allowed right f)) ∙ e)

    -- a number that is none of its own is given exactly where the frame is broken in the way that has it
    by_way : (number : ℕ) (Way : ℕ → Type 0) → (Broken number → Way at) → (Way at → Broken number) → ((r : Numbered) → first own ≡ some r → r.number ≡ number → ⊥)
        → (place : ℕ) → (first all ≡ some (said number place)) ↔ ((at ≡ place) × Way place)
    by_way number Way way broken none-own place = (λ e. to (which (said number place) e), λ x. from x.0 x.1)
      where
        to : ((at ≡ place) × Broken number) ⊎ (Framed s at allowed right × (first own ≡ some (said number place))) → (at ≡ place) × Way place
        to (inl (e, b)) = (e, subst Way e (way b))
        to (inr (f, e)) = absurd (none-own (said number place) e refl)

        from : at ≡ place → Way place → first all ≡ some (said number place)
        from e w = by-frame number (broken (subst Way (sym e) w)) ∙ ap (λ (q : ℕ). some (said number q)) e

    module _ (bare : (r : Numbered) → first own ≡ some r → NotOfFrame r.number) where
      pub sixteen : (place : ℕ) → (first all ≡ some (said 16 place)) ↔ ((at ≡ place) × RunsOut s place allowed right)
      sixteen = by_way 16 (λ q. RunsOut s q allowed right) way (λ w. inl (refl, w)) (λ r e. (bare r e).not_16)
        where
          way : Broken 16 → RunsOut s at allowed right
          way (inl (n, w)) = w
          way (inr (inl (n, w))) = absurd (omega arith)
          way (inr (inr (n, w))) = absurd (omega arith)

      pub nineteen : (place : ℕ) → (first all ≡ some (said 19 place)) ↔ ((at ≡ place) × KindBarred s place allowed)
      nineteen = by_way 19 (λ q. KindBarred s q allowed) way (λ w. inr (inl (refl, w))) (λ r e. (bare r e).not-19)
        where
          way : Broken 19 → KindBarred s at allowed
          way (inl (n, w)) = absurd (omega arith)
          way (inr (inl (n, w))) = w
          way (inr (inr (n, w))) = absurd (omega arith)

      pub twenty : (place : ℕ) → (first all ≡ some (said 20 place)) ↔ ((at ≡ place) × LengthWrong s place allowed right)
      twenty = by_way 20 (λ q. LengthWrong s q allowed right) way (λ w. inr (inr (refl, w))) (λ r e. (bare r e).not-20)
        where
          way : Broken 20 → LengthWrong s at allowed right
          way (inl (n, w)) = absurd (omega arith)
          way (inr (inl (n, w))) = absurd (omega arith)
          way (inr (inr (n, w))) = w

    pub twenty-one : (place : ℕ) → (first all ≡ some (said 21 place)) ↔ Contradicts s at allowed right own place
    twenty-one place = (λ e. to (which (said 21 place) e), λ x. by-own (said 21 place) x.0 x.1)
      where
        to : ((at ≡ place) × Broken 21) ⊎ (Framed s at allowed right × (first own ≡ some (said 21 place))) → Contradicts s at allowed right own place
        to (inl (e, inl (n, b))) = absurd (omega arith)
        to (inl (e, inr (inl (n, b)))) = absurd (omega arith)
        to (inl (e, inr (inr (n, b)))) = absurd (omega arith)
        to (inr x) = x
