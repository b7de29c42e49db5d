-- A part of a buffer, lent and come back: the k elements from b on, in whose place `part` stands then. What a span of the part says, a span of
-- the whole buffer says (`span-lent`). Assumes nothing.
use mathlib.Core.Path.{◌≡◌, ap, ◌∙◌, subst}
use mathlib.Core.List.{List, ◌++◌}
use Prim.Native.Nat.{ℕ, ◌+◌, ◌-◌, ◌≤◌, ◌<◌}
use native.Mathlib.Omega.{arith}
use native.Mathlib.Decide.{dec_lt}
use lib.ListN.{length, get_or, take, drop, length-append, length-drop, get_or-append}
use lib.Seq.{get_or-take, get_or-drop, get_or-append-add, length-take-le}
use Rattle.lists.specs.Rewrite.{Span}

-- what is lent
pub lent_at : {A : Type 0} (d : A) (b k : ℕ) (old : List A) (i : ℕ) → i < k → get_or (take k (drop b old)) i d ≡ get_or old (b + i) d
lent_at d b k old i l = get_or-take k (drop b old) i d l ∙ get_or-drop b old i d

pub lent-long : {A : Type 0} (b k : ℕ) (old : List A) → b + k ≤ length old → length (take k (drop b old)) ≡ k
lent-long b k old l = length-take-le k (drop b old) (omega (arith, length-drop b old))

-- what has come back
module _ {A : Type 0} (d : A) (b k : ℕ) (old part : List A) (inside : b + k ≤ length old) (long : length part ≡ k) where
  abbrev whole : List A
  whole = take b old ++ (part ++ drop k (drop b old))

  taken-long : length (take b old) ≡ b
  taken-long = length-take-le b old (omega arith)

  whole_long : length whole ≡ length old
  whole_long =
      length-append (take b old) (part ++ drop k (drop b old))
      ∙ omega (arith, taken-long, length-append part (drop k (drop b old)), length-drop k (drop b old), length-drop b old)

  whole-after : (i : ℕ) → get_or whole (b + i) d ≡ get_or (part ++ drop k (drop b old)) i d
  whole-after i =
      let e : b + i ≡ length (take b old) + i = omega (arith, taken-long) in
      ap (λ (j : ℕ). get_or whole j d) e ∙ get_or-append-add (take b old) (part ++ drop k (drop b old)) i d

  whole_part : (i : ℕ) → i < k → get_or whole (b + i) d ≡ get_or part i d
  whole_part i l = whole-after i ∙ get_or-append part (drop k (drop b old)) d i (omega arith)

  whole_below : (i : ℕ) → i < b → get_or whole i d ≡ get_or old i d
  whole_below i l = get_or-append (take b old) (part ++ drop k (drop b old)) d i (omega (arith, taken-long)) ∙ get_or-take b old i d l

  whole_above : (i : ℕ) → b + k ≤ i → get_or whole i d ≡ get_or old i d
  whole_above i l =
      let j = i - (b + k) in
      let e : b + (k + j) ≡ i = omega arith in
      let f : k + j ≡ length part + j = omega arith in
      subst (λ (n : ℕ). get_or whole n d ≡ get_or old n d) e
      (whole-after (k + j) ∙ ap (λ (n : ℕ). get_or (part ++ drop k (drop b old)) n d) f ∙ get_or-append-add part (drop k (drop b old)) j d
      ∙ get_or-drop k (drop b old) j d ∙ get_or-drop b old (k + j) d)

  -- a span of the part is one of the whole
  pub span-lent : {a n : ℕ} {g : ℕ → A → A} → Span d a n g (take k (drop b old)) part → a + n ≤ k → Span d (b + a) n g old whole
  span-lent {a} {n} {g} s u = record {
    long = whole_long;
    inside = λ m h.
        let e : b + (a + m) ≡ b + a + m = omega arith in
        subst (λ (i : ℕ). get_or whole i d ≡ g m (get_or old i d)) e (whole_part (a + m) (omega arith) ∙ s.inside m h ∙ ap (g m) (lent_at d b k old (a + m) (omega arith)));
    below = λ i h. other i (dec_lt i b) (dec_lt i (b + k)) (λ j l. s.below j (omega arith));
    above = λ i h. other i (dec_lt i b) (dec_lt i (b + k)) (λ j l. s.above j (omega arith));
  }
    where
      other : (i : ℕ) → Dec (i < b) → Dec (i < b + k) → ((j : ℕ) → b + j ≡ i → get_or part j d ≡ get_or (take k (drop b old)) j d) → get_or whole i d ≡ get_or old i d
      other i (yes l) v e = whole_below i l
      other i (no l) (no v) e = whole_above i (omega arith)
      other i (no l) (yes v) e =
          let f : b + (i - b) ≡ i = omega arith in
          subst (λ (n : ℕ). get_or whole n d ≡ get_or old n d) f (whole_part (i - b) (omega arith) ∙ e (i - b) f ∙ lent_at d b k old (i - b) (omega arith))
