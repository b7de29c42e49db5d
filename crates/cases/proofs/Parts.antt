-- A part from the start, a part up to the end, and what stands before a line's first colon. Assumes nothing.
use Rattle.std.proofs.Common.{◌≡◌, refl, sym, ap, ap₂, ◌∙◌, Bool, true, false, cond, List, ℕ, ◌-◌, ◌/◌, ◌≤◌, ◌<◌, leb, ltb, eqb, length, get_or, take, drop, arith, length-drop, le-leb, leb-false, ltb-true, ltb-false, eq-eqb, ne_eqb}
use Rattle.std.proofs.lemmas.List.{take_all}
use Rattle.lists.specs.Search.{lowest}
use Rattle.lists.proofs.Search.{lowest-hit, lowest-none}
use Rattle.cases.specs.Cases.{part_of, laid_by, before_colon, given_of}

-- of a list that is no longer than that, the front is the whole
pub part-front : {A : Type 0} (l : List A) (n : ℕ) → part_of l 0 n ≡ take n l
part-front l n = go (leb n (length l)) refl
  where
    go : (b : Bool) → leb n (length l) ≡ b → cond (leb 0 n) (cond b (take (n - 0) (drop 0 l)) l) l ≡ take n l
    go true e = simp (le-leb 0 n (omega arith)) (ap (λ (k : ℕ). take k l) (omega arith))
    go false e = simp (le-leb 0 n (omega arith)) (sym (take_all n l (omega (arith, leb-false n (length l) e))))

pub part-back : {A : Type 0} (l : List A) (n : ℕ) → n ≤ length l → part_of l n (length l) ≡ drop n l
part-back l n h =
    simp (le-leb n (length l) h, le-leb (length l) (length l) (omega arith))
    (take_all (length l - n) (drop n l) (omega (arith, length-drop n l)))

-- it is not past the line's end, there is a colon where it is not the line's end, and none before
pub colon-is : (line : List ℕ) (end : ℕ) → end ≤ length line → (end < length line → get_or line end 0 ≡ 58)
    → ((i : ℕ) → 0 ≤ i → i < end → get_or line i 0 ≡ 58 → ⊥) → end ≡ before_colon line
unfolding before_colon
colon-is line end within hit free = go (ltb end (length line)) refl
  where
    before : (k : ℕ) → k < end → eqb (get_or line k 0) 58 ≡ false
    before k l = ne_eqb (get_or line k 0) 58 (free k (omega arith) l)

    go : (b : Bool) → ltb end (length line) ≡ b → end ≡ lowest (λ k. eqb (get_or line k 0) 58) (length line)
    go true e =
        let l = ltb-true end (length line) e in
        sym (lowest-hit (λ k. eqb (get_or line k 0) 58) (length line) end l before (eq-eqb (get_or line end 0) 58 (hit l)))
    go false e =
        let q : end ≡ length line = omega (arith, within, ltb-false end (length line) e) in
        q ∙ sym (lowest-none (λ k. eqb (get_or line k 0) 58) (length line) (λ k l. before k (omega arith)))

pub given-is : (line held new words result : List ℕ) (colon size : ℕ) → colon ≡ before_colon line → colon ≤ length line → words ≡ part_of line colon (length line)
    → new ≡ (laid_by words (length words) held).held → size ≡ (laid_by words (length words) held).halves / 2 → result ≡ part_of new 0 size → result ≡ given_of line held
given-is line held new words result colon size c l w n s e =
    let v : words ≡ drop (before_colon line) line = w ∙ part-back line colon l ∙ ap (λ (m : ℕ). drop m line) c in
    e
    ∙ part-front new size
    ∙ ap₂ take s n
    ∙ ap (λ (t : List ℕ). take ((laid_by t (length t) held).halves / 2) (laid_by t (length t) held).held) v
