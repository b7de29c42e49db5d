-- A digest of the first so many is a fold over them. Assumes nothing.
use Rattle.std.proofs.Common.{◌≡◌, ◌∙◌, refl, sym, ap, List, ℕ, zero, suc, ◌+◌, ◌≤◌, map, length, get_or, take, fold, arith}
use Rattle.std.proofs.lemmas.List.{take_more, take-map, take_all, length-map}
use Rattle.std.proofs.lemmas.List.Sums.{fold_push}
use Rattle.std.proofs.lemmas.List.Folds.{fold-map}
use Rattle.cases.specs.Cases.{digest_with, digest_of}

upto : (l : List ℕ) (n : ℕ) → n ≤ length l → digest_of l n ≡ fold digest_with 0 (take n l)
unfolding digest_of
upto l zero h = refl
upto l (suc n) h =
    let q : suc n ≡ n + 1 = omega arith in
    ap (λ d. digest_with d (get_or l n 0)) (upto l n (omega arith))
    ∙ sym (fold_push digest_with 0 (take n l) (get_or l n 0))
    ∙ ap (fold digest_with 0) (sym (take_more l n 0 (omega arith)) ∙ ap (λ (k : ℕ). take k l) (sym q))

by_fold : {A : Type 0} (v : A → ℕ) (l : List A) (n : ℕ) → n ≤ length l → digest_of (map v l) n ≡ fold (λ d x. digest_with d (v x)) 0 (take n l)
by_fold v l n h =
    upto (map v l) n (omega (arith, length-map l v))
    ∙ ap (fold digest_with 0) (take-map v n l)
    ∙ fold-map digest_with v 0 (take n l)

-- d is the fold over as many as the first m have, or more
pub digest-whole : {A : Type 0} (v : A → ℕ) (l : List A) (n m i d : ℕ) → d ≡ fold (λ d x. digest_with d (v x)) 0 (take i (take m l)) → length (take m l) ≤ i → m ≤ length l → m ≡ n → d ≡ digest_of (map v l) n
digest-whole v l n m i d e whole within same =
    e
    ∙ ap (fold (λ d x. digest_with d (v x)) 0) (take_all i (take m l) whole)
    ∙ sym (by_fold v l m within)
    ∙ ap (digest_of (map v l)) same
