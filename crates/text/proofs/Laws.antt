-- Laws on text laid into a buffer: one text after another is one text, and from the beginning of a buffer it lies over what stood there.
-- Assumes nothing.
use mathlib.Core.Path.{◌≡◌, refl, sym, ap, ap₂, ◌∙◌}
use mathlib.Core.List.{List, [], ◌∷◌, ◌++◌, append_assoc}
use Prim.Native.Nat.{ℕ, suc, ◌+◌, ◌≤◌, ◌<◌, min}
use native.Mathlib.Omega.{arith}
use borrow.Author.Tests.{lt-ltb, le-ltb}
use lib.ListN.{length, set, take, get_or, length-append}
use Rattle.std.proofs.lemmas.List.{take_more}
use Rattle.text.specs.Sink.{Sink, sink, put_byte, put, laid_over}

pub put-append : (xs ys : List ℕ) (k : Sink) → put (xs ++ ys) k ≡ put ys (put xs k)
unfolding put
put-append [] ys k = refl
put-append (x ∷ xs) ys k = put-append xs ys (put_byte x k)

-- one text, and then another
pub onto : (xs ys : List ℕ) (k l m : Sink) → l ≡ put xs k → m ≡ put ys l → m ≡ put (xs ++ ys) k
onto xs ys k l m e f = f ∙ ap (put ys) e ∙ sym (put-append xs ys k)

-- one byte, with room for it and without
pub put_in : (b at : ℕ) (bytes : List ℕ) → at < length bytes → sink (at + 1) (set bytes at b) ≡ put (b ∷ []) (sink at bytes)
unfolding put put_byte
put_in b at bytes l = simp (lt-ltb at (length bytes) l)

pub put-out : (b at : ℕ) (bytes : List ℕ) → length bytes ≤ at → sink at bytes ≡ put (b ∷ []) (sink at bytes)
unfolding put put_byte
put-out b at bytes l = simp (le-ltb at (length bytes) l)

-- a loop over a text: one byte more of it
pub put_next : (text : List ℕ) (i : ℕ) (k l m : Sink) → i < length text → l ≡ put (take i text) k → m ≡ put (get_or text i 0 ∷ []) l → m ≡ put (take (i + 1) text) k
put_next text i k l m h e f = onto (take i text) (get_or text i 0 ∷ []) k l m e f ∙ ap (λ (t : List ℕ). put t k) (sym (take_more text i 0 h))

-- ---- from the beginning

set_at : (pre : List ℕ) (x b : ℕ) (rest : List ℕ) → set (pre ++ (x ∷ rest)) (length pre) b ≡ (pre ++ (b ∷ [])) ++ rest
set_at [] x b rest = refl
set_at (y ∷ pre) x b rest = ap (λ (l : List ℕ). y ∷ l) (set_at pre x b rest)

put_full : (text : List ℕ) (at : ℕ) (bytes : List ℕ) → length bytes ≤ at → put text (sink at bytes) ≡ sink at bytes
unfolding put
put_full [] at bytes l = refl
put_full (b ∷ text) at bytes l = ap (put text) (sym (put-out b at bytes l)) ∙ put_full text at bytes l

put-after : (text pre old : List ℕ) → put text (sink (length pre) (pre ++ old)) ≡ sink (length pre + min (length text) (length old)) (pre ++ laid_over text old)
unfolding put laid_over
put-after [] pre old = ap (λ (n : ℕ). sink n (pre ++ old)) (omega arith)
put-after (b ∷ text) pre [] = put_full (b ∷ text) (length pre) (pre ++ []) (omega (arith, length-append pre [])) ∙ ap (λ (n : ℕ). sink n (pre ++ [])) (omega arith)
put-after (b ∷ text) pre (x ∷ old) =
    let room : length pre < length (pre ++ (x ∷ old)) = omega (arith, length-append pre (x ∷ old)) in
    let longer : length pre + 1 ≡ length (pre ++ (b ∷ [])) = omega (arith, length-append pre (b ∷ [])) in
    ap (put text) (sym (put_in b (length pre) (pre ++ (x ∷ old)) room) ∙ ap₂ sink longer (set_at pre x b old))
    ∙ put-after text (pre ++ (b ∷ [])) old
    ∙ ap₂ sink (omega (arith, longer)) (append_assoc pre (b ∷ []) (laid_over text old))

pub put-start : (text old : List ℕ) → put text (sink 0 old) ≡ sink (min (length text) (length old)) (laid_over text old)
put-start text old = put-after text [] old ∙ ap (λ (n : ℕ). sink n (laid_over text old)) (omega arith)

pub length-laid : (text old : List ℕ) → length (laid_over text old) ≡ length old
unfolding laid_over
length-laid [] old = refl
length-laid (b ∷ text) [] = refl
length-laid (b ∷ text) (x ∷ old) = ap suc (length-laid text old)

-- with room for all of it, all of it is there
pub laid-whole : (text old : List ℕ) → length text ≤ length old → take (length text) (laid_over text old) ≡ text
unfolding laid_over
laid-whole [] old l = refl
laid-whole (b ∷ text) [] l = absurd (omega arith)
laid-whole (b ∷ text) (x ∷ old) l = ap (λ (t : List ℕ). b ∷ t) (laid-whole text old (omega arith))
