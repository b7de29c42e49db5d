-- What is read of a file's bytes is read of every longer file that begins with it, as long as they stand in it; and bytes that stand past its end stand past it
-- there too. Assumes nothing.
use mathlib.Core.Path.{◌≡◌, refl, sym, ap₂, ◌∙◌}
use mathlib.Core.Bool.{Bool, true, false, cond}
use mathlib.Core.List.{List, [], ◌∷◌, ◌++◌}
use mathlib.Core.Option.{Option, none, some}
use Prim.Native.Nat.{ℕ, zero, suc, ◌+◌, ◌*◌, ◌≤◌, ◌<◌}
use native.Mathlib.Omega.{arith}
use borrow.Author.Tests.{lt-ltb, ltb-true}
use lib.Dec.{ltb}
use lib.ListN.{length, length-append, get_or-append}
use Rattle.lists.specs.Checks.{Check, first}
use Rattle.lists.proofs.Checks.{first-passed, first-stopped}
use Rattle.plate.specs.Refusal.{Numbered}
use Rattle.record.specs.Bytes.{le16, le32, numbers, words, quads}
use Rattle.record.specs.Frame.{length_at, kind_at}
use Rattle.record.specs.Faults.{tail}

module _ (s more : List ℕ) where
  pub longer : length s ≤ length (s ++ more)
  longer = omega (arith, length-append s more)

  pub word-longer : (at : ℕ) → at + 2 ≤ length s → le16 (s ++ more) at ≡ le16 s at
  unfolding le16
  word-longer at l =
      let a = get_or-append s more 0 at (omega arith) in
      let b = get_or-append s more 0 (at + 1) (omega arith) in
      ap₂ (λ (x y : ℕ). x + 256 * y) a b

  pub quad-longer : (at : ℕ) → at + 4 ≤ length s → le32 (s ++ more) at ≡ le32 s at
  unfolding le32
  quad-longer at l = ap₂ (λ (x y : ℕ). x + 65536 * y) (word-longer at (omega arith)) (word-longer (at + 2) (omega arith))

  pub length-longer : (at : ℕ) → at + 4 ≤ length s → length_at (s ++ more) at ≡ length_at s at
  length-longer at l = word-longer at (omega arith)

  pub kind-longer : (at : ℕ) → at + 4 ≤ length s → kind_at (s ++ more) at ≡ kind_at s at
  kind-longer at l = word-longer (at + 2) (omega arith)

  numbers-longer : (read read' : ℕ → ℕ) (width start n : ℕ) → ((k : ℕ) → k < n → read' (start + width * k) ≡ read (start + width * k))
      → numbers read' width start n ≡ numbers read width start n
  numbers-longer read read' width start zero each = refl
  numbers-longer read read' width start (suc n) each =
      ap₂ (λ (l : List ℕ) (x : ℕ). l ++ (x ∷ [])) (numbers-longer read read' width start n (λ k l. each k (omega arith))) (each n (omega arith))

  pub words-longer : (start n : ℕ) → start + 2 * n ≤ length s → words (s ++ more) start n ≡ words s start n
  unfolding words
  words-longer start n l = numbers-longer (le16 s) (le16 (s ++ more)) 2 start n (λ k j. word-longer (start + 2 * k) (omega arith))

  pub quads-longer : (start n : ℕ) → start + 4 * n ≤ length s → quads (s ++ more) start n ≡ quads s start n
  unfolding quads
  quads-longer start n l = numbers-longer (le32 s) (le32 (s ++ more)) 4 start n (λ k j. quad-longer (start + 4 * k) (omega arith))

  -- bytes after the end, behind checks that say the same
  pub tail-longer : (cs : List (Check Numbered)) (end : ℕ) (r : Numbered) → first (cs ++ (tail s end ∷ [])) ≡ some r → first (cs ++ (tail (s ++ more) end ∷ [])) ≡ some r
  tail-longer cs end r e = before (first cs) refl
    where
      last : (b : Bool) → ltb end (length s) ≡ b → cond b (some (tail s end).says) none ≡ some r → first (tail (s ++ more) end ∷ []) ≡ some r
      last true h q = rw (lt-ltb end (length (s ++ more)) (omega (arith, ltb-true end (length s) h, longer))) q
      last false h q = absurd (let z : ◌≡◌ {A = ℕ} 0 1 = cc in omega arith)

      before : (o : Option Numbered) → first cs ≡ o → first (cs ++ (tail (s ++ more) end ∷ [])) ≡ some r
      before none h =
          first-passed cs (tail (s ++ more) end ∷ []) h ∙ last (ltb end (length s)) refl (sym (first-passed cs (tail s end ∷ []) h) ∙ e)
      before (some q) h = first-stopped cs (tail (s ++ more) end ∷ []) q h ∙ sym (first-stopped cs (tail s end ∷ []) q h) ∙ e
