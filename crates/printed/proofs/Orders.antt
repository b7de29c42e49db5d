-- The order at a number from 0 in the file of a sequence: 2j is the lift of layer j + 1, 2j + 1 its cure, and 2n the finish, which is the
-- last. It is read from the file, so it is the same for every sequence that has this file. Assumes nothing.
use Prim.Native.Nat.{ℕ, zero, suc, ◌+◌, ◌*◌, ◌<◌}
use mathlib.Core.Path.{◌≡◌, refl, sym, ◌∙◌, ap}
use mathlib.Core.List.{List, [], ◌∷◌, ◌++◌}
use native.Mathlib.Omega.{arith}
use native.Mathlib.Decide.{ℕ_discrete}
use lib.ListN.{length, get_or, length-append, get_or-append}
use lib.Seq.{get_or-append-add}
use lib.IntN.{ℤ, nat_abs, ◌-ℤ◌}
use Rattle.paper.specs.Sequence.{◌!◌, count, thickness}
use Rattle.printed.specs.Possible.{cure_of}
use Rattle.printed.specs.Records.{Record, lift, cure, finish}
use Rattle.printed.specs.Paper.{layers_to, file_of}

module _ (cures : List ℕ) (zs : List ℤ) where
  layers-length : (k : ℕ) → length (layers_to cures zs k) ≡ 2 * k
  layers-length zero = refl
  layers-length (suc k) =
      let e = layers-length k in
      length-append (layers_to cures zs k) (lift (nat_abs (zs ! suc k -ℤ zs ! 0)) ∷ cure (cure_of cures (thickness zs k)) ∷ []) ∙ omega arith

  pub file-length : length (file_of cures zs) ≡ 2 * count zs + 1
  file-length = length-append (layers_to cures zs (count zs)) (finish (count zs) ∷ []) ∙ omega (arith, layers-length (count zs))

  -- the two orders of a layer: i is 0 or 1
  layer-at : (d : Record) (n k i : ℕ) → k < n → i < 2
      → get_or (layers_to cures zs n) (2 * k + i) d ≡ get_or (lift (nat_abs (zs ! suc k -ℤ zs ! 0)) ∷ cure (cure_of cures (thickness zs k)) ∷ []) i d
  layer-at d zero k i l m = absurd (omega arith)
  layer-at d (suc n) k i l m = go (ℕ_discrete k n) (λ l. layer-at d n k i l m)
    where
      pair : ℕ → List Record
      pair k = lift (nat_abs (zs ! suc k -ℤ zs ! 0)) ∷ cure (cure_of cures (thickness zs k)) ∷ []

      go : Dec (k ≡ n) → (k < n → get_or (layers_to cures zs n) (2 * k + i) d ≡ get_or (pair k) i d)
          → get_or (layers_to cures zs n ++ pair n) (2 * k + i) d ≡ get_or (pair k) i d
      go (yes e) ih =
          let x : 2 * k + i ≡ length (layers_to cures zs n) + i = omega (arith, layers-length n) in
          ap (λ (j : ℕ). get_or (layers_to cures zs n ++ pair n) j d) x
          ∙ get_or-append-add (layers_to cures zs n) (pair n) i d
          ∙ ap (λ (j : ℕ). get_or (pair j) i d) (sym e)
      go (no e) ih = get_or-append (layers_to cures zs n) (pair n) d (2 * k + i) (omega (arith, layers-length n)) ∙ ih (omega arith)

  file-at : (d : Record) (k i : ℕ) → k < count zs → i < 2
      → get_or (file_of cures zs) (2 * k + i) d ≡ get_or (lift (nat_abs (zs ! suc k -ℤ zs ! 0)) ∷ cure (cure_of cures (thickness zs k)) ∷ []) i d
  file-at d k i l m =
      get_or-append (layers_to cures zs (count zs)) (finish (count zs) ∷ []) d (2 * k + i) (omega (arith, layers-length (count zs)))
      ∙ layer-at d (count zs) k i l m

  pub lift-at : (d : Record) (k : ℕ) → k < count zs → get_or (file_of cures zs) (2 * k) d ≡ lift (nat_abs (zs ! suc k -ℤ zs ! 0))
  lift-at d k l = ap (λ (j : ℕ). get_or (file_of cures zs) j d) plain ∙ file-at d k 0 l (omega arith)
    where
      plain : 2 * k ≡ 2 * k + 0
      plain = omega arith

  pub cure-at : (d : Record) (k : ℕ) → k < count zs → get_or (file_of cures zs) (2 * k + 1) d ≡ cure (cure_of cures (thickness zs k))
  cure-at d k l = file-at d k 1 l (omega arith)

  pub finish-at : (d : Record) → get_or (file_of cures zs) (2 * count zs) d ≡ finish (count zs)
  finish-at d = ap (λ (j : ℕ). get_or (file_of cures zs) j d) end ∙ get_or-append-add (layers_to cures zs (count zs)) (finish (count zs) ∷ []) 0 d
    where
      end : 2 * count zs ≡ length (layers_to cures zs (count zs)) + 0
      end = omega (arith, layers-length (count zs))
