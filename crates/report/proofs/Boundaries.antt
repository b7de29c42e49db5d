-- The boundaries of a line, one by one. Assumes nothing.
use mathlib.Core.Path.{◌≡◌, sym, ap, ◌∙◌}
use mathlib.Core.List.{List, ◌++◌}
use Prim.Native.Nat.{ℕ, suc, ◌+◌, ◌≤◌, ◌<◌}
use native.Mathlib.Omega.{arith}
use native.Mathlib.Numerals.{add-one}
use lib.IntN.{ℤ, pos}
use lib.ListN.{length, take, drop, drop_of_length-le, length-take}
use lib.Seq.{drop-cons, length-take-le, get_or-take}
use Rattle.paper.specs.Sequence.{◌!◌}
use Rattle.text.specs.declared.Page.{Page}
use Rattle.text.specs.Sink.{put}
use Rattle.text.specs.Page.{lay}
use Rattle.text.proofs.Pages.{lay-append}
use Rattle.report.specs.Lines.{boundary_text, boundaries_text}

module _ (zs : List ℤ) (count i : ℕ) where
  -- the next one, and those after it
  next-is : count ≤ length zs → i < count → boundary_text (zs ! i) ++ boundaries_text (drop (i + 1) (take count zs)) ≡ boundaries_text (drop i (take count zs))
  unfolding boundaries_text
  next-is room l =
      let n : i < length (take count zs) = omega (arith, length-take-le count zs room) in
      rw (add-one i)
      (ap (λ (z : ℤ). boundary_text z ++ boundaries_text (drop (suc i) (take count zs))) (sym (get_or-take count zs i (pos 0) l))
      ∙ sym (ap boundaries_text (drop-cons (take count zs) i (pos 0) n)))

  pub boundary-next : (k : Page) → count ≤ length zs → i < count
      → lay (boundaries_text (drop (i + 1) (take count zs))) (lay (boundary_text (zs ! i)) k) ≡ lay (boundaries_text (drop i (take count zs))) k
  boundary-next k room l = sym (lay-append (boundary_text (zs ! i)) (boundaries_text (drop (i + 1) (take count zs))) k) ∙ ap (λ (t : List ℕ). lay t k) (next-is room l)

  pub boundary_end : (k : Page) → count ≤ i → k ≡ lay (boundaries_text (drop i (take count zs))) k
  unfolding boundaries_text put
  boundary_end k l = let n : length (take count zs) ≤ i = omega (arith, length-take count zs) in rw (drop_of_length-le (take count zs) n)
