-- Where the marks end, told with another bound that is the same within what is held; and marks that are laid. Assumes nothing.
use Rattle.std.proofs.Common.{◌≡◌, ℕ, List, ◌+◌, ◌-◌, ◌≤◌, ◌<◌, min, length, get_or, set, sym, ap, ◌∙◌, arith}
use Rattle.std.proofs.lemmas.List.{get_or_default}
use Rattle.lists.specs.Rewrite.{Span}
use Rattle.lists.proofs.Spans.{span_set, front-inside}
use Rattle.cases.specs.Shown.{IsEndOfMarks}

pub end-within : {A : Type 0} (none : A) (mark : ℕ → A) (held : List A) (from at to bound end : ℕ) → from ≡ at → min to (length held) ≡ min bound (length held)
    → IsEndOfMarks none mark held from to end → IsEndOfMarks none mark held at bound end
end-within none mark held from at to bound end e m w = record {
  within = (omega (arith, w.within), omega (arith, w.within));
  marks = λ i l h. w.marks i (omega arith) h;
  other = λ l h. w.other l (omega arith);
}

-- a mark that comes again is copied from where it stood
pub copied : {A : Type 0} {d : A} (mark : ℕ → A) → ((i : ℕ) → mark (i + 50) ≡ mark i) → (old new : List A) (i end : ℕ) (x : A) → Span d 0 (min i end) (λ k y. mark k) old new
    → 50 ≤ i → i < end → end ≤ length new → x ≡ get_or new (i - 50) x → Span d 0 (min (i + 1) end) (λ k y. mark k) old (set new i x)
copied {d = d} mark again old new i end x s from under room e =
    let here : min i end ≡ i = omega arith in
    let next : min (i + 1) end ≡ i + 1 = omega arith in
    let before : Span d 0 i (λ k y. mark k) old new = rw here at s in
    let back : i - 50 + 50 ≡ i = omega arith in
    let is : x ≡ mark i = e ∙ get_or_default new (i - 50) x d (omega arith) ∙ front-inside before (i - 50) (omega arith) ∙ sym (again (i - 50)) ∙ ap mark back in
    rw next (span_set before i x (omega arith) (omega arith) is)
