-- What is asked of a record before its body is looked at. Each check says its own number where it is the first that holds; where none does, the
-- kind is allowed, the length is right, and the record ends in the input. Assumes nothing.
use mathlib.Core.Path.{◌≡◌, refl, sym}
use mathlib.Core.Bool.{Bool, not, true, false}
use mathlib.Core.List.{List}
use mathlib.Core.Option.{none, some}
use Prim.Native.Nat.{ℕ, ◌≤◌, ◌<◌}
use native.Mathlib.Omega.{arith}
use borrow.Author.Tests.{lt-ltb, le-ltb, ltb-false, not-false}
use Rattle.lists.specs.Checks.{first}
use Rattle.lists.proofs.Checks.{first-none}
use Rattle.record.specs.Frame.{left, length_at, body_at}
use Rattle.record.specs.Faults.{cut, kind_here, wrong_length, body_cut, frame_checks, Framed}
use Rattle.record.specs.Places.{At}

module _ (s : List ℕ) (at : ℕ) (allowed right : Bool) where
  -- ---- the ways out of them

  pub is_cut : left s at < 4 → some (cut s at).says ≡ first (frame_checks s at allowed right)
  unfolding frame_checks
  is_cut l = simp (lt-ltb (left s at) 4 l)

  module _ (four : 4 ≤ left s at) where
    pub is-barred : not allowed ≡ true → some (kind_here allowed at).says ≡ first (frame_checks s at allowed right)
    unfolding frame_checks
    is-barred a = simp (le-ltb (left s at) 4 four, a)

    module _ (a : not allowed ≡ false) where
      pub is-wrong : not right ≡ true → some (wrong_length right at).says ≡ first (frame_checks s at allowed right)
      unfolding frame_checks
      is-wrong r = simp (le-ltb (left s at) 4 four, a, r)

      module _ (r : not right ≡ false) where
        pub is-body-cut : left s (body_at at) < length_at s at → some (body_cut s at).says ≡ first (frame_checks s at allowed right)
        unfolding frame_checks
        is-body-cut l = simp (le-ltb (left s at) 4 four, a, r, lt-ltb (left s (body_at at)) (length_at s at) l)

        pub is_framed : length_at s at ≤ left s (body_at at) → none ≡ first (frame_checks s at allowed right)
        unfolding frame_checks
        is_framed l = simp (le-ltb (left s at) 4 four, a, r, le-ltb (left s (body_at at)) (length_at s at) l)

  -- ---- where none of them holds

  pub frame-passed : first (frame_checks s at allowed right) ≡ none → Framed s at allowed right
  unfolding frame_checks
  frame-passed e =
      let q = (first-none (frame_checks s at allowed right)).0 e in
      let four = ltb-false (left s at) 4 q.0 in
      let body = ltb-false (left s (body_at at)) (length_at s at) q.1.1.1.0 in
      record { allows = not-false allowed q.1.0; fits = not-false right q.1.1.0; within = omega arith }

  pub frame-passes : Framed s at allowed right → first (frame_checks s at allowed right) ≡ none
  frame-passes f = sym (is_framed (omega (arith, f.within)) (simp f.allows) (simp f.fits) (omega (arith, f.within)))

  pub frame_at : At at (frame_checks s at allowed right)
  unfolding frame_checks
  frame_at = (refl, (refl, (refl, (refl, tt))))
