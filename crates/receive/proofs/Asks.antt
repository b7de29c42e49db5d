-- The checks of a file in the order in which they are asked, and where each of them decides: in the first record, in a row, in the end, in what
-- stands where a row goes, and record after record. Assumes nothing.
use mathlib.Core.Path.{◌≡◌, refl, sym, ap, ◌∙◌, subst}
use mathlib.Core.Bool.{Bool, true, false, cond}
use mathlib.Core.List.{List, [], ◌∷◌, ◌++◌}
use mathlib.Core.Option.{none, some}
use Prim.Native.Nat.{ℕ, zero, suc, ◌+◌, ◌≤◌, ◌<◌}
use native.Mathlib.Nat.{add-zero}
use native.Mathlib.Omega.{arith}
use borrow.Author.Tests.{eq-eqb, ne_eqb, eqb-true}
use lib.Dec.{eqb}
use lib.ListN.{length}
use Rattle.lists.specs.Checks.{Check, first}
use Rattle.lists.proofs.Checks.{first-none, first-passed, first-stopped, first-earlier, first-later}
use Rattle.plate.specs.Refusal.{Numbered, check}
use Rattle.plate.specs.Head.{is_over, head_checks, over_check}
use Rattle.plate.specs.declared.head.Head.{Head}
use Rattle.record.specs.Bytes.{le16}
use Rattle.record.specs.Frame.{length_at, kind_at, body_at}
use Rattle.record.specs.Faults.{disagrees, tail, frame_checks}
use Rattle.record.proofs.Frames.{frame-passed, frame-passes}
use Rattle.sent.specs.Kinds.{head_kind, row_kind, end_kind, head_length, row_length, end_length, allowed_after, fits}
use Rattle.sent.specs.Start.{row_start, twos16}
use Rattle.sent.specs.Written.{rows_of}
use Rattle.sent.specs.File.{head_in, opening_checks, row_place, row_at, some_over, row_checks, end_checks, record_checks, rows_checks}
use Rattle.sent.proofs.Rows.{place-next}

abbrev pub at : ℕ → ℕ → Numbered
at number place = record { number = number; place = place }

-- ---- the first record

module _ (s : List ℕ) where
  abbrev pub opening_frame : List (Check Numbered)
  opening_frame = frame_checks s 0 (eqb (kind_at s 0) head_kind) (eqb (length_at s 0) head_length)

  pub frame-stop : (r : Numbered) → some r ≡ first opening_frame → some r ≡ first (opening_checks s)
  unfolding opening_checks
  frame-stop r e = sym (first-stopped opening_frame (head_checks (head_in s) ++ (over_check (head_in s) ∷ [])) r (sym e))

  module _ (framed : none ≡ first opening_frame) where
    pub settings-stop : (r : Numbered) → some r ≡ first (head_checks (head_in s)) → some r ≡ first (opening_checks s)
    unfolding opening_checks
    settings-stop r e =
        sym (first-passed opening_frame (head_checks (head_in s) ++ (over_check (head_in s) ∷ [])) (sym framed) ∙ first-stopped (head_checks (head_in s)) (over_check (head_in s) ∷ []) r (sym e))

    module _ (settled : none ≡ first (head_checks (head_in s))) where
      over-decides : first (opening_checks s) ≡ first (over_check (head_in s) ∷ [])
      unfolding opening_checks
      over-decides =
          first-passed opening_frame (head_checks (head_in s) ++ (over_check (head_in s) ∷ [])) (sym framed) ∙ first-passed (head_checks (head_in s)) (over_check (head_in s) ∷ []) (sym settled)

      pub over-stop : is_over (head_in s) ≡ true → some (at 7 0) ≡ first (opening_checks s)
      over-stop e = sym (over-decides ∙ simp e)

      pub opening-passed : is_over (head_in s) ≡ false → none ≡ first (opening_checks s)
      opening-passed e = sym (over-decides ∙ simp e)

  -- where all pass, there are no more columns than a table can have
  pub opened-few : none ≡ first (opening_checks s) → is_over (head_in s) ≡ false
  unfolding opening_checks
  opened-few e =
      ((first-none (over_check (head_in s) ∷ [])).0
      (first-later (head_checks (head_in s)) (over_check (head_in s) ∷ []) (first-later opening_frame (head_checks (head_in s) ++ (over_check (head_in s) ∷ [])) (sym e)))).0

-- ---- what stands where row r goes, so many rows being left

module _ (s : List ℕ) (head : Head) (left r : ℕ) where
  abbrev place : ℕ
  place = row_place head.members r

  abbrev given : ℕ
  given = le16 s (body_at place)

  -- the end

  pub end-missing : 0 < left → some (disagrees true place).says ≡ first (end_checks s head left r)
  unfolding end_checks
  end-missing l = simp (ne_eqb left 0 (λ e. omega arith))

  module _ (none_left : left ≡ 0) where
    pub end-unequal : (given ≡ rows_of head → ⊥) → some (disagrees true place).says ≡ first (end_checks s head left r)
    unfolding end_checks
    end-unequal e = simp (eq-eqb left 0 none_left, ne_eqb given (rows_of head) e)

    pub end-tail : given ≡ rows_of head → first (tail s (body_at place + end_length) ∷ []) ≡ first (end_checks s head left r)
    unfolding end_checks
    end-tail e = simp (eq-eqb left 0 none_left, eq-eqb given (rows_of head) e)

    -- a row

    pub row-past : some (disagrees true place).says ≡ first (row_checks s head left r)
    unfolding row_checks
    row-past = simp (eq-eqb left 0 none_left)

  module _ (some_left : 0 < left) where
    pub row-elsewhere : (given ≡ twos16 (row_start head.members r) → ⊥) → some (disagrees true place).says ≡ first (row_checks s head left r)
    unfolding row_checks
    row-elsewhere e = simp (ne_eqb left 0 (λ z. omega arith), ne_eqb given (twos16 (row_start head.members r)) e)

    pub row-cells : given ≡ twos16 (row_start head.members r) → first (check 6 (some_over head (row_at s head.members r)) place ∷ []) ≡ first (row_checks s head left r)
    unfolding row_checks
    row-cells e = simp (ne_eqb left 0 (λ z. omega arith), eq-eqb given (twos16 (row_start head.members r)) e)

  -- either

  abbrev pub frame : List (Check Numbered)
  frame = frame_checks s place (allowed_after r (kind_at s place)) (fits head.members (kind_at s place) (length_at s place))

  abbrev bodies : List (Check Numbered)
  bodies = cond (eqb (kind_at s place) end_kind) (end_checks s head left r) (row_checks s head left r)

  pub record-stop : (n : Numbered) → some n ≡ first frame → some n ≡ first (record_checks s head left r)
  unfolding record_checks
  record-stop n e = sym (first-stopped frame bodies n (sym e))

  -- the frame of a row that stands whole passes
  pub row-framed : kind_at s place ≡ row_kind → length_at s place ≡ row_length head.members → row_place head.members (r + 1) ≤ length s → none ≡ first frame
  unfolding allowed_after fits
  row-framed k l w =
      let T = head.members in
      let other : kind_at s place ≡ end_kind → ⊥ = λ e. omega (arith, k) in
      let next : r + 1 ≡ suc r = omega arith in
      let end = place-next T r ∙ ap (row_place T) (sym next) in
      sym (frame-passes s place (allowed_after r (kind_at s place)) (fits T (kind_at s place) (length_at s place)) (record {
        allows = simp (ne_eqb (kind_at s place) end_kind other, eq-eqb (kind_at s place) row_kind k);
        fits = simp (ne_eqb (kind_at s place) end_kind other, eq-eqb (length_at s place) (row_length T) l);
        within = omega (arith, l, end);
      }))

  module _ (framed : none ≡ first frame) where
    pub end-decides : kind_at s place ≡ end_kind → first (end_checks s head left r) ≡ first (record_checks s head left r)
    unfolding record_checks
    end-decides e = sym (first-passed frame bodies (sym framed) ∙ ap (λ (b : Bool). first (cond b (end_checks s head left r) (row_checks s head left r))) (eq-eqb (kind_at s place) end_kind e))

    pub row-decides : (kind_at s place ≡ end_kind → ⊥) → first (row_checks s head left r) ≡ first (record_checks s head left r)
    unfolding record_checks
    row-decides e = sym (first-passed frame bodies (sym framed) ∙ ap (λ (b : Bool). first (cond b (end_checks s head left r) (row_checks s head left r))) (ne_eqb (kind_at s place) end_kind e))

    -- a row whose frame passed ends in the input
    pub row_within : (kind_at s place ≡ end_kind → ⊥) → row_place head.members (r + 1) ≤ length s
    unfolding fits
    row_within e =
        let T = head.members in
        let f = frame-passed s place (allowed_after r (kind_at s place)) (fits T (kind_at s place) (length_at s place)) (sym framed) in
        let long = eqb-true (length_at s place) (row_length T) (simp (ne_eqb (kind_at s place) end_kind e) at f.fits) in
        let next : suc r ≡ r + 1 = omega arith in
        subst (λ (n : ℕ). row_place T n ≤ length s) next (omega (arith, f.within, long, place-next T r))

-- ---- record after record

module _ (s : List ℕ) (head : Head) where
  pub rows-stop : (left r : ℕ) (n : Numbered) → some n ≡ first (record_checks s head left r) → some n ≡ first (rows_checks s head left r)
  unfolding rows_checks
  rows-stop zero r n e = e
  rows-stop (suc left) r n e = sym (first-stopped (record_checks s head (suc left) r) (rows_checks s head left (suc r)) n (sym e))

  pub rows_next : (left r : ℕ) → none ≡ first (record_checks s head (suc left) r) → first (rows_checks s head (suc left) r) ≡ first (rows_checks s head left (suc r))
  unfolding rows_checks
  rows_next left r e = first-passed (record_checks s head (suc left) r) (rows_checks s head left (suc r)) (sym e)

  pub rows_last : (r : ℕ) → first (record_checks s head 0 r) ≡ first (rows_checks s head 0 r)
  unfolding rows_checks
  rows_last r = refl

  -- where all pass, the last row ends in the input
  pub rows-within : (left r : ℕ) → none ≡ first (rows_checks s head left r) → row_place head.members (r + left) ≤ length s
  unfolding rows_checks record_checks
  rows-within zero r e =
      let f = frame-passed s (place s head 0 r) (allowed_after r (kind_at s (place s head 0 r))) (fits head.members (kind_at s (place s head 0 r)) (length_at s (place s head 0 r))) (first-earlier (frame s head 0 r) (bodies s head 0 r) (sym e)) in
      subst (λ (n : ℕ). row_place head.members n ≤ length s) (sym (add-zero r)) (omega (arith, f.within))
  rows-within (suc left) r e =
      let next : suc r + left ≡ r + suc left = omega arith in
      subst (λ (n : ℕ). row_place head.members n ≤ length s) next (rows-within left (suc r) (sym (first-later (record_checks s head (suc left) r) (rows_checks s head left (suc r)) (sym e))))
