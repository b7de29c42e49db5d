-- Two tables in bounds, of the same settings, pass the refusals of joining where the limit lets them, and of taking off where the second is
-- a part of the first. Assumes nothing.
use Rattle.std.proofs.Common.{◌≡◌, ℕ, ◌+◌, ◌-◌, ◌<◌, ◌≤◌, Bool, false, [], ◌∷◌, get_or, ◌∙◌, arith, le-ltb, eq-eqb}
use mathlib.Core.Option.{none}
use Rattle.lists.specs.Checks.{first}
use Rattle.lists.proofs.Checks.{first-passed}
use Rattle.paper.specs.Limits.{most_columns}
use Rattle.paper.specs.Table.{thickness_at}
use Rattle.plate.specs.Head.{Held, less, either_over, any_over, cells_of, limit_of, head_checks}
use Rattle.plate.proofs.Heads.{few-not-over, few-not-over-both, more-not-less}
use Rattle.table.specs.Table.{short, Bounded}
use Rattle.table.proofs.Passed.{cells-fine}
use Rattle.joining.specs.Joining.{differ, pair_checks, out_checks, rest_checks, both_checks, joining, part_checks, taking}
use Rattle.joining.proofs.Parts.{part-fine}

module _ (held other : Held)
    (fine : first (head_checks held.head) ≡ none) (other-fine : first (head_checks other.head) ≡ none)
    (height : held.head.height ≡ other.head.height) (members : held.head.members ≡ other.head.members)
    (bounds : Bounded held) (other-bounds : Bounded other) where
  pair-fine : first (pair_checks held.head other.head) ≡ none
  unfolding pair_checks differ
  pair-fine =
      first-passed (head_checks held.head) _ fine
      ∙ first-passed (head_checks other.head) (differ held.head other.head ∷ []) other-fine
      ∙ simp (eq-eqb held.head.height other.head.height height, eq-eqb held.head.members other.head.members members)

  rest-fine : (beyond : Bool) → beyond ≡ false → first (rest_checks beyond held other) ≡ none
  unfolding rest_checks short out_checks
  rest-fine beyond e = simp (le-ltb _ _ bounds.size, le-ltb _ _ other-bounds.size, e, cells-fine held bounds, cells-fine other other-bounds)

  both-fine : (beyond : Bool) → beyond ≡ false → first (both_checks beyond held other) ≡ none
  unfolding both_checks
  both-fine beyond e = first-passed (pair_checks held.head other.head) (rest_checks beyond held other) pair-fine ∙ rest-fine beyond e

  neither : either_over held.head other.head ≡ false
  neither = rw (few-not-over held.head bounds.columns) (few-not-over other.head other-bounds.columns)

  pub join-fine : held.head.columns + other.head.columns ≤ most_columns → first (joining held other).checks ≡ none
  unfolding joining
  join-fine few = both-fine (any_over held.head other.head) (rw neither (few-not-over-both held.head other.head few))

  module _ (fewer : other.head.columns ≤ held.head.columns)
      (lower : (i : ℕ) → i < cells_of held.head → get_or other.buffer i 0 ≤ get_or held.buffer i 0)
      (within : (i : ℕ) → i < cells_of held.head
      → get_or held.buffer i 0 - get_or other.buffer i 0 ≤ limit_of (less held.head other.head) (thickness_at held.head.members i)) where
    parts-fine : first (part_checks held other) ≡ none
    unfolding part_checks
    parts-fine =
        simp (more-not-less held.head other.head fewer, part-fine held other lower within, le-ltb (cells_of held.head) (cells_of held.head) (omega arith))

    pub take-fine : first (taking held other).checks ≡ none
    unfolding taking
    take-fine = first-passed (both_checks (either_over held.head other.head) held other) (part_checks held other) (both-fine _ neither) ∙ parts-fine
