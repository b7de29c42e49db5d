-- An entry is at most the mark for none, so the test is the step of `best_of`.
use Rattle.std.proofs.Common.{◌≡◌, ℕ, ◌+◌, ◌*◌, refl, sym, ◌∙◌, MatchOption, arith, rules}
use Rattle.paper.specs.Sheets.{missing}
use Rattle.lists.specs.Best.{best_of}
use Rattle.sequence.specs.Sheets.{mark}
use Rattle.sequence.proofs.Marks.{mark-unmark}
use Rattle.sheets.specs.Entries.{least_from}
use Rattle.sheets.proofs.Ends.{entry-small, entry-less, entry-keep, error-or}
use Rattle.sheets.proofs.least_entry.Invariants.{entry}
use Rattle.sheets.proofs.least_entry.Goals as goal
use Rattle.sheets.proofs.least_entry.Goals.{then-error-map_or, else-error-map_or}

pub loop-place-init : goal.loop-place-init
unfolding best_of
loop-place-init c = record { is = refl }

pub loop-place-preserved : goal.loop-place-preserved
loop-place-preserved c =
    let a = c.args in
    let k = c.loop-place.place in
    let f = entry a.errors.now a.from a.apart in
    let read : c.entry_at-error.result ≡ mark (f k) = c.entry_at-error.ensures ∙ sym (mark-unmark _) in
    let small = λ (h : ℕ). entry-small a.errors.now (λ i. omega (arith, c.type_inv.errors i)) (a.from + h * a.apart) in
    let w = c.loop-place.invariant in
    let m : MatchOption c.loop-place.least (c.map_or.result ≡ missing) (λ l. c.map_or.result ≡ l.error) = search (rules, c.map_or.ensures) in
    let least = error-or w m in
    elim c.if-error-map_or.branch [
      | then-error-map_or v ↦ rw v.least-is (entry-less f k _ small read (omega arith))
      | else-error-map_or v ↦ rw v.least-is (entry-keep f k _ small read w (omega arith))
    ]

pub returns : goal.returns
unfolding least_from
returns c = let e : c.loop-place.place ≡ c.args.many = omega arith in rw e at c.loop-place.invariant
