-- `add_read` meets its contract: a column that can be added is added, and anything else that was read adds nothing. Assumes nothing.
use mathlib.Core.Path.{◌≡◌, sym, ap, subst, ◌∙◌}
use mathlib.Core.List.{List}
use Prim.Native.Nat.{ℕ}
use Rattle.paper.specs.Layer.{column_of}
use Rattle.plate.specs.Refusal.{Told}
use Rattle.plate.specs.Call.{Does}
use Rattle.plate.specs.Head.{held_in}
use Rattle.plate.specs.declared.head.Head.{Head}
use Rattle.plate.proofs.Calls.{passes}
use Rattle.adding.specs.Adding.{adding}
use Rattle.record.specs.Bytes.{words}
use Rattle.job.specs.Record.{told_read}
use Rattle.job.specs.File.{column_in}
use Rattle.job.specs.declared.Read.{Read}
use Rattle.job.specs.declared.Read.TheVariants as read
use Rattle.load.specs.Heeding.{CanAdd, added_all}
use Rattle.load.proofs.add_read.Goals as goal

module _ (s : List ℕ) (head : Head) (r : Read) (old : List ℕ) (start count : ℕ) (e : r ≡ read.Column start count) (p : CanAdd s head old (told_read r)) where
  can : CanAdd s head old (told_read (read.Column start count))
  can = subst (λ (x : Read). CanAdd s head old (told_read x)) e p

  -- it was added, since none of the refusals was given
  one-added : (answer : Told Head) (new : List ℕ) → Does (adding (held_in head old) (column_of (words s start count))) answer new → new ≡ added_all head (column_in s (told_read r)) old
  unfolding adding
  one-added answer new d =
      d.leaves ∙ (passes (adding (held_in head old) (column_of (words s start count))) can.1).1 ∙ ap (λ (x : Read). added_all head (column_in s (told_read x)) old) (sym e)

pub returns-in-Column : goal.returns-in-Column
returns-in-Column c = one-added _ _ _ _ _ _ c.in-Column.is c.requires _ _ c.add_at.ensures
