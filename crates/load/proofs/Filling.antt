-- Columns of a job that was looked through, added to a table that was cleared. At every place that is reached the table is that of the columns
-- on the way there, and the state's head goes with it; the next column was in order when it was read, so that adding it is never refused.
-- Assumes nothing.
use mathlib.Core.Path.{◌≡◌, refl, sym, ap, ap₂, subst, ◌∙◌}
use mathlib.Core.Bool.{true}
use mathlib.Core.List.{List, [], ◌∷◌, ◌++◌, append-nil}
use mathlib.Core.Option.{none}
use Prim.Native.Nat.{ℕ, ◌%◌, ◌≤◌}
use native.Mathlib.Omega.{arith}
use borrow.Author.Tests.{ltb-false}
use lib.Dec.{ltb, eqb}
use lib.ListN.{length}
use Rattle.lists.specs.Checks.{first}
use Rattle.lists.proofs.Checks.{first-none, or-false}
use Rattle.paper.specs.Limits.{most_boundaries}
use Rattle.paper.specs.Layer.{Column, column_of}
use Rattle.paper.specs.Table.{cells}
use Rattle.plate.specs.Refusal.{Told, done, refused, refusal}
use Rattle.plate.specs.Head.{Held, held_in, head_of}
use Rattle.plate.specs.declared.refusal.Refusal.{Refusal}
use Rattle.plate.proofs.Heads.{not_full}
use Rattle.column.specs.Order.{column_checks}
use Rattle.table.specs.Plates.{table_of, plate_held}
use Rattle.table.proofs.Plates.{length-table}
use Rattle.adding.specs.Adding.{adding, added}
use Rattle.adding.proofs.Plates.{added_is, adds}
use Rattle.record.specs.Bytes.{words}
use Rattle.record.proofs.Bytes.{length-words}
use Rattle.plate.specs.Settings.{settings_checks}
use Rattle.job.specs.State.{start_state}
use Rattle.job.specs.Record.{What, settings, column, ended, remark, Moved, read_record}
use Rattle.job.specs.File.{Finished, column_in}
use Rattle.job.specs.Reached.{Reached, start, further, columns_to}
use Rattle.job.specs.declared.Asked.{Asked}
use Rattle.job.specs.declared.State.{State}
use Rattle.job.proofs.Says.{SaysBy, read-says}
use Rattle.job.proofs.Ordering.{counts, under, asks-for}
use Rattle.load.specs.Load.{too_large, front_of}
use Rattle.load.specs.Heeding.{Heeded, CanAdd, added_all, Cleared, filled_by}
use Rattle.std.specs.Prelude.{Ok, Err}
use Rattle.load.specs.declared.Heed.TheVariants as heed
use Rattle.load.proofs.Heeding.{means, ends, refuses}

few-boundaries : (N : ℕ) (s : List ℕ) (from count : ℕ) → first (column_checks N (words s from count)) ≡ none → count ≤ most_boundaries
unfolding column_checks
few-boundaries N s from count e =
    let q = (first-none (column_checks N (words s from count))).0 e in
    let n = length (words s from count) in
    let l = ltb-false most_boundaries n (or-false (eqb (n % 2) 1) (ltb most_boundaries n) q.0).1 in
    omega (arith, length-words s from count)

-- the table of these columns of a job
abbrev pub table_by : Told Finished → List Column → List ℕ → List ℕ
table_by (done f) columns old = table_of f.job.asked.height f.job.asked.members columns old
table_by (refused number place) columns old = old

module _ (most : ℕ) (s old : List ℕ) where
  -- what is known at a place: it is reached, and the table is that of the columns on the way there
  pub record Filling (st : State) (at : ℕ) (table : List ℕ) : Type 0 where
    pub reached : Reached (too_large most) s st at
    pub table_is : table ≡ table_by (front_of most s) (columns_to reached) old

  -- the table stays as long as it was
  long-by : (t : Told Finished) (columns : List Column) → length (table_by t columns old) ≡ length old
  long-by (done f) columns = length-table f.job.asked.height f.job.asked.members columns old
  long-by (refused number place) columns = refl

  -- nothing was added yet
  clear-by : (t : Told Finished) → Cleared t old → old ≡ table_by t [] old
  clear-by (done f) c = c.1
  clear-by (refused number place) c = absurd c

  module _ (cleared : Cleared (front_of most s) old) where
    pub none-added : Filling start_state 0 old
    none-added = record { reached = start; table_is = clear-by (front_of most s) cleared }

    -- a job that was looked through is not refused
    job-by : (t : Told Finished) → Cleared t old → (f : Finished) × (t ≡ done f) × (cells f.job.asked.height f.job.asked.members ≤ length old)
    job-by (done f) c = (f, refl, c.0)
    job-by (refused number place) c = absurd c

    abbrev job : Finished
    job = (job-by (front_of most s) cleared).0

    abbrev is : front_of most s ≡ done job
    is = (job-by (front_of most s) cleared).1

    abbrev N : ℕ
    N = job.job.asked.height

    abbrev T : ℕ
    T = job.job.asked.members

    pub unrefused : (r : Refusal) → front_of most s ≡ refusal r → ⊥
    unrefused r e = let q = sym is ∙ e in let z : ◌≡◌ {A = ℕ} 0 1 = cc in omega arith

    module _ {st : State} {at : ℕ} {table : List ℕ} (f : Filling st at table) where
      abbrev columns : List Column
      columns = columns_to f.reached

      -- once settings were read, the table and the state's head are those of the columns so far
      held-is : st.begun ≡ true → plate_held N T columns old ≡ held_in st.head table
      held-is b =
          ap₂ held_in
          (ap (λ (a : Asked). head_of a.height a.members columns) (asks-for (too_large most) s f.reached b job is) ∙ (under (too_large most) s f.reached).goes)
          (sym (f.table_is ∙ ap (λ (t : Told Finished). table_by t columns old) is))

      addable-by : (m : Moved) (t : Told What) → SaysBy s st at m t → CanAdd s st.head table t
      addable-by m (done (settings a)) q = tt
      addable-by m (done (column from count)) q =
          let bs = words s from count in
          let a = asks-for (too_large most) s f.reached q.begun job is in
          let u = under (too_large most) s f.reached in
          let order = subst (λ (x : Asked). first (column_checks x.height bs) ≡ none) (sym a) q.order in
          let fine = subst (λ (x : Asked). first (settings_checks x.height x.members) ≡ none) (sym a) (u.settled q.begun).fine in
          let few = not_full st.head q.room in (
            few-boundaries st.head.height s from count q.order,
            subst (λ (h : Held). first (adding h (column_of bs)).checks ≡ none) (held-is q.begun)
                (adds N T columns (column_of bs) old (job-by (front_of most s) cleared).2 fine order (omega (arith, counts (too_large most) s u))),
          )
      addable-by m (done (ended c)) q = tt
      addable-by m (done remark) q = tt
      addable-by m (refused number place) q = tt

      added-by : (m : Moved) (t : Told What) → SaysBy s st at m t → added_all st.head (column_in s t) table ≡ table_by (front_of most s) (columns ++ column_in s t) old
      added-by m (done (settings a)) q = f.table_is ∙ ap (λ (x : List Column). table_by (front_of most s) x old) (sym (append-nil columns))
      added-by m (done (column from count)) q =
          ap (λ (h : Held). added h (column_of (words s from count))) (sym (held-is q.begun))
          ∙ added_is N T columns (column_of (words s from count)) old
          ∙ ap (λ (t : Told Finished). table_by t (columns ++ (column_of (words s from count) ∷ [])) old) (sym is)
      added-by m (done (ended c)) q = f.table_is ∙ ap (λ (x : List Column). table_by (front_of most s) x old) (sym (append-nil columns))
      added-by m (done remark) q = f.table_is ∙ ap (λ (x : List Column). table_by (front_of most s) x old) (sym (append-nil columns))
      added-by m (refused number place) q = f.table_is ∙ ap (λ (x : List Column). table_by (front_of most s) x old) (sym (append-nil columns))

      module _ (m : Moved) (e : m ≡ read_record s st at) where
        pub addable : CanAdd s st.head table m.told
        addable = addable-by m m.told (subst (λ (x : Moved). SaysBy s st at x x.told) (sym e) (read-says s st at).by)

        pub filled : Heeded (Ok heed.Onward) most at m.told → (new : List ℕ) → new ≡ added_all st.head (column_in s m.told) table → Filling m.state m.next new
        filled k new g =
            subst (λ (x : Moved). Filling x.state x.next new) (sym e)
            (record {
              reached = further f.reached (means most s f.reached m e (Ok heed.Onward) k);
              table_is =
                  g
                  ∙ ap (λ (x : Moved). added_all st.head (column_in s x.told) table) e
                  ∙ added-by (read_record s st at) (read_record s st at).told (read-says s st at).by;
            })

        pub all-filled : Heeded (Ok heed.Ended) most at m.told → table ≡ filled_by old (front_of most s)
        all-filled k =
            let g = ends most s f.reached m e k in
            f.table_is ∙ ap (λ (t : Told Finished). table_by t columns old) g ∙ ap (filled_by old) (sym g)

        -- the job is in order, so that no record of it is refused
        pub never : (r : Refusal) → Heeded (Err r) most at m.told → ⊥
        never r k = unrefused r (refuses most s f.reached m e r k)
