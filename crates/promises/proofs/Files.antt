-- Job files. The first record that is at fault, or the end, decides what a file is (crate `job`, Deciding); for a whole file bytes that stand
-- after the end decide too. A file that is not refused has settings and columns in order, so they are document 01's; and in a buffer with room
-- nothing is refused, and the table is that of the columns. Assumes nothing.
use mathlib.Core.Path.{◌≡◌, refl, sym, ap, subst, ◌∙◌}
use mathlib.Core.Logic.{inl, inr, ◌↔◌}
use mathlib.Core.List.{List, [], ◌∷◌}
use mathlib.Core.Option.{Option, none}
use Prim.Native.Nat.{ℕ, ◌≤◌}
use native.Mathlib.Omega.{arith}
use borrow.Author.Tests.{le-ltb, ltb-false}
use lib.ListN.{length, get_or}
use Rattle.lists.specs.Checks.{first}
use Rattle.lists.proofs.Checks.{first-none}
use Rattle.paper.specs.Layer.{Column, of_columns}
use Rattle.paper.specs.Table.{cells, Table}
use Rattle.plate.specs.Refusal.{Told, done, refused, Numbered, told_by}
use Rattle.plate.proofs.Decided.{refused-first}
use Rattle.plate.proofs.Calls.{passes}
use Rattle.column.proofs.Fine.{settings-passed, column-passed}
use Rattle.table.specs.Table.{short}
use Rattle.table.specs.Plates.{table_of}
use Rattle.table.proofs.Plates.{length-table, table-past, table_is}
use Rattle.record.specs.Bytes.{Bytes}
use Rattle.record.specs.Faults.{tail}
use Rattle.record.proofs.Places.{at_place}
use Rattle.job.specs.State.{asked_of}
use Rattle.job.specs.Record.{What, settings, column, ended, remark, Moved, read_record}
use Rattle.job.specs.File.{Job, Finished, job_from}
use Rattle.job.specs.Reached.{Stops, Ends, Reached, columns_to, ColumnsInOrder}
use Rattle.job.specs.declared.State.{State}
use Rattle.job.proofs.Says.{SaysBy, read-says}
use Rattle.job.proofs.Folding.{job_ending}
use Rattle.job.proofs.Deciding.{fault-decides, end-decides as job-decides}
use Rattle.job.proofs.Ordering.{under, same_asked}
use Rattle.job.proofs.Ordering as ordering
use Rattle.job.proofs.Whole.{whole_by_lem, Front, front_of_lem}
use Rattle.load.specs.Load.{too_large, job_of, loading_job, loading, load_answer, load_table}
use Rattle.load.proofs.Whole.{fitting}
use Rattle.promises.specs.Runs.{Columns}
use Rattle.promises.specs.Files.{StopsFile, fault_place, Closes, FileRead}
use Rattle.promises.proofs.Places.{record-place}

-- ---- what is known of the end of a file

module _ (most : ℕ) (s : List ℕ) {st : State} {at : ℕ} (r : Reached (too_large most) s st at) (e : Ends (read_record s st at).told) where
  abbrev m : Moved
  m = read_record s st at

  ended-says : SaysBy s st at m (done (ended e.0))
  ended-says = subst (SaysBy s st at m) e.1 (read-says s st at).by

  -- its count is that of the columns on the way there
  counts : e.0 ≡ length (columns_to r)
  counts = ended-says.counts ∙ ordering.counts (too_large most) s (under (too_large most) s r)

  asked-there : asked_of m.state ≡ asked_of st
  asked-there = same_asked m.state st ended-says.head ended-says.bound

  -- nothing stands after it
  last : first (tail s m.next ∷ []) ≡ none → m.next ≡ length s
  last q =
      let l = ltb-false m.next (length s) ((first-none (tail s m.next ∷ [])).0 q).0 in
      let a = ended-says.ahead (under (too_large most) s r).unended in
      omega (arith, a.within)

module _ (most : ℕ) (s : List ℕ) where
  -- ---- 'the first record at fault decides'

  pub first-decides : (number place : ℕ)
      → (job_of most s ≡ refused number place) ↔ ((st : State) × (at : ℕ) × Reached (too_large most) s st at × StopsFile most s st at number place)
  first-decides number place = (λ e. to (job_from (too_large most) s) refl e, λ x. from x.0 x.1 x.2 x.3)
    where
      to : (front : Told Finished) → job_from (too_large most) s ≡ front → job_of most s ≡ refused number place
          → (st : State) × (at : ℕ) × Reached (too_large most) s st at × StopsFile most s st at number place
      to (refused n p) f e =
          let g = sym (whole_by_lem (too_large most) s (refused n p) f) ∙ e in
          let a : n ≡ number = cc in
          let b : p ≡ place = cc in
          let x = (fault-decides (too_large most) s number place).0 (f ∙ (λ i. refused (a i) (b i))) in
          (x.0, x.1, x.2, inl x.3)
      to (done j) f e =
          let x = (job-decides (too_large most) s j).0 f in
          let g = refused-first (tail s j.past ∷ []) j.job number place (sym (whole_by_lem (too_large most) s (done j) f) ∙ e) in
          (x.0, x.1, x.2, inr (x.3, ap (λ (y : Finished). first (tail s y.past ∷ [])) x.4 ∙ g))

      from : (st : State) (at : ℕ) → Reached (too_large most) s st at → StopsFile most s st at number place → job_of most s ≡ refused number place
      from st at r (inl p) = whole_by_lem (too_large most) s (refused number place) ((fault-decides (too_large most) s number place).1 (st, at, r, p))
      from st at r (inr (e, t)) =
          let j = job_ending (asked_of (read_record s st at).state) (columns_to r) (read_record s st at).next in
          whole_by_lem (too_large most) s (done j) ((job-decides (too_large most) s j).1 (st, at, r, e, refl)) ∙ ap (λ (o : Option Numbered). told_by o j.job) t

  -- and where none is at fault, the end was read: its count is the number of columns, and they are those on the way there
  pub end-decides : (job : Job)
      → (job_of most s ≡ done job) ↔ ((st : State) × (at : ℕ) × (r : Reached (too_large most) s st at) × Closes s st at job × (job.columns ≡ columns_to r))
  end-decides job = (λ e. to e (front_of_lem (too_large most) s job e), λ x. from x.0 x.1 x.2 x.3 x.4)
    where
      to : job_of most s ≡ done job → Front (too_large most) s job
          → (st : State) × (at : ℕ) × (r : Reached (too_large most) s st at) × Closes s st at job × (job.columns ≡ columns_to r)
      to e f =
          let x = (job-decides (too_large most) s f.found).0 f.is in
          let r = x.2 in
          let t = ap (λ (y : Finished). first (tail s y.past ∷ [])) x.4 ∙ f.nothing-past in
          let is = ap (λ (y : Finished). y.job) x.4 ∙ f.job_is in
          let columns : columns_to r ≡ job.columns = ap (λ (y : Job). y.columns) is in (
            x.0,
            x.1,
            r,
            record {
              told = x.3.1 ∙ ap (λ (n : ℕ). done (ended n)) (counts most s r x.3 ∙ ap (λ (l : List Column). length l) columns);
              last = last most s r x.3 t;
              asked = sym (asked-there most s r x.3) ∙ ap (λ (y : Job). y.asked) is;
            },
            sym columns,
          )

      from : (st : State) (at : ℕ) (r : Reached (too_large most) s st at) → Closes s st at job → job.columns ≡ columns_to r → job_of most s ≡ done job
      from st at r p is =
          let e : Ends (read_record s st at).told = (length job.columns, p.told) in
          let j = job_ending (asked_of (read_record s st at).state) (columns_to r) (read_record s st at).next in
          let a = asked-there most s r e ∙ p.asked in
          let t : first (tail s (read_record s st at).next ∷ []) ≡ none = simp (le-ltb (read_record s st at).next (length s) (omega (arith, p.last))) in
          whole_by_lem (too_large most) s (done j) ((job-decides (too_large most) s j).1 (st, at, r, e, refl))
          ∙ ap (λ (o : Option Numbered). told_by o j.job) t
          ∙ (λ i. done (record { asked = a i; columns = sym is i }))

  -- 'each place is the record's first byte; for bytes after the end record, the first of them'
  pub fault-place : (st : State) (at number place : ℕ) → StopsFile most s st at number place → place ≡ fault_place at (read_record s st at) (read_record s st at).told
  unfolding too_large
  fault-place st at number place = by-stop
    where
      r : Numbered
      r = record { number = number; place = place }

      at-fault : (t : Told What) → (read_record s st at).told ≡ t → Stops (too_large most) at t number place → place ≡ fault_place at (read_record s st at) t
      at-fault (done (settings a)) e p = at_place at (too_large most at a) r (refl, tt) p
      at-fault (done (column from count)) e p = absurd p
      at-fault (done (ended columns)) e p = absurd p
      at-fault (done remark) e p = absurd p
      at-fault (refused n q) e p = sym p.1 ∙ record-place s st at n q e

      by-stop : StopsFile most s st at number place → place ≡ fault_place at (read_record s st at) (read_record s st at).told
      by-stop (inl p) = at-fault (read_record s st at).told refl p
      by-stop (inr (e, t)) =
          at_place (read_record s st at).next (tail s (read_record s st at).next ∷ []) r (refl, tt) t ∙ sym (ap (fault_place at (read_record s st at)) e.1)

-- ---- a file read into a lent table

pub columns-passed : (N : ℕ) (columns : List Column) → ColumnsInOrder N columns → Columns N columns
columns-passed N [] o = tt
columns-passed N (c ∷ columns) o = (column-passed N c.boundaries o.0, columns-passed N columns o.1)

module _ (job : Job) (lent : List ℕ) (room : cells job.asked.height job.asked.members ≤ length lent) where
  load-passes : first (loading_job lent job).checks ≡ none
  unfolding short
  load-passes = simp (le-ltb (length lent) (cells job.asked.height job.asked.members) room)

  -- a file of bytes that is not refused, and a buffer with room
  pub file-tabulated : (most : ℕ) (s : List ℕ) → Bytes s → job_of most s ≡ done job → FileRead most s job lent
  unfolding loading
  file-tabulated most s byte e =
      let N = job.asked.height in
      let T = job.asked.members in
      let o = (fitting most s byte job e).ordered in
      let p = passes (loading_job lent job) load-passes in
      let w : load_table lent (job_of most s) ≡ table_of N T job.columns lent = ap (load_table lent) e ∙ p.1 in
      record {
        settings = settings-passed N T o.bits o.fine;
        columns = columns-passed N job.columns o.order;
        few = o.few;
        answer = ap (load_answer lent) e ∙ p.0;
        table = subst (Table (of_columns N T job.columns)) (sym w) (table_is N T job.columns lent room);
        past = λ i l. ap (λ (x : List ℕ). get_or x i 0) w ∙ table-past N T job.columns lent i l;
        long = ap (λ (x : List ℕ). length x) w ∙ length-table N T job.columns lent;
      }
