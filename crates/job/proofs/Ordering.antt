-- What a file that is not refused holds: settings in order, columns in order, and no more than a table can have. On the way the state has the
-- settings once they were read, each column passed its checks by them, and what goes with their table is the state's head; and the settings stay to the end.
-- Assumes nothing.
use mathlib.Core.Path.{◌≡◌, refl, sym, ap, subst, ◌∙◌}
use mathlib.Core.Bool.{true, false}
use mathlib.Core.List.{List, [], ◌∷◌, ◌++◌, append-nil}
use mathlib.Core.Option.{none}
use Prim.Native.Nat.{ℕ, zero, suc, ◌+◌, ◌≤◌, ◌<◌}
use native.Mathlib.Omega.{arith}
use lib.ListN.{length}
use Rattle.lists.specs.Checks.{first}
use Rattle.paper.specs.Limits.{sets, largest_bound, most_columns}
use Rattle.paper.specs.Layer.{Column, column_of}
use Rattle.plate.specs.Refusal.{Told, done, refused}
use Rattle.plate.specs.Settings.{settings_checks}
use Rattle.plate.specs.Head.{head_of, settled_head, more}
use Rattle.plate.specs.declared.head.Head.{Head}
use Rattle.plate.proofs.Heads.{head-last, not_full}
use Rattle.column.specs.Order.{column_checks}
use Rattle.record.specs.Bytes.{Bytes, words}
use Rattle.record.specs.Frame.{body_at}
use Rattle.record.proofs.Bytes.{quad-small}
use Rattle.job.specs.State.{begin, counted, asked_of}
use Rattle.job.specs.Record.{asked_at, What, settings, column, ended, remark, Moved, read_record}
use Rattle.job.specs.Fold.{fold_from}
use Rattle.job.specs.File.{Finished, Asking, behind, column_in, job_by, job_over, endless, job_from}
use Rattle.job.specs.Reached.{Passes, Ends, Reached, start, further, columns_to, ColumnsInOrder, Ordered}
use Rattle.job.specs.declared.Asked.{Asked}
use Rattle.job.specs.declared.State.{State}
use Rattle.job.proofs.Says.{SaysBy, read-says}
use Rattle.job.proofs.Folding.{job_ending, left}
use Rattle.job.proofs.Deciding.{end-decides}

one_more : (N : ℕ) (columns : List Column) (bs : List ℕ) → ColumnsInOrder N columns → first (column_checks N bs) ≡ none → ColumnsInOrder N (columns ++ (column_of bs ∷ []))
one_more N [] bs o e = (e, tt)
one_more N (c ∷ columns) bs o e = (o.0, one_more N columns bs o.1 e)

-- states with one head and bound ask for the same
pub same_asked : (st st' : State) → st.head ≡ st'.head → st.bound ≡ st'.bound → asked_of st ≡ asked_of st'
same_asked st st' h b = λ i. record { height = (h i).height; members = (h i).members; bound = b i }

module _ (asking : Asking) (s : List ℕ) where
  -- ---- on the way

  -- settings that were not refused
  pub record Asks (a : Asked) : Type 0 where
    pub fine : first (settings_checks a.height a.members) ≡ none
    pub place : ℕ
    pub unasked : first (asking place a) ≡ none
    pub read-there : a ≡ asked_at s place

  -- what is known of the state, and of the columns so far
  pub record Under (st : State) (columns : List Column) : Type 0 where
    pub settled : st.begun ≡ true → Asks (asked_of st)
    pub bare : st.begun ≡ false → columns ≡ []
    pub unended : st.ended ≡ false
    pub goes : head_of st.head.height st.head.members columns ≡ st.head
    pub few : st.head.columns ≤ most_columns
    pub order : ColumnsInOrder st.head.height columns

  pub counts : {st : State} {columns : List Column} → Under st columns → st.head.columns ≡ length columns
  counts u = sym (ap (λ (h : Head). h.columns) u.goes)

  step : (st : State) (columns : List Column) (at : ℕ) (m : Moved) (t : Told What) → Passes asking at t → SaysBy s st at m t → Under st columns
      → Under m.state (columns ++ column_in s t)
  step st columns at m (done (settings a)) p q u =
      let asks : Asks a = record {
        fine = q.fine;
        place = at;
        unasked = p;
        read-there = q.asked;
      } in
      let none_yet : columns ≡ [] = u.bare q.first-of-all in
      let new : Under (begin st a) columns = record {
        settled = λ _. asks;
        bare = λ e. none_yet;
        unended = u.unended;
        goes = ap (settled_head a.height a.members) u.goes;
        few = u.few;
        order = subst (ColumnsInOrder a.height) (sym none_yet) tt;
      } in
      subst (Under m.state) (sym (append-nil columns)) (subst (λ (x : State). Under x columns) (sym q.state) new)
  step st columns at m (done (column from count)) p q u =
      let room = not_full st.head q.room in
      let new : Under (counted st) (columns ++ (column_of (words s from count) ∷ [])) = record {
        settled = u.settled;
        bare = λ e. absurd (let b = q.begun in let z : ◌≡◌ {A = ℕ} 0 1 = cc in omega arith);
        unended = u.unended;
        goes = sym (head-last st.head.height st.head.members columns (column_of (words s from count))) ∙ ap more u.goes;
        few = omega arith;
        order = one_more st.head.height columns (words s from count) u.order q.order;
      } in
      subst (λ (x : State). Under x (columns ++ (column_of (words s from count) ∷ []))) (sym q.state) new
  step st columns at m (done (ended n)) p q u = absurd p
  step st columns at m (done remark) p q u = subst (Under m.state) (sym (append-nil columns)) (subst (λ (x : State). Under x columns) (sym q.state) u)
  step st columns at m (refused number place) p q u = absurd p

  pub under : {st : State} {at : ℕ} (r : Reached asking s st at) → Under st (columns_to r)
  under start = record {
    settled = λ b. absurd (let z : ◌≡◌ {A = ℕ} 0 1 = cc in omega arith);
    bare = λ _. refl;
    unended = refl;
    goes = refl;
    few = omega arith;
    order = tt;
  }
  under (further {st} {at} r p) = step st (columns_to r) at (read_record s st at) (read_record s st at).told p (read-says s st at).by (under r)

  -- ---- at the end

  pub ordered : Bytes s → (f : Finished) → job_from asking s ≡ done f → Ordered asking f.job
  ordered byte f e = go ((end-decides asking s f).0 e)
    where
      go : ((st : State) × (at : ℕ) × (r : Reached asking s st at) × Ends (read_record s st at).told
          × (job_ending (asked_of (read_record s st at).state) (columns_to r) (read_record s st at).next ≡ f)) → Ordered asking f.job
      go (st, at, r, e, is) =
          let u = under r in
          let q = subst (SaysBy s st at (read_record s st at)) e.1 (read-says s st at).by in
          let a = u.settled (q.begun u.unended) in
          subst (λ (g : Finished). Ordered asking g.job) is
          (subst (λ (x : Asked). Ordered asking (record { asked = x; columns = columns_to r })) (sym (same_asked (read_record s st at).state st q.head q.bound))
          (record {
            fine = a.fine;
            place = a.place;
            unasked = a.unasked;
            bits = subst (λ (x : Asked). x.members < sets) (sym a.read-there) (quad-small s byte (body_at a.place + 2));
            low-bound = subst (λ (x : Asked). x.bound ≤ largest_bound) (sym a.read-there) (omega (arith, quad-small s byte (body_at a.place + 6)));
            order = u.order;
            few = omega (arith, u.few, counts u);
          }))

  -- ---- the settings stay

  pub behind-done : (columns : List Column) (t : Told Finished) (f : Finished) → behind columns t ≡ done f → (g : Finished) × (t ≡ done g) × (g.job.asked ≡ f.job.asked)
  behind-done columns (done g) f e =
      let is : job_ending g.job.asked (columns ++ g.job.columns) g.past ≡ f = cc in
      (g, refl, ap (λ (x : Finished). x.job.asked) is)
  behind-done columns (refused number place) f e = absurd (let z : ◌≡◌ {A = ℕ} 0 1 = cc in omega arith)

  -- of one record, where they stay in what is read after it
  module _ (st : State) (at : ℕ) (begun : st.begun ≡ true) (m : Moved) (rest : State → ℕ → Told Finished)
      (later : (st' : State) (at' : ℕ) → st'.begun ≡ true → (f : Finished) → rest st' at' ≡ done f → f.job.asked ≡ asked_of st') where
    stays : (t : Told What) → SaysBy s st at m t → (f : Finished) → job_by asking t s at m rest ≡ done f → f.job.asked ≡ asked_of st
    stays (done (settings a)) q f e = absurd (let b = q.first-of-all in let z : ◌≡◌ {A = ℕ} 0 1 = cc in omega arith)
    stays (done (column from count)) q f e =
        let b = behind-done (column_of (words s from count) ∷ []) (rest m.state m.next) f e in
        sym b.2 ∙ later m.state m.next (ap (λ (x : State). x.begun) q.state ∙ begun) b.0 b.1 ∙ ap asked_of q.state
    stays (done (ended columns)) q f e = let g : job_ending (asked_of m.state) [] m.next ≡ f = cc in sym (ap (λ (x : Finished). x.job.asked) g) ∙ same_asked m.state st q.head q.bound
    stays (done remark) q f e = later m.state m.next (ap (λ (x : State). x.begun) q.state ∙ begun) f e ∙ ap asked_of q.state
    stays (refused number place) q f e = absurd (let z : ◌≡◌ {A = ℕ} 0 1 = cc in omega arith)

  pub stay : (n : ℕ) (st : State) (at : ℕ) → st.begun ≡ true → (f : Finished) → fold_from (job_over asking) endless n s st at ≡ done f → f.job.asked ≡ asked_of st
  unfolding fold_from
  stay zero st at b f e = absurd (let z : ◌≡◌ {A = ℕ} 0 1 = cc in omega arith)
  stay (suc n) st at b f e =
      stays st at b (read_record s st at) (fold_from (job_over asking) endless n s) (stay n) (read_record s st at).told (read-says s st at).by f e

  -- what was read as settings is what the job asks for
  pub asks-for : {st : State} {at : ℕ} → Reached asking s st at → st.begun ≡ true → (f : Finished) → job_from asking s ≡ done f → f.job.asked ≡ asked_of st
  asks-for {st} {at} r b f e =
      let l = left asking s r in
      let g = behind-done (columns_to r) (fold_from (job_over asking) endless l.n s st at) f (sym l.same ∙ e) in
      sym g.2 ∙ stay l.n st at b g.0 g.1
