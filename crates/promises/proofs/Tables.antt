-- Demand 2's cells: what each call on tables leaves is the table of the columns, and no call refuses within the limit. A share is at most
-- half of its layer, so that a plate's table is in bounds for its number of columns and 6 is never given; the cell of a plate with a
-- column more is the sum, of a plate joined from two the sum, and of the rest the difference. Assumes nothing.
use mathlib.Core.Path.{◌≡◌, refl, sym, ap, ap₂, ◌∙◌, subst}
use mathlib.Core.Bool.{Bool, true, false, cond}
use mathlib.Core.List.Perm
use mathlib.Core.List.{List, [], ◌∷◌, ◌++◌, append-nil, Perm, perm_middle}
use mathlib.Core.Option.{none}
use Prim.Native.Nat.{ℕ, ◌+◌, ◌-◌, ◌*◌, ◌/◌, ◌≤◌, ◌<◌}
use native.Mathlib.Omega.{arith}
use borrow.Author.Tests.{le-ltb}
use lib.ListN.{length, get_or, length-append}
use Rattle.lists.specs.Checks.{first}
use Rattle.lists.proofs.Checks.{first-passed}
use Rattle.lists.proofs.Perm.{length-perm}
use Rattle.lists.proofs.Rewrite.{rewritten-at, length-rewritten}
use Rattle.paper.specs.Limits.{most_columns}
use Rattle.paper.specs.Layer as paper
use Rattle.paper.specs.Layer.{allowed, Column, IsColumn, share, shares, of_columns}
use Rattle.paper.specs.Table.{cells, start_at, thickness_at, cell_of, limit, Table}
use Rattle.plate.specs.Refusal.{Told, done}
use Rattle.plate.specs.Call.{Call}
use Rattle.plate.specs.Head.{Held, held_in, head_of, cleared_head, more, limit_of, head_checks}
use Rattle.plate.specs.Head as head
use Rattle.plate.specs.Settings.{settings_checks}
use Rattle.plate.specs.declared.head.Head.{Head}
use Rattle.plate.proofs.Calls.{passes}
use Rattle.plate.proofs.Heads.{head_more, head-perm, head-both, head-less, few-not-full}
use Rattle.column.specs.Order.{column_checks}
use Rattle.column.proofs.Fine.{settings-fine, column-fine}
use Rattle.table.specs.Table.{short, Bounded, cleared, clearing}
use Rattle.table.proofs.Plates.{cell-limit}
use Rattle.adding.specs.Adding.{addend, overfull_cell, add_rest, added, adding}
use Rattle.adding.proofs.Passed.{overfull-fine}
use Rattle.joining.specs.Joining.{joined, joining, taken, taking}
use Rattle.joining.proofs.Fine.{join-fine, take-fine}
use Rattle.meaning.proofs.Columns.{shares-append, shares-perm}
use Rattle.promises.specs.Runs.{holds, runs, next, clear, add, join, take, add_all, tabulate, Group, Joins, one, both, columns_of, join_all, LentEnough, Columns, Tabulated, Tabulates, TableOf}

-- ---- cells of plates

table-limit : (N T : ℕ) (columns : List Column) (buffer : List ℕ) → Table (of_columns N T columns) buffer
    → (i : ℕ) → i < cells N T → get_or buffer i 0 ≤ limit T (length columns) (thickness_at T i)
table-limit N T columns buffer t i l = let e = t.holds i l in let f = cell-limit T columns i in omega arith

cell-more : (T : ℕ) (column : Column) (columns : List Column) (i : ℕ) → cell_of T (shares columns) i + addend T column i ≡ cell_of T (shares (column ∷ columns)) i
unfolding cell_of addend
cell-more T column columns i = go (allowed T (thickness_at T i))
  where
    go : (b : Bool) → cond b (shares columns (start_at T i) (thickness_at T i)) 0 + cond b (share column.boundaries (start_at T i) (thickness_at T i)) 0
        ≡ cond b (share column.boundaries (start_at T i) (thickness_at T i) + shares columns (start_at T i) (thickness_at T i)) 0
    go true = omega arith
    go false = omega arith

cell-both : (T : ℕ) (xs ys : List Column) (i : ℕ) → cell_of T (shares xs) i + cell_of T (shares ys) i ≡ cell_of T (shares (xs ++ ys)) i
unfolding cell_of
cell-both T xs ys i = go (allowed T (thickness_at T i))
  where
    go : (b : Bool) → cond b (shares xs (start_at T i) (thickness_at T i)) 0 + cond b (shares ys (start_at T i) (thickness_at T i)) 0
        ≡ cond b (shares (xs ++ ys) (start_at T i) (thickness_at T i)) 0
    go true = sym (shares-append xs ys (start_at T i) (thickness_at T i))
    go false = refl

cell-perm : (T : ℕ) (xs ys : List Column) → Perm xs ys → (i : ℕ) → cell_of T (shares xs) i ≡ cell_of T (shares ys) i
unfolding cell_of
cell-perm T xs ys p i = ap (λ (x : ℕ). cond (allowed T (thickness_at T i)) x 0) (shares-perm xs ys p (start_at T i) (thickness_at T i))

-- the limit of more columns is the sum
limit-sum : (T c d t : ℕ) → limit T (c + d) t ≡ limit T c t + limit T d t
unfolding limit
limit-sum T c d t = go (allowed T t)
  where
    go : (b : Bool) → cond b ((c + d) * (t / 2)) 0 ≡ cond b (c * (t / 2)) 0 + cond b (d * (t / 2)) 0
    go true = omega arith
    go false = refl

-- a plate's table is in bounds for what goes with it
pub tabulated-bounds : (N T : ℕ) (columns : List Column) (h : Held) → length columns ≤ most_columns → Tabulated N T columns h → TableOf N T h
tabulated-bounds N T columns h few t = record {
  height = ap (λ (x : Head). x.height) t.goes;
  members = ap (λ (x : Head). x.members) t.goes;
  bounds = subst (λ (x : Head). Bounded (held_in x h.buffer)) (sym t.goes) (record { size = t.table.size; columns = few; bounded = table-limit N T columns h.buffer t.table });
}

-- a call of which no refusal is given leaves what it writes
runs_done : (call : Call Head (List ℕ)) → first call.checks ≡ none → runs call ≡ done (held_in call.value call.writes)
runs_done call e = let p = passes call e in ap₂ holds p.0 p.1

-- the order of the columns does not matter
pub tabulated-perm : (N T : ℕ) (xs ys : List Column) (h : Held) → Perm xs ys → Tabulated N T xs h → Tabulated N T ys h
tabulated-perm N T xs ys h p t = record {
  table = record { size = t.table.size; holds = λ i l. t.table.holds i l ∙ cell-perm T xs ys p i };
  goes = t.goes ∙ head-perm N T xs ys p;
}

pub tabulates-perm : (N T : ℕ) (xs ys : List Column) (run : Told Held) → Perm xs ys → Tabulates N T xs run → Tabulates N T ys run
tabulates-perm N T xs ys run p t = record { held = t.held; is = t.is; right = tabulated-perm N T xs ys t.held p t.right }

perm-nil : (xs : List Column) → Perm (xs ++ []) xs
perm-nil xs = subst (λ (l : List Column). Perm (xs ++ []) l) (append-nil xs) (Perm.refl (xs ++ []))

pub columns-append : (N : ℕ) (xs ys : List Column) → Columns N (xs ++ ys) → Columns N xs × Columns N ys
columns-append N [] ys c = (tt, c)
columns-append N (x ∷ xs) ys c = let r = columns-append N xs ys c.1 in ((c.0, r.0), r.1)

-- a table of columns is one of the buffer alone: what goes with it is known
known : (N T : ℕ) (columns : List Column) (P : Held → Type 0) (h : Held) → Tabulated N T columns h → P (held_in (head_of N T columns) h.buffer) → P h
known N T columns P h t p = subst (λ (x : Head). P (held_in x h.buffer)) (sym t.goes) p

module _ (N T : ℕ) (settings : paper.Settings N T) where
  fine : first (settings_checks N T) ≡ none
  fine = settings-fine N T settings

  -- ---- one call

  clear-fine : (lent : List ℕ) → cells N T ≤ length lent → first (clearing N T lent).checks ≡ none
  unfolding clearing short
  clear-fine lent room = first-passed (settings_checks N T) _ fine ∙ simp (le-ltb (length lent) (cells N T) room)

  pub clear-tabulates : (lent : List ℕ) → cells N T ≤ length lent → Tabulates N T [] (clear N T lent)
  unfolding clearing cleared cell_of
  clear-tabulates lent room = record {
    held = held_in (cleared_head N T) (cleared N T lent);
    is = runs_done (clearing N T lent) (clear-fine lent room);
    right = record {
      table = record { size = omega (arith, length-rewritten (λ i x. 0) (cells N T) lent); holds = λ i l. rewritten-at (λ i x. 0) (cells N T) lent i 0 l (omega arith) ∙ zero (allowed T (thickness_at T i)) };
      goes = refl;
    };
  }
    where
      zero : (b : Bool) → ◌≡◌ {A = ℕ} 0 (cond b 0 0)
      zero true = refl
      zero false = refl

  module _ (columns : List Column) (buffer : List ℕ) (t : Table (of_columns N T columns) buffer) where
    -- the plate's table, and what goes with it
    abbrev plate : Held
    plate = held_in (head_of N T columns) buffer

    add-fine : (column : Column) → IsColumn N column → length columns < most_columns → first (adding plate column).checks ≡ none
    unfolding adding add_rest short overfull_cell limit_of
    add-fine column order few =
        first-passed (settings_checks N T) (add_rest plate column) fine
        ∙ simp (le-ltb (length buffer) (cells N T) t.size, few-not-full (head_of N T columns) few)
        (first-passed (column_checks N column.boundaries) (overfull_cell plate column ∷ []) (column-fine N column order)
        ∙ simp (overfull-fine plate column (table-limit N T columns buffer t), le-ltb (cells N T) (cells N T) (omega arith)))

    add-plate : (column : Column) → IsColumn N column → length columns < most_columns → Tabulates N T (column ∷ columns) (add plate column)
    unfolding adding added
    add-plate column order few = record {
      held = held_in (more (head_of N T columns)) (added plate column);
      is = runs_done (adding plate column) (add-fine column order few);
      right = record {
        table = record {
          size = omega (arith, length-rewritten (λ i x. x + addend T column i) (cells N T) buffer, t.size);
          holds = λ i l.
              rewritten-at (λ i x. x + addend T column i) (cells N T) buffer i 0 l (omega (arith, t.size))
              ∙ ap (λ (x : ℕ). x + addend T column i) (t.holds i l)
              ∙ cell-more T column columns i;
        };
        goes = head_more N T columns column;
      };
    }

  pub add-tabulates : (columns : List Column) (h : Held) (column : Column) → Tabulated N T columns h → IsColumn N column → length columns < most_columns
      → Tabulates N T (column ∷ columns) (add h column)
  add-tabulates columns h column t order few =
      known N T columns (λ (h : Held). Tabulates N T (column ∷ columns) (add h column)) h t (add-plate columns h.buffer t.table column order few)

  -- ---- two tables, which no columns need give

  made-fine : (h : Held) → TableOf N T h → first (head_checks h.head) ≡ none
  made-fine h a = rw (a.height, a.members) fine

  pub cells-of : (h : Held) → TableOf N T h → head.cells_of h.head ≡ cells N T
  cells-of h a = ap₂ cells a.height a.members

  pub join-done : (h k : Held) → TableOf N T h → TableOf N T k → h.head.columns + k.head.columns ≤ most_columns
      → join h k ≡ done (held_in (head.both h.head k.head) (joined h k))
  unfolding joining
  join-done h k a b few =
      runs_done (joining h k)
      (join-fine h k (made-fine h a) (made-fine k b) (a.height ∙ sym b.height) (a.members ∙ sym b.members) a.bounds b.bounds few)

  pub joined-cell : (h k : Held) → TableOf N T h → (i : ℕ) → i < cells N T → get_or (joined h k) i 0 ≡ get_or h.buffer i 0 + get_or k.buffer i 0
  unfolding joined
  joined-cell h k a i l = rewritten-at (λ i x. x + get_or k.buffer i 0) (head.cells_of h.head) h.buffer i 0 (omega (arith, cells-of h a)) (omega (arith, cells-of h a, a.bounds.size))

  joined_length : (h k : Held) → length (joined h k) ≡ length h.buffer
  unfolding joined
  joined_length h k = length-rewritten (λ i x. x + get_or k.buffer i 0) (head.cells_of h.head) h.buffer

  bound_of : (h : Held) → TableOf N T h → (i : ℕ) → i < cells N T → get_or h.buffer i 0 ≤ limit T h.head.columns (thickness_at T i)
  bound_of h a i l = rw (← a.members) (a.bounds.bounded i (omega (arith, cells-of h a)))

  pub joined-bounds : (h k : Held) → TableOf N T h → TableOf N T k → h.head.columns + k.head.columns ≤ most_columns
      → TableOf N T (held_in (head.both h.head k.head) (joined h k))
  joined-bounds h k a b few = record {
    height = a.height;
    members = a.members;
    bounds = record {
      size = omega (arith, joined_length h k, a.bounds.size);
      columns = few;
      bounded = λ i l.
          let u : i < cells N T = omega (arith, cells-of h a) in
          subst (λ (S : ℕ). get_or (joined h k) i 0 ≤ limit S (h.head.columns + k.head.columns) (thickness_at S i)) (sym a.members)
          (omega (arith, joined-cell h k a i u, bound_of h a i u, bound_of k b i u, limit-sum T h.head.columns k.head.columns (thickness_at T i)));
    };
  }

  pub take_done : (h k : Held) → TableOf N T h → TableOf N T k → k.head.columns ≤ h.head.columns
      → ((i : ℕ) → i < cells N T → get_or k.buffer i 0 ≤ get_or h.buffer i 0)
      → ((i : ℕ) → i < cells N T → get_or h.buffer i 0 - get_or k.buffer i 0 ≤ limit T (h.head.columns - k.head.columns) (thickness_at T i))
      → take h k ≡ done (held_in (head.less h.head k.head) (taken h k))
  unfolding taking limit_of
  take_done h k a b fewer lower within =
      runs_done (taking h k)
      (take-fine h k (made-fine h a) (made-fine k b) (a.height ∙ sym b.height) (a.members ∙ sym b.members) a.bounds b.bounds fewer
      (λ i l. lower i (omega (arith, cells-of h a))) (λ i l. rw a.members (within i (omega (arith, cells-of h a)))))

  pub taken-cell : (h k : Held) → TableOf N T h → (i : ℕ) → i < cells N T → get_or (taken h k) i 0 ≡ get_or h.buffer i 0 - get_or k.buffer i 0
  unfolding taken
  taken-cell h k a i l = rewritten-at (λ i x. x - get_or k.buffer i 0) (head.cells_of h.head) h.buffer i 0 (omega (arith, cells-of h a)) (omega (arith, cells-of h a, a.bounds.size))

  taken-length : (h k : Held) → length (taken h k) ≡ length h.buffer
  unfolding taken
  taken-length h k = length-rewritten (λ i x. x - get_or k.buffer i 0) (head.cells_of h.head) h.buffer

  -- ---- two tables of columns

  counted : {columns : List Column} {h : Held} → Tabulated N T columns h → h.head.columns ≡ length columns
  counted t = ap (λ (x : Head). x.columns) t.goes

  pub join-tabulates : (xs ys : List Column) (h k : Held) → Tabulated N T xs h → Tabulated N T ys k → length (xs ++ ys) ≤ most_columns
      → Tabulates N T (xs ++ ys) (join h k)
  join-tabulates xs ys h k a b few =
      let n = length-append xs ys in
      let ia = tabulated-bounds N T xs h (omega arith) a in
      let ib = tabulated-bounds N T ys k (omega arith) b in
      record {
        held = held_in (head.both h.head k.head) (joined h k);
        is = join-done h k ia ib (omega (arith, counted a, counted b));
        right = record {
          table = record {
            size = omega (arith, joined_length h k, a.table.size);
            holds = λ i l. joined-cell h k ia i l ∙ ap₂ ◌+◌ (a.table.holds i l) (b.table.holds i l) ∙ cell-both T xs ys i;
          };
          goes = ap₂ head.both a.goes b.goes ∙ head-both N T xs ys;
        };
      }

  -- taking a joined group off gives the rest's
  pub take-tabulates : (xs ys : List Column) (h k : Held) → Tabulated N T (xs ++ ys) h → Tabulated N T ys k → length (xs ++ ys) ≤ most_columns
      → Tabulates N T xs (take h k)
  take-tabulates xs ys h k a b few =
      let n = length-append xs ys in
      let ia = tabulated-bounds N T (xs ++ ys) h few a in
      let ib = tabulated-bounds N T ys k (omega arith) b in
      record {
        held = held_in (head.less h.head k.head) (taken h k);
        is = take_done h k ia ib (omega (arith, counted a, counted b)) (λ i l. omega (arith, parts i l)) within;
        right = record {
          table = record {
            size = omega (arith, taken-length h k, a.table.size);
            holds = λ i l. taken-cell h k ia i l ∙ omega (arith, parts i l);
          };
          goes = ap₂ head.less a.goes b.goes ∙ head-less N T xs ys;
        };
      }
    where
      parts : (i : ℕ) → i < cells N T → get_or h.buffer i 0 ≡ cell_of T (shares xs) i + get_or k.buffer i 0
      parts i l = a.table.holds i l ∙ sym (cell-both T xs ys i) ∙ ap (λ (x : ℕ). cell_of T (shares xs) i + x) (sym (b.table.holds i l))

      rest : h.head.columns - k.head.columns ≡ length xs
      rest = omega (arith, counted a, counted b, length-append xs ys)

      within : (i : ℕ) → i < cells N T → get_or h.buffer i 0 - get_or k.buffer i 0 ≤ limit T (h.head.columns - k.head.columns) (thickness_at T i)
      within i l = rw rest (let e = parts i l in let f = cell-limit T xs i in omega arith)

  -- ---- runs

  add-held : (columns : List Column) (run : Told Held) (column : Column) → Tabulates N T columns run → IsColumn N column → length columns < most_columns
      → Tabulates N T (column ∷ columns) (next run (λ h. add h column))
  add-held columns run column t order few =
      subst (λ (r : Told Held). Tabulates N T (column ∷ columns) (next r (λ h. add h column))) (sym t.is) (add-tabulates columns t.held column t.right order few)

  add-all : (columns before : List Column) (run : Told Held) → Tabulates N T before run → Columns N columns → length columns + length before ≤ most_columns
      → Tabulates N T (columns ++ before) (add_all columns run)
  add-all [] before run t order few = t
  add-all (column ∷ columns) before run t order few =
      tabulates-perm N T (columns ++ (column ∷ before)) (column ∷ (columns ++ before)) _ (perm_middle columns before)
      (add-all columns (column ∷ before) (next run (λ h. add h column)) (add-held before run column t order.0 (omega arith)) order.1 (omega arith))

  -- clear and add, in any order of the columns, leave the plate's table and its column count, and never refuse
  pub tabulates : (columns plate : List Column) (lent : List ℕ) → Perm columns plate → Columns N columns → length columns ≤ most_columns → cells N T ≤ length lent
      → Tabulates N T plate (tabulate N T columns lent)
  tabulates columns plate lent p order few room =
      tabulates-perm N T (columns ++ []) plate _ (Perm.trans (perm-nil columns) p)
      (add-all columns [] (clear N T lent) (clear-tabulates lent room) order (omega arith))

  pub join-held : (xs ys : List Column) (left right : Told Held) → Tabulates N T xs left → Tabulates N T ys right → length (xs ++ ys) ≤ most_columns
      → Tabulates N T (xs ++ ys) (next left (λ h. next right (λ k. join h k)))
  join-held xs ys left right x y few =
      subst (λ (r : Told Held). Tabulates N T (xs ++ ys) (next r (λ h. next right (λ k. join h k)))) (sym x.is)
      (subst (λ (r : Told Held). Tabulates N T (xs ++ ys) (next r (λ k. join x.held k))) (sym y.is)
      (join-tabulates xs ys x.held y.held x.right y.right few))

  join-all : (j : Joins Group) → LentEnough N T j → Columns N (columns_of j) → length (columns_of j) ≤ most_columns → Tabulates N T (columns_of j) (join_all N T j)
  join-all (one g) room order few = tabulates g.columns g.columns g.lent (Perm.refl g.columns) order few room
  join-all (both a b) room order few =
      let n = length-append (columns_of a) (columns_of b) in
      let o = columns-append N (columns_of a) (columns_of b) order in
      join-held (columns_of a) (columns_of b) (join_all N T a) (join_all N T b) (join-all a room.0 o.0 (omega arith)) (join-all b room.1 o.1 (omega arith)) few

  -- the tables of any dealing of the columns into groups, joined in any order and bracketing, are the plate's table
  pub joins-tabulate : (j : Joins Group) (plate : List Column) → Perm (columns_of j) plate → LentEnough N T j → Columns N (columns_of j)
      → length (columns_of j) ≤ most_columns → Tabulates N T plate (join_all N T j)
  joins-tabulate j plate p room order few = tabulates-perm N T (columns_of j) plate _ p (join-all j room order few)

  -- taking one off gives the rest's
  pub takes-rest : (rest gone plate : List Column) (h k : Held) → Perm plate (rest ++ gone) → Tabulated N T plate h → Tabulated N T gone k
      → length plate ≤ most_columns → Tabulates N T rest (take h k)
  takes-rest rest gone plate h k p a b few =
      take-tabulates rest gone h k (tabulated-perm N T plate (rest ++ gone) h p a) b (omega (arith, length-perm plate (rest ++ gone) p))
