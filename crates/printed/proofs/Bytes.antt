-- A reader over bytes that goes on as long as a record that passes its test comes next: where it ends with a whole file and no byte left, the
-- file is accepted, and otherwise the place that it has come to is the place of the fault. For the bytes tell the record that comes next, so the
-- records of any other reading of the file are the first of those that this one has read. Assumes nothing.
use Prim.Native.Nat.{ℕ, zero, suc, ◌≤◌, ◌<◌}
use mathlib.Core.Path.{◌≡◌, refl, sym, ◌∙◌, ap}
use mathlib.Core.Option.{Option, none, some}
use mathlib.Core.List.{List, [], ◌∷◌, ◌++◌, append_assoc, append-nil}
use native.Mathlib.Omega.{arith}
use lib.ListN.{length, length-append}
use Rattle.printed.specs.Records.{Record, State, fresh, lifted, layered, whole, step, and_then, orders_over, read_from, Passes}
use Rattle.printed.specs.Bytes.{bytes_of, Distinct, Accepted, Agrees, FaultAt, Reached, Stuck}
use Rattle.printed.proofs.Records.{none-some, Goes, forward, back, read-nil, read-cons, passes-begins, goes-written, written-goes}
use Rattle.printed.proofs.Paper.{begins-started, started-begins, written-printed, printed-written}

-- ---- lists of bytes

append-cancel : (xs ys zs : List ℕ) → xs ++ ys ≡ xs ++ zs → ys ≡ zs
append-cancel [] ys zs e = e
append-cancel (x ∷ xs) ys zs e = append-cancel xs ys zs (cc)

pub bytes-append : (code : Record → List ℕ) (rs us : List Record) → bytes_of code (rs ++ us) ≡ bytes_of code rs ++ bytes_of code us
bytes-append code [] us = refl
bytes-append code (r ∷ rs) us =
    ap (λ (l : List ℕ). code r ++ l) (bytes-append code rs us) ∙ sym (append_assoc (code r) (bytes_of code rs) (bytes_of code us))

-- the first of some records take no more bytes
front_length : (code : Record → List ℕ) (all rs us : List Record) → all ≡ rs ++ us → length (bytes_of code rs) ≤ length (bytes_of code all)
front_length code all rs us e =
    let x : length (bytes_of code all) ≡ length (bytes_of code (rs ++ us)) = ap (λ (l : List Record). length (bytes_of code l)) e in
    omega (arith, x, ap length (bytes-append code rs us), length-append (bytes_of code rs) (bytes_of code us))

module _ (N T : ℕ) (cures : List ℕ) where
  -- ---- reading in two parts

  pub record Step (s : State) (r : Record) (rs : List Record) (s' : State) : Type 0 where
    pub next : State
    pub is : step N T cures s r ≡ some next
    pub reads : read_from N T cures next rs ≡ some s'

  pub read_step : (s : State) (r : Record) (rs : List Record) (s' : State) → read_from N T cures s (r ∷ rs) ≡ some s' → Step s r rs s'
  read_step s r rs s' e = go (step N T cures s r) refl (sym (read-cons N T cures s r rs) ∙ e)
    where
      go : (o : Option State) → step N T cures s r ≡ o → and_then o (λ s'. read_from N T cures s' rs) ≡ some s' → Step s r rs s'
      go none q f = absurd (none-some f)
      go (some o) q f = record { next = o; is = q; reads = f }

  pub step-read : (s : State) (r : Record) (rs : List Record) (o s' : State) → step N T cures s r ≡ some o → read_from N T cures o rs ≡ some s'
      → read_from N T cures s (r ∷ rs) ≡ some s'
  step-read s r rs o s' q e =
      read-cons N T cures s r rs ∙ ap (λ (x : Option State). and_then x (λ s'. read_from N T cures s' rs)) q ∙ e

  pub read-append : (s : State) (rs us : List Record) (o : State) → read_from N T cures s rs ≡ some o
      → read_from N T cures s (rs ++ us) ≡ read_from N T cures o us
  read-append s [] us o e = let x : s ≡ o = cc (read-nil N T cures s, e) in ap (λ (a : State). read_from N T cures a us) x
  read-append s (r ∷ rs) us o e =
      let w = read_step s r rs o e in
      read-cons N T cures s r (rs ++ us)
      ∙ ap (λ (x : Option State). and_then x (λ s'. read_from N T cures s' (rs ++ us))) w.is
      ∙ read-append w.next rs us o w.reads

  -- one record more
  pub read-snoc : (s : State) (rs : List Record) (r : Record) (a o : State) → read_from N T cures s rs ≡ some a → step N T cures a r ≡ some o
      → read_from N T cures s (rs ++ (r ∷ [])) ≡ some o
  read-snoc s rs r a o e q = read-append s rs (r ∷ []) a e ∙ step-read a r [] o o q (read-nil N T cures o)

  -- the whole file is read to its end, and nothing passes after that
  pub goes-read : (s : State) (rs : List Record) → Goes N T cures s rs → read_from N T cures s rs ≡ some whole
  unfolding orders_over
  goes-read fresh [] ([], p, e) = absurd (let z : ◌≡◌ {A = ℕ} 0 1 = cc in omega arith)
  goes-read fresh [] (t ∷ ts, p, e) = absurd (let z : ◌≡◌ {A = ℕ} 0 1 = cc in omega arith)
  goes-read (lifted k first h t) [] (ts, p, e) = absurd (let z : ◌≡◌ {A = ℕ} 0 1 = cc in omega arith)
  goes-read (layered k first h) [] ([], p, e) = absurd (let z : ◌≡◌ {A = ℕ} 0 1 = cc in omega arith)
  goes-read (layered k first h) [] (t ∷ ts, p, e) = absurd (let z : ◌≡◌ {A = ℕ} 0 1 = cc in omega arith)
  goes-read whole [] e = read-nil N T cures whole
  goes-read s (r ∷ rs) g = let w = forward N T cures s r rs g in step-read s r rs w.next whole w.is (goes-read w.next rs w.goes)

  pub read_goes : (s : State) (rs : List Record) → read_from N T cures s rs ≡ some whole → Goes N T cures s rs
  read_goes s [] e = let x : whole ≡ s = cc (read-nil N T cures s, e) in rw (← x) refl
  read_goes s (r ∷ rs) e = let w = read_step s r rs whole e in back N T cures s r w.next rs w.is (read_goes w.next rs w.reads)

  nothing-after : (r : Record) (o : State) → step N T cures whole r ≡ some o → ⊥
  unfolding step
  nothing-after r o e = none-some e

  whole-end : (us : List Record) (s : State) → read_from N T cures whole us ≡ some s → (us ≡ []) × (s ≡ whole)
  whole-end [] s e = (refl, cc (read-nil N T cures whole, e))
  whole-end (u ∷ us) s e = let w = read_step whole u us s e in absurd (nothing-after u w.next w.is)

module _ (N T : ℕ) (cures : List ℕ) (code : Record → List ℕ) (distinct : Distinct N T cures code) where
  -- ---- the records of any other reading are the first of those read

  compare : (done : List Record) (s : State) → read_from N T cures fresh done ≡ some s
      → (passed : List Record) (end : State) (rest : List ℕ) → read_from N T cures s passed ≡ some end → Stuck N T cures code end rest
      → (rs : List Record) (s' : State) (rest' : List ℕ) → read_from N T cures s rs ≡ some s'
      → bytes_of code passed ++ rest ≡ bytes_of code rs ++ rest'
      → (us : List Record) × (passed ≡ rs ++ us)
  compare done s d passed end rest p k [] s' rest' q e = (passed, refl)
  compare done s d [] end rest p k (r ∷ rs) s' rest' q e =
      let w = read_step N T cures s r rs s' q in
      let x : s ≡ end = cc (read-nil N T cures s, p) in
      absurd
      (k r w.next (rw (← x) w.is) (bytes_of code rs ++ rest') (sym (append_assoc (code r) (bytes_of code rs) rest') ∙ sym e))
  compare done s d (t ∷ passed) end rest p k (r ∷ rs) s' rest' q e =
      let v = read_step N T cures s t passed end p in
      let w = read_step N T cures s r rs s' q in
      let f : code t ++ (bytes_of code passed ++ rest) ≡ code r ++ (bytes_of code rs ++ rest') =
      sym (append_assoc (code t) (bytes_of code passed) rest) ∙ e ∙ append_assoc (code r) (bytes_of code rs) rest' in
      let same : t ≡ r = distinct.only done s d t r v.next w.next v.is w.is (bytes_of code passed ++ rest) (bytes_of code rs ++ rest') f in
      let g : code r ++ (bytes_of code passed ++ rest) ≡ code r ++ (bytes_of code rs ++ rest') = rw same at f in
      let o : v.next ≡ w.next = cc (v.is, w.is, same) in
      let m : read_from N T cures w.next passed ≡ some end = rw o at v.reads in
      let i =
      compare (done ++ (r ∷ [])) w.next (read-snoc N T cures fresh done r s w.next d w.is) passed end rest m k rs s' rest' w.reads
      (append-cancel (code r) (bytes_of code passed ++ rest) (bytes_of code rs ++ rest') g) in
      (i.0, cc (same, i.1))

  module _ (some-height : 1 ≤ N) (file : List ℕ) (p : ℕ) (here : Reached N T cures code file p) where
    -- at the end of a whole file
    pub accepted : here.state ≡ whole → here.rest ≡ [] → Accepted N T cures code file
    accepted w e = record {
      records = here.records;
      printed =
          written-printed N T cures here.records
          (goes-written N T cures some-height here.records (read_goes N T cures fresh here.records (here.reads ∙ ap some w)));
      same = sym (append-nil (bytes_of code here.records)) ∙ ap (λ (l : List ℕ). bytes_of code here.records ++ l) (sym e) ∙ here.same;
    }

    -- anywhere else
    module _ (stuck : Stuck N T cures code here.state here.rest) where
      first_of : (rs : List Record) (s : State) (rest : List ℕ) → read_from N T cures fresh rs ≡ some s → bytes_of code rs ++ rest ≡ file
          → (us : List Record) × (here.records ≡ rs ++ us)
      first_of rs s rest q e =
          compare [] fresh (read-nil N T cures fresh) here.records here.state here.rest here.reads stuck rs s rest q (here.same ∙ sym e)

      no-further : (q : ℕ) → Agrees N T cures code file q → q ≤ p
      no-further q a = go a.records refl
        where
          at : (rs : List Record) → a.records ≡ rs → 1 ≤ length rs → length (bytes_of code rs) ≤ p
          at rs e l =
              let b : Passes N T cures rs = (passes-begins N T cures some-height rs l).1 (started-begins N T cures rs (rw e at a.started)) in
              let x = first_of rs b.state a.rest b.reads (rw e at a.same) in
              omega (arith, front_length code here.records rs x.0 x.1, here.place)

          go : (rs : List Record) → a.records ≡ rs → q ≤ p
          go [] e = let z : length (bytes_of code a.records) ≡ 0 = ap (λ (us : List Record). length (bytes_of code us)) e in omega (arith, z, a.place)
          go (r ∷ rs) e =
              let z : length (bytes_of code a.records) ≡ length (bytes_of code (r ∷ rs)) = ap (λ (us : List Record). length (bytes_of code us)) e in
              omega (arith, z, a.place, at (r ∷ rs) e (omega arith))

      not-accepted : (here.state ≡ whole → here.rest ≡ [] → ⊥) → Accepted N T cures code file → ⊥
      not-accepted n a =
          let r = goes-read N T cures fresh a.records (written-goes N T cures some-height a.records (printed-written N T cures a.records a.printed)) in
          let x = first_of a.records whole [] r (append-nil (bytes_of code a.records) ∙ a.same) in
          let y : read_from N T cures whole x.0 ≡ some here.state =
          sym (read-append N T cures fresh a.records x.0 whole r) ∙ ap (read_from N T cures fresh) (sym x.1) ∙ here.reads in
          let z = whole-end N T cures x.0 here.state y in
          let w : here.records ≡ a.records = x.1 ∙ ap (λ (us : List Record). a.records ++ us) z.0 ∙ append-nil a.records in
          let v : bytes_of code a.records ++ here.rest ≡ bytes_of code a.records ++ [] =
          ap (λ (us : List Record). bytes_of code us ++ here.rest) (sym w)
          ∙ here.same
          ∙ sym a.same
          ∙ sym (append-nil (bytes_of code a.records)) in
          n z.1 (append-cancel (bytes_of code a.records) here.rest [] v)

      reached-at : 0 < p → Agrees N T cures code file p
      reached-at l = record {
        records = here.records;
        started = begins-started N T cures here.records ((passes-begins N T cures some-height here.records (some-record here.records refl)).0 passed);
        rest = here.rest;
        same = here.same;
        place = here.place;
      }
        where
          passed : Passes N T cures here.records
          passed = record { state = here.state; reads = here.reads }

          some-record : (rs : List Record) → here.records ≡ rs → 1 ≤ length rs
          some-record [] e =
              absurd (let z : length (bytes_of code here.records) ≡ 0 = ap (λ (us : List Record). length (bytes_of code us)) e in omega (arith, z, here.place))
          some-record (r ∷ rs) e = omega arith

      pub refused : (here.state ≡ whole → here.rest ≡ [] → ⊥) → FaultAt N T cures code file p
      refused n = record { none = not-accepted n; reached = reached-at; furthest = no-further }

  -- ---- sequences that have one file have the same records, so every order in it is the same whichever is taken

  pub accepted-once : 1 ≤ N → (file : List ℕ) (a b : Accepted N T cures code file) → a.records ≡ b.records
  accepted-once n file a b =
      let x = compare [] fresh (read-nil N T cures fresh) a.records whole [] (reads a) (λ r o q y e. nothing-after N T cures r o q) b.records whole [] (reads b)
      (append-nil (bytes_of code a.records) ∙ a.same ∙ sym b.same ∙ sym (append-nil (bytes_of code b.records))) in
      let y : read_from N T cures whole x.0 ≡ some whole =
      sym (read-append N T cures fresh b.records x.0 whole (reads b)) ∙ ap (read_from N T cures fresh) (sym x.1) ∙ reads a in
      x.1 ∙ ap (λ (us : List Record). b.records ++ us) (whole-end N T cures x.0 whole y).0 ∙ append-nil b.records
    where
      reads : (c : Accepted N T cures code file) → read_from N T cures fresh c.records ≡ some whole
      reads c = goes-read N T cures fresh c.records (written-goes N T cures n c.records (printed-written N T cures c.records c.printed))

-- ---- there is one such place at most

pub fault-unique : (N T : ℕ) (cures : List ℕ) (code : Record → List ℕ) (file : List ℕ) (p q : ℕ)
    → FaultAt N T cures code file p → FaultAt N T cures code file q → p ≡ q
fault-unique N T cures code file p q a b = let x = no_more p q a b in let y = no_more q p b a in omega arith
  where
    no_more : (p q : ℕ) → FaultAt N T cures code file p → FaultAt N T cures code file q → p ≤ q
    no_more zero q a b = omega arith
    no_more (suc p) q a b = b.furthest (suc p) (a.reached (omega arith))
