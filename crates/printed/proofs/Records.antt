-- The reader, record by record: its tests pass exactly as long as a file of the writer begins so. For each state there are the records that may
-- still come (`Goes`), before the first one just the files of the writer; a step takes the first of them off and can be put before them again, and
-- no state that is reached is without any. All else is induction over these three. Assumes nothing.
use Prim.Native.Nat.{ℕ, suc, ◌+◌, ◌-◌, ◌≤◌}
use mathlib.Core.Path.{◌≡◌, refl, sym, ◌∙◌, ap}
use mathlib.Core.Logic.{◌↔◌}
use mathlib.Core.Bool.{Bool, true, false, ◌&&◌}
use mathlib.Core.Option.{Option, none, some}
use mathlib.Core.List.{List, [], ◌∷◌, ◌++◌}
use native.Mathlib.Omega.{arith}
use lib.Dec.{leb, eqb}
use lib.ListN.{length}
use borrow.Author.Tests.{eqb-true, eq-eqb}
use Rattle.paper.proofs.Thicknesses.{and-true}
use Rattle.printed.specs.Possible.{cure_of, usable}
use Rattle.printed.specs.Tests.{may_lift, finishes, accepts}
use Rattle.printed.specs.Records.{Record, lift, cure, finish, orders_over, orders, State, fresh, lifted, layered, whole, provided, step, and_then, read_from, Passes, Written, Begins}
use Rattle.printed.proofs.Layers.{usable-from, may-lift, finishes-cons, cons-finishes, finishes-nil, completed, accepts-cons, cons-accepts, accepts-nil, accepts-possible, possible-accepts}

-- ---- one step of each definition

orders-nil : (cures : List ℕ) (k h : ℕ) → orders_over cures k h [] ≡ finish k ∷ []
unfolding orders_over
orders-nil cures k h = refl

orders-cons : (cures : List ℕ) (k h t : ℕ) (ts : List ℕ)
    → orders_over cures k h (t ∷ ts) ≡ lift (h + t) ∷ cure (cure_of cures t) ∷ orders_over cures (suc k) (h + t) ts
unfolding orders_over
orders-cons cures k h t ts = refl

pub provided-some : (b : Bool) (s s' : State) → provided b s ≡ some s' → (b ≡ true) × (s ≡ s')
provided-some true s s' e = (refl, cc)
provided-some false s s' e = absurd (let z : ◌≡◌ {A = ℕ} 0 1 = cc in omega arith)

pub none-some : {A : Type 0} {s : A} → none ≡ some s → ⊥
none-some e = let z : ◌≡◌ {A = ℕ} 0 1 = cc in omega arith

module _ (N T : ℕ) (cures : List ℕ) where
  -- the records that may still come
  abbrev pub Goes : State → List Record → Type 0
  Goes fresh rs = (ts : List ℕ) × (accepts N T cures ts ≡ true) × (orders_over cures 0 0 ts ≡ rs)
  Goes (lifted k first h t) rs =
      (ts : List ℕ) × (finishes N T cures first h ts ≡ true) × (cure (cure_of cures t) ∷ orders_over cures k h ts ≡ rs)
  Goes (layered k first h) rs = (ts : List ℕ) × (finishes N T cures first h ts ≡ true) × (orders_over cures k h ts ≡ rs)
  Goes whole rs = [] ≡ rs

  pub record Stepped (s : State) (r : Record) (rs : List Record) : Type 0 where
    pub next : State
    pub is : step N T cures s r ≡ some next
    pub goes : Goes next rs

  -- ---- a step forward

  begin-forward : (t : ℕ) (ts : List ℕ) (r : Record) (rs : List Record) → accepts N T cures (t ∷ ts) ≡ true
      → lift (0 + t) ∷ cure (cure_of cures t) ∷ orders_over cures 1 (0 + t) ts ≡ r ∷ rs → Stepped fresh r rs
  unfolding step
  begin-forward t ts r rs p e =
      let b = accepts-cons N T cures t ts p in
      let z : 0 + t ≡ t = omega arith in
      let a : lift t ≡ r = cc in
      record {
        next = lifted 1 t t t;
        is = rw (← a) (simp b.0);
        goes = (ts, b.1, cc);
      }

  lift-forward : (k first h t : ℕ) (ts : List ℕ) (r : Record) (rs : List Record) → finishes N T cures first h (t ∷ ts) ≡ true
      → lift (h + t) ∷ cure (cure_of cures t) ∷ orders_over cures (suc k) (h + t) ts ≡ r ∷ rs → Stepped (layered k first h) r rs
  unfolding step
  lift-forward k first h t ts r rs p e =
      let b = finishes-cons N T cures first h t ts p in
      let z : h + t - h ≡ t = omega arith in
      let a : lift (h + t) ≡ r = cc in
      record {
        next = lifted (suc k) first (h + t) t;
        is = rw (← a) (simp (z, b.0));
        goes = (ts, b.1, cc);
      }

  finish-forward : (k first h : ℕ) (r : Record) (rs : List Record) → finishes N T cures first h [] ≡ true
      → finish k ∷ [] ≡ r ∷ rs → Stepped (layered k first h) r rs
  unfolding step
  finish-forward k first h r rs p e =
      let a : finish k ≡ r = cc in
      let b : leb N h ≡ true = rw (finishes-nil N T cures first h) at p in
      record { next = whole; is = rw (← a) (simp (eq-eqb k k refl, b)); goes = cc }

  cure-forward : (k first h t : ℕ) (ts : List ℕ) (r : Record) (rs : List Record) → finishes N T cures first h ts ≡ true
      → cure (cure_of cures t) ∷ orders_over cures k h ts ≡ r ∷ rs → Stepped (lifted k first h t) r rs
  unfolding step
  cure-forward k first h t ts r rs p e =
      let a : cure (cure_of cures t) ≡ r = cc in
      record { next = layered k first h; is = rw (← a) (simp (eq-eqb (cure_of cures t) (cure_of cures t) refl)); goes = (ts, p, cc) }

  pub forward : (s : State) (r : Record) (rs : List Record) → Goes s (r ∷ rs) → Stepped s r rs
  forward fresh r rs ([], p, e) = absurd (let f = accepts-nil N T cures in let z : ◌≡◌ {A = ℕ} 0 1 = cc in omega arith)
  forward fresh r rs (t ∷ ts, p, e) = begin-forward t ts r rs p (sym (orders-cons cures 0 0 t ts) ∙ e)
  forward (lifted k first h t) r rs (ts, p, e) = cure-forward k first h t ts r rs p e
  forward (layered k first h) r rs ([], p, e) = finish-forward k first h r rs p (sym (orders-nil cures k h) ∙ e)
  forward (layered k first h) r rs (t ∷ ts, p, e) = lift-forward k first h t ts r rs p (sym (orders-cons cures k h t ts) ∙ e)
  forward whole r rs e = absurd (let z : ◌≡◌ {A = ℕ} 0 1 = cc in omega arith)

  -- ---- a step back

  begin-back : (x : ℕ) (s : State) (rs : List Record) → step N T cures fresh (lift x) ≡ some s → Goes s rs → Goes fresh (lift x ∷ rs)
  unfolding step
  begin-back x s rs e g = go u.0 (rw (← u.1) at g)
    where
      u : (usable T cures x ≡ true) × (lifted 1 x x x ≡ s)
      u = provided-some (usable T cures x) (lifted 1 x x x) s e

      go : usable T cures x ≡ true → Goes (lifted 1 x x x) rs → Goes fresh (lift x ∷ rs)
      go b (ts, p, f) =
          let z : 0 + x ≡ x = omega arith in
          (x ∷ ts, cons-accepts N T cures x ts b p, orders-cons cures 0 0 x ts ∙ cc)

  cure-back : (k first h t c : ℕ) (s : State) (rs : List Record) → step N T cures (lifted k first h t) (cure c) ≡ some s → Goes s rs
      → Goes (lifted k first h t) (cure c ∷ rs)
  unfolding step
  cure-back k first h t c s rs e g = go (eqb-true c (cure_of cures t) u.0) (rw (← u.1) at g)
    where
      u : (eqb c (cure_of cures t) ≡ true) × (layered k first h ≡ s)
      u = provided-some (eqb c (cure_of cures t)) (layered k first h) s e

      go : c ≡ cure_of cures t → Goes (layered k first h) rs → Goes (lifted k first h t) (cure c ∷ rs)
      go b (ts, p, f) = (ts, p, cc)

  lift-back : (k first h x : ℕ) (s : State) (rs : List Record) → step N T cures (layered k first h) (lift x) ≡ some s → Goes s rs
      → Goes (layered k first h) (lift x ∷ rs)
  unfolding step
  lift-back k first h x s rs e g = go u.0 (rw (← u.1) at g)
    where
      u : (may_lift N T cures first h (x - h) ≡ true) × (lifted (suc k) first x (x - h) ≡ s)
      u = provided-some (may_lift N T cures first h (x - h)) (lifted (suc k) first x (x - h)) s e

      go : may_lift N T cures first h (x - h) ≡ true → Goes (lifted (suc k) first x (x - h)) rs → Goes (layered k first h) (lift x ∷ rs)
      go b (ts, p, f) =
          let l = usable-from T cures (x - h) (may-lift N T cures first h (x - h) b).0 in
          let z : h + (x - h) ≡ x = omega arith in
          ((x - h) ∷ ts, cons-finishes N T cures first h (x - h) ts b (rw z p), orders-cons cures k h (x - h) ts ∙ cc)

  finish-back : (k first h n : ℕ) (s : State) (rs : List Record) → step N T cures (layered k first h) (finish n) ≡ some s → Goes s rs
      → Goes (layered k first h) (finish n ∷ rs)
  unfolding step
  finish-back k first h n s rs e g = go (and-true (eqb n k) (leb N h) u.0) (rw (← u.1) at g)
    where
      u : (eqb n k && leb N h ≡ true) × (whole ≡ s)
      u = provided-some (eqb n k && leb N h) whole s e

      go : (eqb n k ≡ true) × (leb N h ≡ true) → Goes whole rs → Goes (layered k first h) (finish n ∷ rs)
      go b g = let z : n ≡ k = eqb-true n k b.0 in ([], rw (finishes-nil N T cures first h) b.1, orders-nil cures k h ∙ cc)

  pub back : (s : State) (r : Record) (s' : State) (rs : List Record) → step N T cures s r ≡ some s' → Goes s' rs → Goes s (r ∷ rs)
  unfolding step
  back fresh (lift x) s' rs e g = begin-back x s' rs e g
  back fresh (cure c) s' rs e g = absurd (none-some e)
  back fresh (finish n) s' rs e g = absurd (none-some e)
  back (lifted k first h t) (lift x) s' rs e g = absurd (none-some e)
  back (lifted k first h t) (cure c) s' rs e g = cure-back k first h t c s' rs e g
  back (lifted k first h t) (finish n) s' rs e g = absurd (none-some e)
  back (layered k first h) (lift x) s' rs e g = lift-back k first h x s' rs e g
  back (layered k first h) (cure c) s' rs e g = absurd (none-some e)
  back (layered k first h) (finish n) s' rs e g = finish-back k first h n s' rs e g
  back whole r s' rs e g = absurd (none-some e)

  -- ---- no dead ends

  -- the first layer's thickness is usable; before it there may be none
  abbrev pub Sound : State → Type 0
  Sound fresh = ⊥
  Sound (lifted k first h t) = usable T cures first ≡ true
  Sound (layered k first h) = usable T cures first ≡ true
  Sound whole = Unit {0}

  abbrev pub Known : State → Type 0
  Known fresh = Unit {0}
  Known (lifted k first h t) = usable T cures first ≡ true
  Known (layered k first h) = usable T cures first ≡ true
  Known whole = Unit {0}

  pub known : (s : State) → Sound s → Known s
  known fresh u = absurd u
  known (lifted k first h t) u = u
  known (layered k first h) u = u
  known whole u = tt

  pub step-sound : (s : State) (r : Record) (s' : State) → Known s → step N T cures s r ≡ some s' → Sound s'
  unfolding step
  step-sound fresh (lift x) s' u e = let w = provided-some (usable T cures x) (lifted 1 x x x) s' e in rw (← w.1) w.0
  step-sound fresh (cure c) s' u e = absurd (none-some e)
  step-sound fresh (finish n) s' u e = absurd (none-some e)
  step-sound (lifted k first h t) (lift x) s' u e = absurd (none-some e)
  step-sound (lifted k first h t) (cure c) s' u e = let w = provided-some (eqb c (cure_of cures t)) (layered k first h) s' e in rw (← w.1) u
  step-sound (lifted k first h t) (finish n) s' u e = absurd (none-some e)
  step-sound (layered k first h) (lift x) s' u e =
      let w = provided-some (may_lift N T cures first h (x - h)) (lifted (suc k) first x (x - h)) s' e in rw (← w.1) u
  step-sound (layered k first h) (cure c) s' u e = absurd (none-some e)
  step-sound (layered k first h) (finish n) s' u e = let w = provided-some (eqb n k && leb N h) whole s' e in rw (← w.1) tt
  step-sound whole r s' u e = absurd (none-some e)

  -- some records go on from such a state, half-way through a layer too
  pub alive : (s : State) → Sound s → (rs : List Record) × Goes s rs
  alive fresh u = absurd u
  alive (lifted k first h t) u =
      let c = completed N T cures first h u in (cure (cure_of cures t) ∷ orders_over cures k h c.more, (c.more, c.passed, refl))
  alive (layered k first h) u = let c = completed N T cures first h u in (orders_over cures k h c.more, (c.more, c.passed, refl))
  alive whole u = ([], refl)

  -- ---- all records of a file

  abbrev pub Front : State → List Record → Type 0
  Front s rs = (more : List Record) × Goes s (rs ++ more)

  pub front-cons : (s : State) (r : Record) (s' : State) (rs : List Record) → step N T cures s r ≡ some s' → Front s' rs → Front s (r ∷ rs)
  front-cons s r s' rs e f = (f.0, back s r s' (rs ++ f.0) e f.1)

  pub read-nil : (s : State) → read_from N T cures s [] ≡ some s
  unfolding read_from
  read-nil s = refl

  pub read-cons : (s : State) (r : Record) (rs : List Record)
      → read_from N T cures s (r ∷ rs) ≡ and_then (step N T cures s r) (λ s'. read_from N T cures s' rs)
  unfolding read_from
  read-cons s r rs = refl

  -- what was read from a sound state is gone on with
  pub read-front : (s : State) (rs : List Record) (s' : State) → Sound s → read_from N T cures s rs ≡ some s' → Front s rs
  read-front s [] s' u e = alive s u
  read-front s (r ∷ rs) s' u e = go (step N T cures s r) refl (sym (read-cons s r rs) ∙ e) (λ o v f. read-front o rs s' v f)
    where
      go : (o : Option State) → step N T cures s r ≡ o → and_then o (λ s'. read_from N T cures s' rs) ≡ some s'
          → ((o : State) → Sound o → read_from N T cures o rs ≡ some s' → Front o rs) → Front s (r ∷ rs)
      go none q f ih = absurd (none-some f)
      go (some o) q f ih = front-cons s r o rs q (ih o (step-sound s r o (known s u) q) f)

  pub front_read : (s : State) (rs : List Record) → Front s rs → (s' : State) × (read_from N T cures s rs ≡ some s')
  front_read s [] f = (s, read-nil s)
  front_read s (r ∷ rs) f =
      let w = forward s r (rs ++ f.0) f.1 in
      let i = front_read w.next rs (f.0, w.goes) in
      (i.0, read-cons s r rs ∙ ap (λ (o : Option State). and_then o (λ s'. read_from N T cures s' rs)) w.is ∙ i.1)

-- ---- the files of the writer

module _ (N T : ℕ) (cures : List ℕ) (some-height : 1 ≤ N) where
  pub goes-written : (rs : List Record) → Goes N T cures fresh rs → Written N T cures rs
  unfolding orders
  goes-written rs (ts, p, e) = record { layers = ts; possible = accepts-possible N T cures some-height ts p; same = e }

  pub written-goes : (rs : List Record) → Written N T cures rs → Goes N T cures fresh rs
  unfolding orders
  written-goes rs w = (w.layers, possible-accepts N T cures w.layers w.possible, w.same)

  -- after at least one record: every test so far has passed exactly if some such file begins so, half-way through a layer too
  pub passes-begins : (rs : List Record) → 1 ≤ length rs → Passes N T cures rs ↔ Begins N T cures rs
  passes-begins rs l = (λ p. to rs l p.state p.reads, from)
    where
      first : (r : Record) (rs : List Record) (s : State) (o : Option State) → step N T cures fresh r ≡ o
          → and_then o (λ s'. read_from N T cures s' rs) ≡ some s → Begins N T cures (r ∷ rs)
      first r rs s none q f = absurd (none-some f)
      first r rs s (some o) q f =
          let x = read-front N T cures o rs s (step-sound N T cures fresh r o tt q) f in
          record { more = x.0; written = goes-written (r ∷ rs ++ x.0) (back N T cures fresh r o (rs ++ x.0) q x.1) }

      to : (rs : List Record) → 1 ≤ length rs → (s : State) → read_from N T cures fresh rs ≡ some s → Begins N T cures rs
      to [] l s e = absurd (omega arith)
      to (r ∷ rs) l s e = first r rs s (step N T cures fresh r) refl (sym (read-cons N T cures fresh r rs) ∙ e)

      from : Begins N T cures rs → Passes N T cures rs
      from b = let x = front_read N T cures fresh rs (b.more, written-goes (rs ++ b.more) b.written) in record { state = x.0; reads = x.1 }
